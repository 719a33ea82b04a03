use Rattle.std.proofs.Common.{◌≡◌, ◌++◌, ◌∙◌, sym, subst}
use Rattle.cql_window.specs.Pin.{AreRows}
use Rattle.cql_window.specs.Through.{narrowed_all}
use Rattle.cql_plan.specs.Ports.{PartsAmong}
use Rattle.cql_eval.specs.Pin.{AreOf}
use Rattle.cql_tests.specs.Pins.{one_number, one_column}
use Rattle.cql_tests.proofs.Fitting.{joined, are_rows, all_seen}
use Rattle.cql_tests.proofs.pins.window.Goals as goal

pub new-requires : goal.new-requires
new-requires c =
    let rows = c.args.rows.items in
    let split : c.in_ok-content.content ++ c.in_ok-unseen-2.unseen ≡ rows = (λ i. c.in_ok-content.ensures i ++ c.in_ok-unseen-2.ensures i) ∙ joined c.min.result rows c.in_ok-unseen.ensures.items c.in_ok-unseen.ensures.tail in
    let parts : PartsAmong one_column c.in_ok-window.window = subst (PartsAmong one_column) (sym c.in_ok-window.ensures) c.requires.parts in
    subst (AreRows c.in_ok-window.window) (sym split) (are_rows c.in_ok-window.window rows parts c.requires.rows)

pub returns-clause-seen : goal.returns-clause-seen
returns-clause-seen c =
    let rows = c.args.rows.items in
    let split : c.in_ok-content.content ++ c.in_ok-unseen-2.unseen ≡ rows = (λ i. c.in_ok-content.ensures i ++ c.in_ok-unseen-2.ensures i) ∙ joined c.min.result rows c.in_ok-unseen.ensures.items c.in_ok-unseen.ensures.tail in
    let held : c.new.result.content ++ c.new.result.unseen ≡ rows = (λ i. (c.new.ensures i).content ++ (c.new.ensures i).unseen) ∙ split in
    subst (λ xs. AreOf one_number (narrowed_all one_column xs)) (sym held) (all_seen rows c.requires.rows.typed)
