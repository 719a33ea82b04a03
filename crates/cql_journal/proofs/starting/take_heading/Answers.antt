use Rattle.std.proofs.Common.{◌≢◌, ◌++◌, List, ℕ, sym, ap, ◌∙◌}
use Rattle.cql_journal.specs.Record.{heading}
use Rattle.cql_journal.proofs.Beginning.{heading_taken, new_file, no_file, other_long, other_short}
use Rattle.cql_journal.proofs.starting.take_heading.Goals as goal

pub returns-in-Err : goal.returns-in-Err
returns-in-Err g c = no_file _ _ _ c.in-Err.ensures

pub returns-in-Some : goal.returns-in-Some
returns-in-Some g c =
    let held = c.in-Ok-false.ensures in
    new_file _ _ _ _ held.kept (held.none c.in-Ok-false.field-0-test) (c.in-Some.ensures.some ∙ ap (λ t. t ++ c.in-Some.field-0.now) c.as_slice-in-Ok-false.ensures)

pub returns-in-None : goal.returns-in-None
returns-in-None g c =
    let held = c.in-Ok-false.ensures in
    other_short _ _ _ held.kept (held.none c.in-Ok-false.field-0-test) (λ lost is. c.in-None.ensures.none lost (is ∙ ap (λ t. t ++ lost) (sym c.as_slice-in-Ok-false.ensures)))

pub returns-then-not-has_heading : goal.returns-then-not-has_heading
returns-then-not-has_heading g c =
    let free : (behind : List ℕ) → c.as_slice.result.now ≢ heading ++ behind = c.has_heading.ensures.none c.if-not-has_heading.true in
    other_long _ _ _ c.in-Ok-true.ensures.kept (c.in-Ok-true.ensures.some c.in-Ok-true.field-0-test) (λ behind is. free behind (c.as_slice.ensures ∙ is))

pub returns-else-not-has_heading : goal.returns-else-not-has_heading
returns-else-not-has_heading g c =
    let h = c.has_heading.ensures.some c.if-not-has_heading.false in
    heading_taken _ _ _ _ h.0 c.in-Ok-true.ensures.kept (sym c.as_slice.ensures ∙ h.1) c.consume.ensures
