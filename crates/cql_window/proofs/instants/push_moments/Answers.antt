use Rattle.std.proofs.lemmas.Grind.{common_steps}
use Rattle.std.proofs.lemmas.Bool.Decides.{nat_tests}
use Rattle.std.proofs.lemmas.List.{append-nil}
use Rattle.std.proofs.Common.{◌≡◌, ◌∷◌, ◌++◌, false, nat_lt, map, subst, sym, ap, ◌∙◌, arith}
use Rattle.std.specs.List.{filter}
use Rattle.cql_window.specs.Changes.{is_within}
use Rattle.cql_window.specs.Moments.{instant_of}
use Rattle.cql_window.specs.Window.{AreAscending}
use Rattle.cql_window.proofs.Leaving.{in_order, none_from}
use Rattle.cql_window.proofs.instants.push_moments.Goals as goal

pub returns-then-to-instant : goal.returns-then-to-instant
returns-then-to-instant c =
    let f = instant_of c.args.moment.now in
    let row = c.in-Some.row.now in
    let is : c.loop-row.row-iterator ≡ row ∷ c.next.new.self = c.in-Some.ensures.steps in
    let past : nat_lt (f row) c.args.to ≡ false = grind (arith, nat_tests, c.if-to-instant.true, c.of-instant.ensures) in
    let none = none_from c.args.from c.args.to f row c.next.new.self (in_order c.args.moment.now c.args.to c.ranges.to.fits) past (subst AreAscending is c.loop-row.invariant.2) in
    sym (append-nil c.loop-row.instants.items)
    ∙ ap (λ l. c.loop-row.instants.items ++ l) (sym none)
    ∙ ap (λ it. c.loop-row.instants.items ++ filter (is_within c.args.from c.args.to) (map f it)) (sym is)
    ∙ c.loop-row.invariant.3

pub loop-row-preserved-in-Continue-1 : goal.loop-row-preserved-in-Continue-1
loop-row-preserved-in-Continue-1 c = grind (arith, common_steps)
