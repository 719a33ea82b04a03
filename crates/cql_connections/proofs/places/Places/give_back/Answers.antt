use Rattle.std.proofs.lemmas.Grind.{common_steps, get_or_default_zero}
use Rattle.std.proofs.Common.{◌≡◌, ◌-◌, ap, ◌∙◌, arith}
use Rattle.std.specs.Prelude.{set, slice_index}
use Rattle.cql_connections.proofs.places.Places.give_back.Goals as goal

pub returns-clause-taken : goal.returns-clause-taken
returns-clause-taken c = λ within.
    let was : c.index-taken.result.now ≡ slice_index c.args.self.now.taken.items c.args.tenant = c.index-taken.ensures ∙ get_or_default_zero c.args.self.now.taken.items c.args.tenant c.index-taken.result.now within in
    ap (λ n. set c.args.self.now.taken.items c.args.tenant n) (c.saturating_sub.ensures ∙ ap (λ n. n - 1) was)

pub overflow_sub-self : goal.overflow_sub-self
overflow_sub-self c = grind (arith, common_steps)

pub returns-clause-beside : goal.returns-clause-beside
returns-clause-beside c = grind (arith, common_steps)

pub invariant_of-self : goal.invariant_of-self
invariant_of-self c = grind (arith, common_steps)
