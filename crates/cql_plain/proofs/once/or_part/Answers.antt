use Rattle.std.proofs.Common.{◌≡◌, ◌||◌, List, subst, rules}
use Rattle.std.specs.Prelude.{IfOk}
use Rattle.cql_value.specs.declared.value.Value.{Value}
use Rattle.cql_plan.specs.Condition.{holds}
use Rattle.cql_plain.proofs.Saying.{offered_already}
use Rattle.cql_plain.proofs.once.or_part.Goals as goal

pub returns-then-offers : goal.returns-then-offers
returns-then-offers c = λ row. offered_already c.args.whole c.args.part.now row (c.offers.ensures c.if-offers.true row)

pub returns : goal.returns
returns c =
    let same : c.in_ok-part.part ≡ c.args.part.now = search rules in
    subst (λ p. IfOk c.either.result (λ d. (row : List Value) → holds row d ≡ (holds row c.args.whole || holds row p))) same c.either.ensures
