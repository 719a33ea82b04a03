use Rattle.std.proofs.lemmas.Result.{IfOk-weaker}
use Rattle.cql_plan.specs.Condition.{holds}
use Rattle.cql_plain.proofs.Saying.{either_part}
use Rattle.cql_plain.proofs.once.+or_parts.Goals as goal

pub returns-in_ok-whole-in-Or : goal.returns-in_ok-whole-in-Or
returns-in_ok-whole-in-Or t c =
    IfOk-weaker c.or_parts-in-Or.result _ _ (λ d made row. either_part c.args.whole c.get.result.now c.get-in-Or.result.now c.args.condition.now (holds row c.in_ok-whole-in-Or.whole) (holds row d) row (cc) (c.in_ok-whole-in-Or.ensures row) (made row)) c.or_parts-in-Or.ensures
