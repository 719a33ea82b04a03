use Rattle.std.proofs.lemmas.Grind.{common_steps}
use Rattle.std.proofs.Common.{rules, arith}
use Rattle.cql_plan.proofs.typed.operated.Goals as goal

pub returns : goal.returns
returns c = grind (arith, common_steps)

pub returns-then-not-same_kind : goal.returns-then-not-same_kind
returns-then-not-same_kind c = search rules
