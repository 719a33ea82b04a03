use Rattle.std.proofs.Common.{rules}
use Rattle.cql_plan.proofs.item.function_of.Goals as goal

pub returns-then-not-same_kind : goal.returns-then-not-same_kind
returns-then-not-same_kind c = search rules

pub returns-else-not-same_kind : goal.returns-else-not-same_kind
returns-else-not-same_kind c = search rules
