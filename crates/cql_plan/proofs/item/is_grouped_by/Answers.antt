use Rattle.std.proofs.Common.{rules}
use Rattle.cql_plan.proofs.item.is_grouped_by.Goals as goal

pub returns-then-is_column : goal.returns-then-is_column
returns-then-is_column c = search rules

pub returns-else-is_column : goal.returns-else-is_column
returns-else-is_column c = search rules
