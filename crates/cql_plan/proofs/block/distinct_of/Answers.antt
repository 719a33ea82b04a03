use Rattle.std.proofs.Common.{rules}
use Rattle.cql_plan.proofs.block.distinct_of.Goals as goal

pub returns-else-distinct : goal.returns-else-distinct
returns-else-distinct c = search rules

pub returns-in_ok-from_slice : goal.returns-in_ok-from_slice
returns-in_ok-from_slice c = search rules
