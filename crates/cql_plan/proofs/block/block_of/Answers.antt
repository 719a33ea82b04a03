use Rattle.std.proofs.Common.{rules}
use Rattle.cql_plan.specs.Typing.{block_of}
use Rattle.cql_plan.proofs.block.block_of.Goals as goal

pub returns-then-not-are_apart : goal.returns-then-not-are_apart
unfolding block_of
returns-then-not-are_apart g c = search rules
