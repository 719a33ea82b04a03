use Rattle.std.proofs.Common.{rules}
use Rattle.cql_plan.specs.Sources.{window_of}
use Rattle.cql_plan.proofs.source.window_of.Goals as goal

pub returns-in-Range : goal.returns-in-Range
unfolding window_of
returns-in-Range c = search rules
