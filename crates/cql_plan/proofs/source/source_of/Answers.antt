use Rattle.std.proofs.Common.{rules}
use Rattle.cql_plan.specs.Sources.{source_of}
use Rattle.cql_plan.proofs.source.source_of.Goals as goal

pub returns-in-None : goal.returns-in-None
unfolding source_of
returns-in-None g c = search rules

pub returns-in-Some : goal.returns-in-Some
unfolding source_of
returns-in-Some g c = search rules
