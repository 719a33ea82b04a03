use Rattle.std.proofs.Common.{◌≡◌, drop}
use Rattle.cql_plan.specs.Outcome.{each}
use Rattle.cql_plan.specs.Sources.{source_of}
use Rattle.cql_plan.proofs.Each.{after}
use Rattle.cql_plan.proofs.source.sources.Given as goal

abbrev pub invariant-loop-input : goal.invariant-loop-input
invariant-loop-input g l = each (source_of (g.L.Lookup.readable l.lookup)) l.inputs ≡ after l.sources.items (each (source_of (g.L.Lookup.readable l.lookup)) (drop l.input-index l.inputs))
