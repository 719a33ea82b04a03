use Rattle.std.proofs.Common.{add-one, arith}
use Rattle.cql_plan.specs.Sources.{source_of}
use Rattle.cql_plan.proofs.Each.{goes_on, stops, ends}
use Rattle.cql_plan.proofs.source.sources.Goals as goal

pub loop-input-preserved : goal.loop-input-preserved
loop-input-preserved g c =
    let one = goes_on (source_of (g.L.Lookup.readable c.args.lookup.now)) _ _ c.input-item.result c.loop-input.sources.items c.in_ok-source_of.field-0 c.loop-input-test.true c.input-item.is c.in_ok-source_of.ensures c.loop-input.invariant in
    rw (add-one, c.in_ok-push.ensures.items) one

pub returns-in_err-source_of : goal.returns-in_err-source_of
returns-in_err-source_of g c = grind (arith, stops, goes_on, ends)

pub returns : goal.returns
returns g c = grind (arith, stops, goes_on, ends)
