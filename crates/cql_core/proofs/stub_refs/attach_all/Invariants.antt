use Rattle.std.proofs.Common.{take}
use Rattle.cql_plan.specs.Ports.{ports}
use Rattle.cql_core.specs.Attached.{Attached}
use Rattle.cql_core.proofs.stub_refs.attach_all.Given as goal

-- a stub for each input so far
abbrev pub invariant-loop-input : goal.invariant-loop-input
invariant-loop-input l = Attached l.fn.directory l.tenant l.base l.hold (take l.input-index l.plan.inputs) (take l.input-index (ports l.plan)) l.initial.stores l.stores l.stub_refs
