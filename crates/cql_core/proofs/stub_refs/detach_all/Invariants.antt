use Rattle.std.proofs.Common.{take}
use Rattle.cql_core.specs.Attached.{Gone}
use Rattle.cql_core.proofs.stub_refs.detach_all.Given as goal

-- those so far are gone
abbrev pub invariant-loop-stub_ref : goal.invariant-loop-stub_ref
invariant-loop-stub_ref l = Gone l.initial.stores l.stores (take l.stub_ref-index l.stub_refs)
