use Rattle.std.proofs.Common.{◌≡◌, Some, sym}
use Rattle.cql_store.specs.Sequence.{slot_of}
use Rattle.cql_store.proofs.Settled.{settled_same, marked_here}
use Rattle.cql_store.proofs.retention_index.mark_at.Goals as goal

pub returns-in-Some-clause-same : goal.returns-in-Some-clause-same
returns-in-Some-clause-same c =
    let found : slot_of c.args.stubs.now.slots c.args.slot ≡ Some c.in-Some.stub.now = sym c.in-Some.ensures.value in
    rw c.mark.ensures (settled_same c.args.count c.args.stubs.now.slots c.args.slot c.in-Some.stub.now found)

pub returns-in-Some-clause-marked : goal.returns-in-Some-clause-marked
returns-in-Some-clause-marked c =
    let found : slot_of c.args.stubs.now.slots c.args.slot ≡ Some c.in-Some.stub.now = sym c.in-Some.ensures.value in
    rw c.mark.ensures (marked_here c.args.count c.args.stubs.now.slots c.args.slot c.in-Some.stub.now found)
