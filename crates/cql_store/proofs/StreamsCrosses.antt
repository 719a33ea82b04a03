-- The stores of all streams may go to another thread, and be shared with it.
use denote.Param.Send.{IsSend, IsSync, sendable}
use Rattle.std.proofs.vec.Vec.TheSendSync as vec
use Rattle.std.proofs.alloc.Global.TheSendSync as heap
use Rattle.std.below.std_heap.proofs.GlobalAllocator.TheSendSync as frees
use Rattle.cql_store.proofs.Crosses.{store_send, store_sync}
use Rattle.cql_store.specs.contracts.owner_streams.OwnerStreams as owner
use Rattle.cql_store.specs.contracts.stores.Stores as stores

owner_send : IsSend owner.the_row
owner_send = search (sendable, vec.the_send, heap.the_send, frees.the_frees, store_send) depth 20

owner_sync : IsSync owner.the_row
owner_sync = search (sendable, vec.the_sync, heap.the_sync, store_sync) depth 20

pub stores_send : IsSend stores.the_row
stores_send = search (sendable, vec.the_send, heap.the_send, frees.the_frees, owner_send) depth 20

pub stores_sync : IsSync stores.the_row
stores_sync = search (sendable, vec.the_sync, heap.the_sync, owner_sync) depth 20
