-- The bytes so far stand behind what was held; there is room for those that are left.
use Rattle.std.proofs.Common.{◌≡◌, ◌+◌, ◌++◌, length, take}
use Rattle.cql_reply.proofs.byte_room.ByteRoom.put_few.Given as goal

abbrev pub invariant-loop-byte : goal.invariant-loop-byte
invariant-loop-byte l =
    (l.self.bytes ≡ l.fn.self.bytes ++ take l.byte-index l.bytes) × (length l.self.bytes ≡ length l.fn.self.bytes + l.byte-index) × (l.self.size ≡ l.fn.self.size)
