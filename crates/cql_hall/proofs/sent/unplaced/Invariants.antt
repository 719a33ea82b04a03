use Rattle.std.proofs.Common.{◌≡◌, ℕ, ◌<◌, map}
use Rattle.std.specs.Prelude.{Some, slice_get}
use Rattle.cql_hall.specs.Sent.{Sent, sent_as, IsWithin}
use Rattle.cql_hall.proofs.sent.unplaced.Given as goal

-- each receipt so far has a place
abbrev pub invariant-loop-number : goal.invariant-loop-number
invariant-loop-number l = (k : ℕ) (s : Sent) → k < l.number → slice_get (map sent_as l.sent) k ≡ Some s → IsWithin l.count s.place
