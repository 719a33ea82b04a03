use Rattle.std.proofs.Common.{refl}
use Rattle.cql_connections.proofs.run_queue.RunQueue.waits_held_up.Goals as goal

pub get-requires : goal.get-requires
get-requires g c = λ k. (refl, tt)
