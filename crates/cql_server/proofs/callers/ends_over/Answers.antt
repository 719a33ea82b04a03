use denote.Param.Send.{sendable}
use Rattle.cql_hall.proofs.Crosses.{hall_sync}
use Rattle.cql_server.proofs.callers.ends_over.Goals as goal

pub serve-requires-sync-C : goal.serve-requires-sync-C
serve-requires-sync-C g c κs within = search (sendable, hall_sync) depth 20

pub serve-requires-2-sync-C : goal.serve-requires-2-sync-C
serve-requires-2-sync-C g c κs within = search (sendable, hall_sync) depth 20
