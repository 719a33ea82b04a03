use denote.Param.{param}
use denote.Param.Send.{IsSend, IsSync, sendable}
use denote.Ref.{NamedLft}
use Rattle.std.proofs.Crossing.{crosses}
use Rattle.cql_connections.specs.contracts.scheduler.Scheduler as scheduler_type
use Rattle.cql_connections.proofs.Crosses.{scheduler_row_sync}
use Rattle.cql_sessions.specs.contracts.caller.Service as service_type
use Rattle.cql_server.specs.contracts.journal_writer.JournalWriter as writer_type
use Rattle.cql_server.proofs.Crosses.{journal_writer_row_send, service_sync}
use Rattle.cql_server.proofs.journal_writer.start_journal_writer.Goals as goal

-- each fact stands behind a function, since a search takes a record apart and then misses the whole
pub spawn_scoped-started-requires-send-F : goal.spawn_scoped-started-requires-send-F
spawn_scoped-started-requires-send-F g c κs within =
    let writer : (a : NamedLft) → IsSend (writer_type.the_row a) = λ a. journal_writer_row_send a in
    let service : (a : NamedLft) → IsSync (service_type.the_row a (param 1 g.row.R) (param 2 g.row.C) (param 3 g.row.G)) = λ a. service_sync a (param 1 g.row.R) (param 2 g.row.C) (param 3 g.row.G) c.type_bounds.sync-R c.type_bounds.sync-C c.type_bounds.sync-G in
    let scheduler : (a : NamedLft) → IsSync (scheduler_type.the_row a (param 4 g.row.T) (param 5 g.row.D)) = λ a. scheduler_row_sync a (param 4 g.row.T) (param 5 g.row.D) c.type_bounds.send-T c.type_bounds.send-D in
    search (writer, service, scheduler, crosses, sendable) depth 60 fits 20000
