use denote.Param.Send.{IsSync, sendable}
use Rattle.std.proofs.Crossing.{crosses}
use Rattle.cql_server.specs.contracts.log.LogLines as log_type
use Rattle.cql_server.proofs.Crosses.{log_row_sync}
use Rattle.cql_server.proofs.programs.start_writer.Goals as goal

pub spawn_scoped-started-requires-send-F : goal.spawn_scoped-started-requires-send-F
spawn_scoped-started-requires-send-F g c κs within =
    let log : Unit {0} → IsSync log_type.the_row = λ u. log_row_sync in
    search (log, crosses, sendable) depth 60 fits 20000
