use denote.Param.Send.{IsSend, sendable}
use Rattle.cql_sessions.proofs.Crosses.{ending_row_send, connection_row_send}
use Rattle.cql_sessions.specs.contracts.ending.Ending as ending_type
use Rattle.cql_sessions.specs.contracts.connection.Connection as connection_type
use Rattle.cql_server.proofs.callers.fn.WorkerSetup.serve.scope.Goals as goal

pub start_journal_writer-requires-send-T : goal.start_journal_writer-requires-send-T
start_journal_writer-requires-send-T g c κs within =
    let connection : Unit {0} → IsSend connection_type.the_row = λ u. connection_row_send in
    search (sendable, connection) depth 20

pub start_journal_writer-requires-send-D : goal.start_journal_writer-requires-send-D
start_journal_writer-requires-send-D g c κs within =
    let ending : Unit {0} → IsSend ending_type.the_row = λ u. ending_row_send in
    search (sendable, ending) depth 20
