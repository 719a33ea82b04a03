use denote.Param.Send.{sendable}
use Rattle.cql_groups.proofs.Crosses.{group_shape_send}
use Rattle.cql_joins.proofs.Crosses.{keyed_join_send}
use Rattle.cql_ops.proofs.mixed.Mixed.TheSendSync as mixed
use Rattle.cql_plain.proofs.Crosses.{plain_join_send, plain_shape_send}
use Rattle.cql_server.proofs.programs.outcome.Goals as goal

pub listen-requires-send-O : goal.listen-requires-send-O
listen-requires-send-O g c κs within = search (sendable, mixed.the_send, plain_join_send, plain_shape_send) depth 20

pub listen-requires-in-Keyed-send-O : goal.listen-requires-in-Keyed-send-O
listen-requires-in-Keyed-send-O g c κs within = search (sendable, mixed.the_send, keyed_join_send, group_shape_send) depth 20
