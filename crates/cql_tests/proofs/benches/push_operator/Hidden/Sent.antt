use denote.Param.Send.{sendable}
use denote.Param.Sent.{Sends}
use Rattle.cql_plain.proofs.Crosses.{plain_join_send, plain_shape_send}
use Rattle.cql_tests.proofs.benches.push_operator.Hides.{part-1-1, part-1-2}

pub sends-part-1-1 : Sends part-1-1
sends-part-1-1 = search (sendable, plain_join_send) depth 20

pub sends-part-1-2 : Sends part-1-2
sends-part-1-2 = search (sendable, plain_shape_send) depth 20
