use Rattle.std.proofs.Common.{arith}
use Rattle.std.proofs.lemmas.Grind.{common_steps}
use Rattle.cql_sessions.proofs.socket.Socket.note.Goals as goal

pub returns-clause-unread : goal.returns-clause-unread
returns-clause-unread c = grind (arith, common_steps)
