use Rattle.std.proofs.Common.{arith}
use Rattle.cql_sessions.proofs.socket.Socket.gathers.Goals as goal

pub returns-then-len-lt-GATHERED-clause-stuck : goal.returns-then-len-lt-GATHERED-clause-stuck
returns-then-len-lt-GATHERED-clause-stuck c = λ stuck. grind arith
