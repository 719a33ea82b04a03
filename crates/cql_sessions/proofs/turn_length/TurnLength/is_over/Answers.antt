use Rattle.std.proofs.Common.{arith}
use Rattle.cql_sessions.proofs.turn_length.TurnLength.is_over.Goals as goal

pub returns-then-looks : goal.returns-then-looks
returns-then-looks g c = λ many. absurd (omega arith)

pub returns-else-looks : goal.returns-else-looks
returns-else-looks g c = λ many. absurd (omega arith)
