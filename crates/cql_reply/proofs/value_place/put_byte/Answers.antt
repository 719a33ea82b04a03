use Rattle.json.specs.Print.{escape_byte}
use Rattle.std.proofs.lemmas.Grind.{common_steps}
use Rattle.std.proofs.Common.{arith}
use Rattle.cql_reply.proofs.value_place.put_byte.Goals as goal

pub returns-then-byte-lt32-clause-bytes : goal.returns-then-byte-lt32-clause-bytes
unfolding escape_byte
returns-then-byte-lt32-clause-bytes c = grind (arith, common_steps)

pub returns-then-letter-gt0-clause-bytes : goal.returns-then-letter-gt0-clause-bytes
unfolding escape_byte
returns-then-letter-gt0-clause-bytes c = grind (arith, common_steps)

pub returns-else-byte-lt32-clause-bytes : goal.returns-else-byte-lt32-clause-bytes
unfolding escape_byte
returns-else-byte-lt32-clause-bytes c = grind (arith, common_steps)
