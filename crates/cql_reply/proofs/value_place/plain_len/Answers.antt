use Rattle.cql_reply.proofs.Plain.{escape_plain}
use Rattle.std.proofs.Common.{arith}
use Rattle.cql_reply.proofs.value_place.plain_len.Goals as goal

pub returns-then-at-near-clause-plain : goal.returns-then-at-near-clause-plain
returns-then-at-near-clause-plain c = grind (arith, escape_plain)

pub returns-clause-plain : goal.returns-clause-plain
returns-clause-plain c = grind (arith, escape_plain)
