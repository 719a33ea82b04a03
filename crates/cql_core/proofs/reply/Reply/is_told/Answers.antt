use Rattle.std.proofs.lemmas.Grind.{common_steps}
use Rattle.std.proofs.Common.{arith}
use Rattle.cql_core.proofs.reply.Reply.is_told.Goals as goal

pub returns-in-Base-reply : goal.returns-in-Base-reply
returns-in-Base-reply c = grind (arith, common_steps)

pub returns-in-Blocks : goal.returns-in-Blocks
returns-in-Blocks c = grind (arith, common_steps)

pub returns-in-Listing-reply : goal.returns-in-Listing-reply
returns-in-Listing-reply c = grind (arith, common_steps)

pub returns-in-Ok-matches : goal.returns-in-Ok-matches
returns-in-Ok-matches c = grind (arith, common_steps)

pub returns-in_default : goal.returns-in_default
returns-in_default c = grind (arith, common_steps)

pub returns-in_default-reply : goal.returns-in_default-reply
returns-in_default-reply c = grind (arith, common_steps)

pub returns-in_default-reply-2 : goal.returns-in_default-reply-2
returns-in_default-reply-2 c = grind (arith, common_steps)

pub returns-in_default-reply-3 : goal.returns-in_default-reply-3
returns-in_default-reply-3 c = grind (arith, common_steps)
