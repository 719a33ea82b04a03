use Rattle.std.proofs.lemmas.Grind.{common_steps}
use Rattle.std.proofs.Common.{arith}
use Rattle.cql_wire.proofs.Buffering.{buffers_behind}
use Rattle.cql_wire.proofs.reply_buffer.ReplyBuffer.put_short.Goals as goal

pub returns-in_ok-flush-in-Err-clause-buffers : goal.returns-in_ok-flush-in-Err-clause-buffers
returns-in_ok-flush-in-Err-clause-buffers g c =
    buffers_behind _ _ _ _ _ _ c.write_short-in-Err.result c.in_ok-flush-in-Err.ensures.ok c.in_ok-flush-in-Err.ensures.emptied c.write_short-in-Err.ensures.ok c.write_short-in-Err.ensures.err

pub returns-in_err-flush-in-Err-clause-buffers : goal.returns-in_err-flush-in-Err-clause-buffers
returns-in_err-flush-in-Err-clause-buffers g c = grind (arith, common_steps)
