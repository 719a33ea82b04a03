use Rattle.cql_wire.proofs.Buffering.{buffers_behind}
use Rattle.cql_wire.proofs.reply_buffer.ReplyBuffer.put.Goals as goal

pub returns-then-bytes-left-clause-buffers : goal.returns-then-bytes-left-clause-buffers
returns-then-bytes-left-clause-buffers g c =
    buffers_behind _ _ _ _ _ _ c.write_all.result c.in_ok-flush.ensures.ok c.in_ok-flush.ensures.emptied c.write_all.ensures.ok c.write_all.ensures.err
