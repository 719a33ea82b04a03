use Rattle.std.proofs.Common.{sym, ap}
use Rattle.cql_core.specs.ReplyModel.{Done, Based, Refused}
use Rattle.cql_core.specs.Steps.{reply_model}
use Rattle.cql_wire.proofs.Buffering.{told_as, told_blocks, told_listing}
use Rattle.cql_wire.proofs.reply_buffer.ReplyBuffer.put_reply.Goals as goal

pub returns-in-Ok-clause-buffers : goal.returns-in-Ok-clause-buffers
returns-in-Ok-clause-buffers g c = told_as _ _ _ Done _ _ _ (ap reply_model c.in-Ok.is) c.put.ensures.buffers

pub returns-in-Base-clause-buffers : goal.returns-in-Base-clause-buffers
returns-in-Base-clause-buffers g c = told_as _ _ _ (Based c.in-Base.base) _ _ _ (ap reply_model c.in-Base.is) c.put_short.ensures.buffers

pub returns-in-Refused-clause-buffers : goal.returns-in-Refused-clause-buffers
returns-in-Refused-clause-buffers g c = told_as _ _ _ (Refused c.in-Refused.refusal) _ _ _ (ap reply_model c.in-Refused.is) c.put_short-in-Refused.ensures.buffers

pub returns-in-Blocks-clause-buffers : goal.returns-in-Blocks-clause-buffers
returns-in-Blocks-clause-buffers g c =
    told_blocks _ _ _ c.self.inside.room.bytes c.in-Blocks.answer.blocks c.blocks-in-Blocks.result.now c.in-Blocks.answer.pin.next c.next.result _ _ _ (sym c.self.view_is) c.blocks-in-Blocks.ensures.value c.next.ensures (ap reply_model c.in-Blocks.is)
    c.put_blocks.ensures.buffers

pub returns-in-Listing-clause-buffers : goal.returns-in-Listing-clause-buffers
returns-in-Listing-clause-buffers g c = told_listing _ _ _ c.self-in-Listing.inside.room.bytes c.in-Listing.listing _ _ _ (sym c.self-in-Listing.view_is) (ap reply_model c.in-Listing.is) c.put_listing.ensures.buffers
