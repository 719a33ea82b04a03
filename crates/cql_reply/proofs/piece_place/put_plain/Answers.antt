use Rattle.std.proofs.lemmas.Grind.{common_steps}
use Rattle.std.proofs.Common.{arith}
use Rattle.cql_reply.proofs.Pieces.{told_plain}
use Rattle.cql_reply.proofs.piece_place.put_plain.Goals as goal

pub returns-clause-told : goal.returns-clause-told
returns-clause-told c = told_plain c.args.room.now.bytes c.put.new.self.bytes c.args.bytes.now c.args.from c.min-count.result c.put.ensures.bytes

pub slice_bounds-put-end : goal.slice_bounds-put-end
slice_bounds-put-end c = grind (arith, common_steps)

pub put-requires : goal.put-requires
put-requires c = grind (arith, common_steps)

pub returns-clause-within : goal.returns-clause-within
returns-clause-within c = grind (arith, common_steps)

pub returns-then-from-bytes-clause-within : goal.returns-then-from-bytes-clause-within
returns-then-from-bytes-clause-within c = grind (arith, common_steps)
