use Rattle.std.proofs.lemmas.Bool.{false≢true}
use Rattle.std.proofs.lemmas.Grind.{common_steps}
use Rattle.std.proofs.Common.{arith}
use Rattle.cql_reply.proofs.block_place.BlockPlaceTextPlace.put_short.Goals as goal

pub put_one-requires : goal.put_one-requires
put_one-requires c = grind (arith, common_steps)

pub returns-then-as_slice-lt1-clause-told : goal.returns-then-as_slice-lt1-clause-told
returns-then-as_slice-lt1-clause-told c = λ e. absurd (false≢true e)

pub returns-else-this-lt2-clause-told : goal.returns-else-this-lt2-clause-told
returns-else-this-lt2-clause-told c = λ e. absurd (false≢true e)
