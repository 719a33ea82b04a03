use Rattle.std.proofs.lemmas.Grind.{common_steps}
use Rattle.std.proofs.Common.{arith}
use Rattle.cql_reply.proofs.list_place.ListPlace.fill_item.Goals as goal

pub push-requires : goal.push-requires
push-requires g c = omega arith

pub returns-then-put_short-clause-told : goal.returns-then-put_short-clause-told
returns-then-put_short-clause-told g c = grind (arith, common_steps)

pub returns-clause-done : goal.returns-clause-done
returns-clause-done g c = grind (arith, common_steps)

pub returns-then-put_short-clause-done : goal.returns-then-put_short-clause-done
returns-then-put_short-clause-done g c = grind (arith, common_steps)

pub returns-then-not-has_room-clause-done : goal.returns-then-not-has_room-clause-done
returns-then-not-has_room-clause-done g c = grind (arith, common_steps)

pub returns-then-put_short-clause-within : goal.returns-then-put_short-clause-within
returns-then-put_short-clause-within g c = grind (arith, common_steps)

pub returns-then-not-has_room-clause-within : goal.returns-then-not-has_room-clause-within
returns-then-not-has_room-clause-within g c = grind (arith, common_steps)

pub returns-clause-within : goal.returns-clause-within
returns-clause-within g c = grind (arith, common_steps)

pub returns-clause-told : goal.returns-clause-told
returns-clause-told g c = grind (arith, common_steps)
