use Rattle.std.proofs.lemmas.Bool.{false≢true}
use Rattle.std.proofs.lemmas.Grind.{common_steps}
use Rattle.std.proofs.Common.{arith, sym}
use Rattle.cql_reply.proofs.list_place.ListPlace.fill.Goals as goal

pub loop-whole-preserved : goal.loop-whole-preserved
loop-whole-preserved g c = grind (arith, common_steps)

pub returns : goal.returns
returns g c = grind (arith, common_steps)

pub returns-then-not-fill_item : goal.returns-then-not-fill_item
returns-then-not-fill_item g c = grind (arith, common_steps)

pub push-requires : goal.push-requires
push-requires g c = omega arith

pub put-requires : goal.put-requires
put-requires g c = omega arith

pub overflow_add-self : goal.overflow_add-self
overflow_add-self g c = grind (arith, common_steps)

pub loop-whole-init : goal.loop-whole-init
loop-whole-init g c = grind (arith, common_steps)

pub loop-whole-smaller : goal.loop-whole-smaller
loop-whole-smaller g c = grind (arith, common_steps)

pub returns-then-not-has_room : goal.returns-then-not-has_room
returns-then-not-has_room g c = grind (arith, common_steps)

pub returns-in-Shut-clause-full : goal.returns-in-Shut-clause-full
returns-in-Shut-clause-full g c = λ e. absurd (false≢true (sym e))
