use Rattle.std.proofs.Common.{arith}
use Rattle.cql_journal.proofs.Hiding.{search_more, search_found, search_over, search_long, gives_up_behind}
use Rattle.cql_journal.proofs.searching.hides_batch.Goals as goal

pub loop-preserved : goal.loop-preserved
loop-preserved g c = search_more _ _ _ _ _ c.loop.invariant c.in-Ok-On.field-0-is c.in-Ok-On.ensures

pub returns-in-Err : goal.returns-in-Err
returns-in-Err g c = gives_up_behind _ _ _ _ _ c.loop.invariant.consumed c.in-Err.ensures

pub returns : goal.returns
returns g c = search_long _ _ _ _ (omega (arith, c.loop-test.false)) c.loop.invariant

pub returns-in-Ok-Found : goal.returns-in-Ok-Found
returns-in-Ok-Found g c = search_found _ _ _ _ _ c.loop.invariant c.in-Ok-Found.field-0-is c.in-Ok-Found.ensures

pub returns-in-Ok-Over : goal.returns-in-Ok-Over
returns-in-Ok-Over g c = search_over _ _ _ _ _ c.loop.invariant c.in-Ok-Over.field-0-is c.in-Ok-Over.ensures
