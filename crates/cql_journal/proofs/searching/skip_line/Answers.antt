use Rattle.std.proofs.Common.{arith}
use Rattle.std.proofs.lemmas.Grind.{common_steps}
use Rattle.cql_journal.proofs.Hiding.{skip_none, skip_more, skip_found, skip_over, skip_many, gives_up}
use Rattle.cql_journal.proofs.searching.skip_line.Goals as goal

pub loop-init : goal.loop-init
loop-init g c = skip_none _ _

pub returns-in-Some : goal.returns-in-Some
returns-in-Some g c = skip_found _ _ _ _ _ _ _ _ c.loop.invariant c.as_slice-held.ensures c.in-Some.ensures.cut c.in-Some.ensures.first c.consume.ensures

pub returns-in-Ok-false : goal.returns-in-Ok-false
returns-in-Ok-false g c = skip_over _ _ _ _ _ _ _ _ _ c.loop.invariant c.as_slice-held.ensures c.in_default.ensures.none c.consume-in-loop.ensures c.in-Ok-false.field-0-test c.in-Ok-false.ensures

pub loop-preserved : goal.loop-preserved
loop-preserved g c = skip_more _ _ _ _ _ _ _ _ _ c.loop.invariant c.as_slice-held.ensures c.in_default.ensures.none c.consume-in-loop.ensures c.in-Ok-true.field-0-test c.in-Ok-true.ensures

pub returns-in-Err : goal.returns-in-Err
returns-in-Err g c = gives_up _ _ _ c.in-Err.ensures

pub returns : goal.returns
returns g c = skip_many _ _ _ _ _ (omega (arith, c.loop-test.false, c.loop.auto.counter-end)) c.loop.invariant

pub consume-requires : goal.consume-requires
consume-requires g c = grind (arith, common_steps)
