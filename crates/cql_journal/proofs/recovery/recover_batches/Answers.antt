use Rattle.std.proofs.Common.{arith}
use Rattle.cql_journal.proofs.Recovering.{recovering_none, recovering_on, is_chain, failed, ends_unknown, ends_damaged, ends_whole, too_many}
use Rattle.cql_journal.proofs.recovery.recover_batches.Goals as goal

pub loop-batches-init : goal.loop-batches-init
loop-batches-init g c = recovering_none _ _ _ _ c.first_place-place.ensures c.requires

pub take_batch-requires : goal.take_batch-requires
take_batch-requires g c = is_chain _ _ _ _ _ _ c.loop-batches.invariant

pub returns-in-Err : goal.returns-in-Err
returns-in-Err g c = λ file h. failed _ file _ _ _ _ c.loop-batches.place _ c.in-Err.fault h c.loop-batches.invariant c.in-Err.ensures

pub returns-in-Err-hides_batch : goal.returns-in-Err-hides_batch
returns-in-Err-hides_batch g c = λ file h. ends_unknown _ file _ _ _ _ _ _ c.loop-batches.place _ _ h c.loop-batches.invariant c.in-Ok-false.field-0-test c.in-Ok-false.ensures _ _ c.in-Err-hides_batch.ensures

pub returns-in-Ok-true-hides_batch : goal.returns-in-Ok-true-hides_batch
returns-in-Ok-true-hides_batch g c = λ file h. ends_damaged _ file _ _ _ _ _ _ c.loop-batches.place _ _ h c.loop-batches.invariant c.in-Ok-false.field-0-test c.in-Ok-false.ensures _ c.in-Ok-true-hides_batch.field-0-test c.in-Ok-true-hides_batch.ensures

pub returns-in-Ok-false-hides_batch : goal.returns-in-Ok-false-hides_batch
returns-in-Ok-false-hides_batch g c = λ file h. ends_whole _ file _ _ _ _ _ _ c.loop-batches.place _ _ h c.loop-batches.invariant c.in-Ok-false.field-0-test c.in-Ok-false.ensures _ c.in-Ok-false-hides_batch.field-0-test c.in-Ok-false-hides_batch.ensures

pub loop-batches-preserved : goal.loop-batches-preserved
loop-batches-preserved g c = recovering_on _ _ _ _ _ _ _ _ _ _ c.loop-batches.invariant c.in-Ok-true.field-0-test c.in-Ok-true.ensures

pub returns : goal.returns
returns g c = λ file h. too_many _ file _ _ _ _ _ h (omega (arith, c.loop-batches-test.false, c.loop-batches.auto.batches-end)) c.loop-batches.invariant
