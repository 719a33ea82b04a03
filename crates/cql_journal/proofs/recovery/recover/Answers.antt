use Rattle.std.proofs.Common.{inr}
use Rattle.cql_journal.proofs.Recovering.{or_opens, or_fails, fails_at_first, opens_new, heading_first}
use Rattle.cql_journal.proofs.recovery.recover.Goals as goal

pub returns-in-Err : goal.returns-in-Err
returns-in-Err g c = record { ok = tt; err = fails_at_first _ _ _ _ _ c.in-Ok.ensures c.in-Err.ensures }

pub returns-in-Ok-false : goal.returns-in-Ok-false
returns-in-Ok-false g c = record { ok = inr (opens_new _ _ _ _ _ _ c.in-Ok.ensures c.in-Ok-false.field-0-test c.in-Ok-false.ensures c.requires); err = tt }

pub returns-clause-ok : goal.returns-clause-ok
returns-clause-ok g c = or_opens _ _ _ _ _ (c.recover_batches.ensures _ (heading_first _ _ _ _ c.in-Ok.ensures c.in-Ok-true.field-0-test c.in-Ok-true.ensures))

pub returns-clause-err : goal.returns-clause-err
returns-clause-err g c = or_fails _ _ _ _ _ (c.recover_batches.ensures _ (heading_first _ _ _ _ c.in-Ok.ensures c.in-Ok-true.field-0-test c.in-Ok-true.ensures))
