use Rattle.std.proofs.lemmas.Grind.{common_steps}
use Rattle.std.proofs.Common.{rules, arith}
use Rattle.cql_sessions.proofs.Telling.{told_no_memory, told_kept, told_bare}
use Rattle.cql_sessions.proofs.caller.Caller.call.Goals as goal

pub returns-then-is_err-clause-told : goal.returns-then-is_err-clause-told
returns-then-is_err-clause-told g c = λ nothing.
    told_no_memory _ _ _ _ _ _ _ _ _ _ (first_of (search rules, grind (arith, common_steps))) nothing c.put_fault.ensures.buffers

pub returns-clause-told : goal.returns-clause-told
returns-clause-told g c = λ nothing.
    told_kept _ _ _ _ c.finish-receipt.result _ _ c.args.buffer.now c.begin_lent-told.new.buffer c.begin_lent-told.new.self.held c.begin_lent-told.result (first_of (search rules, grind (arith, common_steps))) (first_of (search rules, grind (arith, common_steps)))
    (first_of (search rules, grind (arith, common_steps))) c.call-pending.ensures.tenant.1 (first_of (search rules, grind (arith, common_steps))) c.begin_lent-told.ensures.told

pub returns-then-not-self-clause-told : goal.returns-then-not-self-clause-told
returns-then-not-self-clause-told g c = λ nothing.
    told_bare _ _ _ _ c.finish-receipt.result _ _ c.args.buffer.now c.begin.new.buffer c.begin.new.self.held c.begin.result (first_of (search rules, grind (arith, common_steps))) (first_of (search rules, grind (arith, common_steps)))
    (first_of (search rules, grind (arith, common_steps))) c.call-pending.ensures.tenant.1 (first_of (search rules, grind (arith, common_steps))) (first_of (search rules, grind (arith, common_steps))) c.begin.ensures.told
