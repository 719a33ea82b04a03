use Rattle.std.proofs.lemmas.Grind.{common_steps}
use Rattle.cql_reply.proofs.Escaping.{told_run}
use Rattle.std.proofs.Common.{arith}
use Rattle.cql_reply.proofs.value_place.put_run.Goals as goal

pub returns-else-run-lt-NEAR-clause-told : goal.returns-else-run-lt-NEAR-clause-told
returns-else-run-lt-NEAR-clause-told c = grind (arith, told_run)

pub returns-then-run-lt-NEAR-clause-told : goal.returns-then-run-lt-NEAR-clause-told
returns-then-run-lt-NEAR-clause-told c = grind (arith, told_run)

pub returns-then-run-eq0-clause-told : goal.returns-then-run-eq0-clause-told
returns-then-run-eq0-clause-told c = grind (arith, common_steps)

pub slice_bounds-put-end : goal.slice_bounds-put-end
slice_bounds-put-end c = grind (arith, common_steps)

pub slice_bounds-put_few-end : goal.slice_bounds-put_few-end
slice_bounds-put_few-end c = grind (arith, common_steps)

pub put-requires : goal.put-requires
put-requires c = grind (arith, common_steps)

pub put_few-requires : goal.put_few-requires
put_few-requires c = grind (arith, common_steps)
