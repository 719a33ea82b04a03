use Rattle.std.proofs.Common.{arith}
use Rattle.std.proofs.lemmas.Grind.{common_steps}
use Rattle.cql_hall.proofs.filings.FilingsIter.next_call.Goals as goal

pub split_at-requires : goal.split_at-requires
split_at-requires c = grind (arith, common_steps)

pub invariant_of-self : goal.invariant_of-self
invariant_of-self c = grind (arith, common_steps)

pub returns-in_err-first : goal.returns-in_err-first
returns-in_err-first c = grind (arith, common_steps)
