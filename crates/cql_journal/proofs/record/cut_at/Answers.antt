use Rattle.std.proofs.Common.{arith}
use Rattle.std.proofs.lemmas.Grind.{common_steps}
use Rattle.cql_journal.proofs.Cutting.{lacks_all, lacks_front}
use Rattle.cql_journal.proofs.record.cut_at.Goals as goal

pub returns-in_default-clause-none : goal.returns-in_default-clause-none
returns-in_default-clause-none c = lacks_all _ _ c.in_default.ensures

pub returns-clause-first : goal.returns-clause-first
returns-clause-first c = lacks_front _ _ _ c.in-Some.ensures

pub returns-clause-cut : goal.returns-clause-cut
returns-clause-cut c = grind (arith, common_steps)
