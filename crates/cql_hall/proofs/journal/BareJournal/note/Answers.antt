use Rattle.std.proofs.lemmas.Grind.{common_steps}
use Rattle.std.proofs.Common.{arith}
use Rattle.cql_hall.proofs.journal.BareJournal.note.Goals as goal

pub returns-clause-kept : goal.returns-clause-kept
returns-clause-kept g c = grind (arith, common_steps)

pub returns-clause-bare : goal.returns-clause-bare
returns-clause-bare g c = grind (arith, common_steps)
