use Rattle.std.proofs.Common.{sym, rules}
use Rattle.std.proofs.lemmas.Bool.{false≢true}
use Rattle.cql_hall.proofs.journal.KeptJournal.note.Goals as goal

pub returns-clause-kept : goal.returns-clause-kept
returns-clause-kept c = search rules

pub returns-clause-bare : goal.returns-clause-bare
returns-clause-bare c = λ bare. absurd (false≢true (sym bare))
