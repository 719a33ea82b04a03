use Rattle.cql_journal.proofs.Parsing.{no_space, fits}
use Rattle.cql_journal.proofs.record.record_in.Goals as goal

pub returns-in_default-cut_at-clause-none : goal.returns-in_default-cut_at-clause-none
returns-in_default-cut_at-clause-none c = λ e f is. no_space _ _ _ e c.in-Some.ensures.some c.in_default-cut_at.ensures.none is

pub returns-clause-fits : goal.returns-clause-fits
returns-clause-fits c = fits _ _ _ _ _ c.in-Some.ensures.some c.in-Some-cut_at.ensures.cut c.in-Some-cut_at.ensures.first c.requires
