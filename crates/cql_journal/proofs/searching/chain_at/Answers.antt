use Rattle.cql_journal.proofs.Hiding.{no_first}
use Rattle.cql_journal.proofs.searching.chain_at.Goals as goal

pub returns-in-Some-clause-none : goal.returns-in-Some-clause-none
returns-in-Some-clause-none c = λ e more. no_first _ _ _ _ more c.requires c.split_at.ensures.front c.in-Some.ensures.cut
