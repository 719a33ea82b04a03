use Rattle.std.proofs.lemmas.Slice.Eq.{strip_prefix_is}
use Rattle.std.proofs.lemmas.Bool.Decides.{Decides-eqb}
use Rattle.cql_journal.proofs.Beginning.{lost_some, lost_none}
use Rattle.cql_journal.proofs.starting.lost_of.Goals as goal

pub returns-clause-some : goal.returns-clause-some
returns-clause-some c =
    lost_some c.as_slice.result.now c.args.held.now c.strip_prefix.result c.as_slice.ensures (strip_prefix_is Decides-eqb c.as_slice.result.now c.args.held.now c.strip_prefix.result c.strip_prefix.ensures.cases)

pub returns-clause-none : goal.returns-clause-none
returns-clause-none c =
    lost_none c.as_slice.result.now c.args.held.now c.strip_prefix.result c.as_slice.ensures (strip_prefix_is Decides-eqb c.as_slice.result.now c.args.held.now c.strip_prefix.result c.strip_prefix.ensures.cases)
