use Rattle.cql_window.proofs.Language as language
use Rattle.cql_window.proofs.law.range_law.Goals as goal

pub returns : goal.returns
returns c = language.range_law
