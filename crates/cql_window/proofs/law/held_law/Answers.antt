use Rattle.cql_window.proofs.Language as language
use Rattle.cql_window.proofs.law.held_law.Goals as goal

pub returns : goal.returns
returns c = language.held_law
