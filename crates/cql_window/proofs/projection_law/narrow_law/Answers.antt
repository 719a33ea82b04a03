use Rattle.cql_window.proofs.Narrows as laws
use Rattle.cql_window.proofs.projection_law.narrow_law.Goals as goal

pub returns : goal.returns
returns c = laws.narrow_law
