use Rattle.cql_window.proofs.ProjectionLaws as laws
use Rattle.cql_window.proofs.projection_law.whole_projection_law.Goals as goal

pub returns : goal.returns
returns c = laws.whole_projection_law
