use Rattle.cql_window.proofs.ProjectionLaws as laws
use Rattle.cql_window.proofs.projection_law.wide_law.Goals as goal

pub returns : goal.returns
returns c = laws.wide_law
