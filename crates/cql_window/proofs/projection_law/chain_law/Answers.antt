use Rattle.cql_window.proofs.ProjectionLaws as laws
use Rattle.cql_window.proofs.projection_law.chain_law.Goals as goal

pub returns : goal.returns
returns c = laws.chain_law
