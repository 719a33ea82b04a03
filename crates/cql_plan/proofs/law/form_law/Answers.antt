use Rattle.cql_plan.proofs.Fits.{form_law}
use Rattle.cql_plan.proofs.law.form_law.Goals as goal

pub returns : goal.returns
returns c = form_law
