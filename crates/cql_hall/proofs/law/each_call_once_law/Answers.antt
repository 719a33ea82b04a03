use Rattle.cql_hall.proofs.Calls.{has_each_call_once}
use Rattle.cql_hall.proofs.law.each_call_once_law.Goals as goal

pub returns : goal.returns
returns c = has_each_call_once
