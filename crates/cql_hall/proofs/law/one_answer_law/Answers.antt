use Rattle.cql_hall.proofs.Calls.{has_one_answer}
use Rattle.cql_hall.proofs.law.one_answer_law.Goals as goal

pub returns : goal.returns
returns c = has_one_answer
