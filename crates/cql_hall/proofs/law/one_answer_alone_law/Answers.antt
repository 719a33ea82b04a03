use Rattle.cql_hall.proofs.Alone.{has_one_answer_alone}
use Rattle.cql_hall.proofs.law.one_answer_alone_law.Goals as goal

pub returns : goal.returns
returns c = has_one_answer_alone
