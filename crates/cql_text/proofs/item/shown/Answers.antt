use Rattle.std.proofs.Common.{rules}
use Rattle.cql_text.specs.Reading.{choice}
use Rattle.cql_text.specs.Readers.{shown, sees_aggregate}
use Rattle.cql_text.proofs.item.shown.Goals as goal

pub returns-in_err-sum : goal.returns-in_err-sum
unfolding choice shown sees_aggregate
returns-in_err-sum c = search rules

pub returns-in_ok-sum : goal.returns-in_ok-sum
unfolding choice shown sees_aggregate
returns-in_ok-sum c = search rules
