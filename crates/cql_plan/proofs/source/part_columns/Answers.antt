use Rattle.std.proofs.lemmas.Grind.{common_steps}
use Rattle.std.proofs.Common.{arith}
use Rattle.cql_plan.proofs.Each.{stops, goes_on, ends}
use Rattle.cql_plan.proofs.source.part_columns.Goals as goal

pub loop-name-preserved : goal.loop-name-preserved
loop-name-preserved c = grind (arith, common_steps, stops, goes_on, ends)

pub returns-in_err-part_column : goal.returns-in_err-part_column
returns-in_err-part_column c = grind (arith, stops, goes_on, ends)

pub returns : goal.returns
returns c = grind (arith, stops, goes_on, ends)
