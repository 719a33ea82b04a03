use Rattle.std.proofs.Common.{rules}
use Rattle.cql_text.specs.Readers.{bounded_rows}
use Rattle.cql_text.proofs.window.bounded_rows.Goals as goal

pub returns-in_err-rows : goal.returns-in_err-rows
unfolding bounded_rows
returns-in_err-rows c = search rules

pub returns-in_err-slide : goal.returns-in_err-slide
unfolding bounded_rows
returns-in_err-slide c = search rules

pub returns : goal.returns
unfolding bounded_rows
returns c = search rules
