use Rattle.std.proofs.Common.{rules}
use Rattle.cql_text.specs.Reading.{optional}
use Rattle.cql_text.specs.Readers.{where_clause}
use Rattle.cql_text.proofs.block.where_clause.Goals as goal

pub returns-in_err-condition : goal.returns-in_err-condition
unfolding optional where_clause
returns-in_err-condition c = search rules

pub returns-in_ok-condition : goal.returns-in_ok-condition
unfolding optional where_clause
returns-in_ok-condition c = search rules
