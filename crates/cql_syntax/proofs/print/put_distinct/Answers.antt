use Rattle.std.proofs.Common.{rules}
use Rattle.cql_syntax.proofs.print.put_distinct.Goals as goal

pub returns-in_ok-symbol : goal.returns-in_ok-symbol
returns-in_ok-symbol c = search rules
