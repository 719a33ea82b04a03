use Rattle.cql_syntax.proofs.Reserved.{reserved_as_name}
use Rattle.cql_syntax.proofs.lex.reserved_law.Goals as goal

pub returns : goal.returns
returns c = reserved_as_name
