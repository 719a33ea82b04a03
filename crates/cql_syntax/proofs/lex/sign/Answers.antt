use Rattle.std.proofs.Common.{rules}
use Rattle.cql_syntax.proofs.lex.sign.Goals as goal
use Rattle.cql_syntax.specs.Lex.{sign}

pub returns-in-60-clause-value : goal.returns-in-60-clause-value
unfolding sign
returns-in-60-clause-value c = search rules
