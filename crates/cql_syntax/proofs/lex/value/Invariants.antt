use Rattle.std.proofs.Common.{◌≡◌, take}
use Rattle.cql_syntax.specs.Lex.{value}
use Rattle.cql_syntax.proofs.lex.value.Given as goal

abbrev pub invariant-loop-b : goal.invariant-loop-b
invariant-loop-b l = l.n ≡ value (take l.b-index l.digits)
