use Rattle.std.proofs.Common.{◌≡◌, ◌==◌, Some, sym, subst}
use Rattle.std.specs.Bool.{Decides}
use Rattle.std.specs.Int.Bits.{bit_xor}
use Rattle.cql_asked.proofs.Comparing.{differ}
use Rattle.cql_asked.proofs.login.difference.Goals as goal

pub returns-in-Some : goal.returns-in-Some
returns-in-Some c = subst (λ o. Decides (bit_xor c.args.byte c.in-Some.other == 0) (o ≡ Some c.args.byte)) (sym c.in-Some.is) (differ c.args.byte c.in-Some.other)
