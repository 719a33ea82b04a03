use Rattle.std.proofs.Common.{◌≡◌, length, arith}
use Rattle.cql_store.proofs.Next.{appended_from}
use Rattle.cql_part_tests.proofs.stores.Tried.put.Goals as goal

pub invariant_of-self-2 : goal.invariant_of-self-2
invariant_of-self-2 c =
    rw c.at-at.ensures (appended_from (λ row. length row ≡ 1) c.self.inside.opened c.self.inside.store c.append.new.self c.args.row c.self.invariant (omega (arith, c.if-at-self.false, c.at-at.ensures)) c.in_ok-append.ensures.ok)
