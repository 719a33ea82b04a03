use Rattle.std.proofs.Common.{◌≡◌, length, arith}
use Rattle.cql_store.proofs.Next.{attached_from}
use Rattle.cql_part_tests.proofs.stores.Tried.attach.Goals as goal

pub invariant_of-self-2 : goal.invariant_of-self-2
invariant_of-self-2 c =
    attached_from (λ row. length row ≡ 1) c.self.inside.opened c.self.inside.store c.attach.new.self c.in_ok-attach.field-0 c.args.window c.self.inside.opened c.args.hold c.self.invariant c.in_ok-attach.ensures.ok (omega arith) c.requires
