use Rattle.std.proofs.Common.{[], ◌∷◌, arith}
use Rattle.cql_value.specs.declared.schema.ColumnType.TheVariants.{Number}
use Rattle.worked.proofs.stores.Fed.attach.Goals as goal

pub invariant_of-self-2 : goal.invariant_of-self-2
invariant_of-self-2 c =
    (c.next_law.ensures (Number ∷ [])).attached c.self.inside.opened c.self.inside.store c.attach.new.self c.in_ok-id.id c.args.window 0 c.args.hold c.self.invariant c.in_ok-id.ensures.ok (omega arith) c.requires
