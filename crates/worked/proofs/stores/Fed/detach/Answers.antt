use Rattle.std.proofs.Common.{[], ◌∷◌}
use Rattle.cql_value.specs.declared.schema.ColumnType.TheVariants.{Number}
use Rattle.worked.proofs.stores.Fed.detach.Goals as goal

pub invariant_of-self : goal.invariant_of-self
invariant_of-self c = (c.next_law.ensures (Number ∷ [])).detached c.self.inside.opened c.self.inside.store c.detach.new.self c.args.id c.self.invariant c.detach.ensures
