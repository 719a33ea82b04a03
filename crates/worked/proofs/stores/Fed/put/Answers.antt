use Rattle.std.proofs.Common.{[], ◌∷◌, arith}
use Rattle.cql_value.specs.declared.schema.ColumnType.TheVariants.{Number}
use Rattle.worked.proofs.stores.Fed.put.Goals as goal

pub invariant_of-self-then-at-le-GREATEST : goal.invariant_of-self-then-at-le-GREATEST
invariant_of-self-then-at-le-GREATEST c =
    rw c.at-at.ensures ((c.next_law.ensures (Number ∷ [])).appended c.self.inside.opened c.self.inside.store c.append.new.self c.args.row c.self.invariant (omega (arith, c.if-self-at.true, c.at-at.ensures)) c.in_ok-append.ensures.ok)
