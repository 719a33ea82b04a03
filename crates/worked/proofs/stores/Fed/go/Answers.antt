use Rattle.std.proofs.Common.{rules, ◌≡◌, ℕ, ◌≤◌, [], ◌∷◌, Option, Some, None, IfSome, refl, arith}
use Rattle.std.specs.Prelude.{IsSomeAnd}
use Rattle.cql_value.specs.declared.schema.ColumnType.TheVariants.{Number}
use Rattle.cql_value.specs.Schema.{HasTypes}
use Rattle.cql_store.specs.Held.{Held, Stubs, stub_of, Updates, CanAdvance, advanced}
use Rattle.cql_store.specs.Next.{TakesFrom, IsNextLaw}
use Rattle.worked.proofs.stores.Fed.go.Goals as goal

went : IsNextLaw → (n m : ℕ) (old new : Stubs) (id to : ℕ) (o : Option Held) → stub_of old id ≡ o → IsSomeAnd o (CanAdvance to) → IfSome o (λ h. Updates old new id (Some (advanced to h)))
    → TakesFrom (HasTypes (Number ∷ [])) n old → n ≤ m → to ≤ m → TakesFrom (HasTypes (Number ∷ [])) m new
went law n m old new id to None is can up from more within = absurd can
went law n m old new id to (Some h) is can up from more within = (law (Number ∷ [])).advanced n m old new id to h from is can.live up more within

pub invariant_of-self : goal.invariant_of-self
invariant_of-self c =
    let can = c.may_advance.ensures.0 (search rules) in
    went c.next_law.ensures c.self.inside.opened c.max-self-inside.result c.self.inside.store c.advance.new.self c.args.id c.args.to (stub_of c.self.inside.store c.args.id) refl can
    (rw (← c.in_ok-ready.ensures.id, ← c.in_ok-ready.ensures.to) c.advance.ensures)
    c.self.invariant (omega arith) (omega arith)
