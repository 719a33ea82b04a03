-- One change more of the port of a shape without groups.
use Rattle.std.proofs.Common.{◌≡◌, ℕ, ◌+◌, ◌-◌, ◌≤◌, List, [], ◌∷◌, ◌++◌, Bool, true, false, not, ◌&&◌, if◌then◌else◌, Option, Some, None, refl, sym, ap, ◌∙◌, subst, arith, append-nil}
use Rattle.std.specs.Option.{is_none}
use Rattle.cql_value.specs.declared.value.Value.{Value}
use Rattle.cql_value.specs.Schema.{HasTypes}
use Rattle.cql_bag.specs.Changes.{change_of, CanChange}
use Rattle.cql_bag.specs.declared.change.Change.{Change}
use Rattle.cql_plan.specs.declared.node.Shape.{Shape}
use Rattle.cql_algebra.specs.Shape.{items_on}
use Rattle.cql_ops.specs.Linear.{with_change, turned_changes, how_many, lacks}
use Rattle.cql_ops.proofs.Linear.{turned-append}
use Rattle.cql_plain.specs.Logs.{Logged, logged, logged_bag, IsAddsLaw}
use Rattle.cql_plain.specs.Made.{AreMade}
use Rattle.cql_plain.specs.Shaped.{KeepsRows}
use Rattle.cql_plain.specs.declared.projected.Projected.{Projected}
use Rattle.cql_plain.proofs.Telling.{types-append}

module _ (adds : IsAddsLaw) (shape : Shape) (rows : Projected) (c : Change) (has : KeepsRows shape rows) (types : HasTypes shape.columns c.row) (can : CanChange c (logged_bag rows.log)) where
  abbrev f : List Value → Option (List Value)
  f = items_on shape.items

  abbrev many : Logged → ℕ
  many log = how_many (lacks shape.items) (logged_bag log)

  -- so many rows more or fewer have no value
  counted : (o : Option (List Value)) → f c.row ≡ o → many (logged c rows.log) + (if not c.plus && is_none o then 1 else 0) ≡ rows.lacking + (if c.plus && is_none o then 1 else 0)
  counted o is =
      let more : many (logged c rows.log) + (if not c.plus && is_none o then 1 else 0) ≡ many rows.log + (if c.plus && is_none o then 1 else 0)
      = subst (λ (v : Option (List Value)). many (logged c rows.log) + (if not c.plus && is_none v then 1 else 0) ≡ many rows.log + (if c.plus && is_none v then 1 else 0)) is ((adds rows.log c has.is_log can).many (lacks shape.items)) in
      more ∙ ap (λ n. n + (if c.plus && is_none o then 1 else 0)) (sym has.lacking)

  counted_as : (plus : Bool) (o : Option (List Value)) → c.plus ≡ plus → f c.row ≡ o → many (logged c rows.log) + (if not plus && is_none o then 1 else 0) ≡ rows.lacking + (if plus && is_none o then 1 else 0)
  counted_as plus o p is = subst (λ q. many (logged c rows.log) + (if not q && is_none o then 1 else 0) ≡ rows.lacking + (if q && is_none o then 1 else 0)) p (counted o is)

  turned : (o : Option (List Value)) → f c.row ≡ o → turned_changes f (rows.log.untold ++ c ∷ []) ≡ rows.untold.items ++ with_change c.plus o []
  turned o is = turned-append f rows.log.untold (c ∷ []) ∙ (λ i. sym has.untold i ++ with_change c.plus (is i) [])

  -- one that leaves was counted
  pub some_lacking : f c.row ≡ None → c.plus ≡ false → 1 ≤ rows.lacking
  some_lacking none minus = omega (arith, counted_as false None minus none)

  module _ (after : Projected) (log : after.log ≡ logged c rows.log) (made : AreMade shape.items after.made.rows.items) where
    keeps : (o : Option (List Value)) → f c.row ≡ o → after.untold.items ≡ rows.untold.items ++ with_change c.plus o [] → after.lacking ≡ many (logged c rows.log) → KeepsRows shape after
    keeps o is untold lacking =
        let adding = adds rows.log c has.is_log can in
        record {
          plain = has.plain;
          is_log = rw log adding.there;
          columns = rw log (types-append shape.columns rows.log.untold (c ∷ []) has.columns (types, tt));
          untold = rw log (untold ∙ sym (turned o is));
          lacking = rw log lacking;
          made = made;
        }

    pub keeps_row : (row : List Value) → f c.row ≡ Some row → after.untold.items ≡ rows.untold.items ++ change_of c.plus row ∷ [] → after.lacking ≡ rows.lacking → KeepsRows shape after
    keeps_row row is untold lacking =
        keeps (Some row) is untold
        (elim (c.plus) as (λ plus. c.plus ≡ plus → after.lacking ≡ many (logged c rows.log)) [
          | true ↦ λ p. omega (arith, lacking, counted_as true (Some row) p is)
          | false ↦ λ p. omega (arith, lacking, counted_as false (Some row) p is)
        ] refl)

    pub keeps_come : f c.row ≡ None → c.plus ≡ true → after.untold.items ≡ rows.untold.items → after.lacking ≡ rows.lacking + 1 → KeepsRows shape after
    keeps_come none plus untold lacking =
        keeps None none (untold ∙ sym (append-nil rows.untold.items)) (omega (arith, lacking, counted_as true None plus none))

    pub keeps_gone : f c.row ≡ None → c.plus ≡ false → after.untold.items ≡ rows.untold.items → after.lacking ≡ rows.lacking - 1 → KeepsRows shape after
    keeps_gone none minus untold lacking =
        keeps None none (untold ∙ sym (append-nil rows.untold.items)) (omega (arith, lacking, counted_as false None minus none))
