-- The changes from one bag to another, and their columns.
use Rattle.std.proofs.Common.{◌≡◌, ℕ, zero, suc, ◌-◌, List, [], ◌∷◌, ◌++◌, append_assoc, replicate, Bool, true, false, sym, ap, ◌∙◌, subst, Result, Ok, Err, OnOk, OnErr}
use Rattle.std.proofs.lemmas.List.{append_cancel_left}
use Rattle.cql_value.specs.Schema.{HasTypes}
use Rattle.cql_value.specs.declared.value.Value.{Value}
use Rattle.cql_value.specs.declared.schema.ColumnType.{ColumnType}
use Rattle.cql_bag.specs.Bag.{Counts, count}
use Rattle.cql_bag.specs.Changes.{change_of, excess, difference, Tells, Grows}
use Rattle.cql_bag.specs.declared.change.Change.{Change}
use Rattle.cql_algebra.specs.Typed.{AreOf}
use Rattle.cql_ops.specs.Clauses.{AreChangesOf}
use Rattle.cql_plain.specs.Telling.{TellsOf}

pub types-append : (columns : List ColumnType) (xs ys : List Change) → AreChangesOf columns xs → AreChangesOf columns ys → AreChangesOf columns (xs ++ ys)
types-append columns [] ys p q = q
types-append columns (c ∷ xs) ys p q = (p.0, types-append columns xs ys p.1 q)

types_so_many : (columns : List ColumnType) (n : ℕ) (plus : Bool) (row : List Value) → HasTypes columns row → AreChangesOf columns (replicate n (change_of plus row))
types_so_many columns zero plus row types = tt
types_so_many columns (suc n) plus row types = (types, types_so_many columns n plus row types)

pub types_excess : (columns : List ColumnType) (plus : Bool) (a b : Counts) → AreOf columns a → AreChangesOf columns (excess plus a b)
types_excess columns plus [] b all = tt
types_excess columns plus (e ∷ a) b all = types-append columns (replicate (e.1 - count e.0 b) (change_of plus e.0)) (excess plus a b) (types_so_many columns (e.1 - count e.0 b) plus e.0 all.0) (types_excess columns plus a b all.1)

types_difference : (columns : List ColumnType) (old new : Counts) → AreOf columns old → AreOf columns new → AreChangesOf columns (difference old new)
types_difference columns old new p q = types-append columns (excess false old new) (excess true new old) (types_excess columns false old new p) (types_excess columns true new old q)

tells_of : (before after : List Change) (old new : Counts) → Tells before after old new → after ≡ before ++ difference old new → TellsOf before after old new
tells_of before after old new (changes, grown, there, leads) rows =
    let same : difference old new ≡ changes = append_cancel_left before (difference old new) changes (sym rows ∙ grown) in (
      changes,
      grown,
      record {
        there = there;
        whole = leads;
        columns = λ columns p q. subst (AreChangesOf columns) same (types_difference columns old new p q);
      },
    )

pub tells_of_both : {X E : Type 0} (r : Result X E) (before after : List Change) (old new : Counts) → OnOk r (Tells before after old new) → OnOk r (after ≡ before ++ difference old new) → OnOk r (TellsOf before after old new)
tells_of_both (Ok x) before after old new tells rows = tells_of before after old new tells rows
tells_of_both (Err e) before after old new tells rows = tt

pub on_err : {X E : Type 0} (P : Type 0) (r : Result X E) → P → OnErr r P
on_err P (Ok x) p = tt
on_err P (Err e) p = p

pub Grows-after : (a b c xs : List Change) → b ≡ a ++ xs → Grows b c → Grows a c
Grows-after a b c xs e (ys, h) = (xs ++ ys, h ∙ ap (λ z. z ++ ys) e ∙ append_assoc a xs ys)
