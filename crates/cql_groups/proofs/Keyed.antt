-- Shapes whose groups are kept by their keys.
use Rattle.std.proofs.Common.{◌≡◌, ℕ, zero, suc, ◌+◌, ◌<◌, List, [], ◌∷◌, ◌++◌, take, length, get_or, Some, sym, ap, ◌∙◌, subst, refl, arith, add-one, append_assoc}
use Rattle.std.specs.List.{AllByRecursion}
use Rattle.std.proofs.Math.Seq.{take-suc}
use Rattle.cql_value.specs.declared.schema.ColumnType.{ColumnType}
use Rattle.cql_plan.specs.Fit.{HasColumn}
use Rattle.cql_bag.specs.declared.change.Change.{Change}
use Rattle.cql_bag.specs.Bag.{Counts}
use Rattle.cql_bag.specs.Changes.{changed_by, CanChangeBy, Grows}
use Rattle.cql_plan.specs.declared.node.Shape.{Shape}
use Rattle.cql_algebra.specs.Shape.{shape_value}
use Rattle.cql_groups.specs.Grouped.{TellsGroups}
use Rattle.cql_plain.specs.Shaped.{TellsShape}
use Rattle.cql_ops.proofs.Linear.{changed_by-append, can_join}
use Rattle.cql_plain.proofs.Telling.{types-append}

pub has_column : (columns : List ColumnType) (at : ℕ) → at < length columns → HasColumn columns at
has_column [] at lt = absurd (omega (arith, lt))
has_column (t ∷ columns) zero lt = (t, refl)
has_column (t ∷ columns) (suc at) lt = has_column columns at (omega (arith, lt))

pub all_more : {A : Type 0} (P : A → Type 0) (xs : List A) (x : A) → AllByRecursion P xs → P x → AllByRecursion P (xs ++ x ∷ [])
all_more P [] x all p = (p, tt)
all_more P (y ∷ xs) x all p = (all.0, all_more P xs x all.1 p)

-- ---- telling

pub told_both : (shape : Shape) (a b c : Counts) (before middle out : List Change) → TellsGroups shape a b before middle → TellsGroups shape b c middle out → TellsGroups shape a c before out
told_both shape a b c before middle out (xs, e, s) (ys, f, t) = (
  xs ++ ys,
  f ∙ ap (λ l. l ++ ys) e ∙ append_assoc before xs ys,
  record {
    there = can_join xs ys a s.there (subst (CanChangeBy ys) s.leads t.there);
    leads = t.leads ∙ ap (changed_by ys) s.leads ∙ sym (changed_by-append xs ys a);
    columns = λ typed. types-append _ xs ys (s.columns typed) (t.columns typed);
  },
)

pub told_more : (shape : Shape) (a b : Counts) (before middle out : List Change) → TellsGroups shape a b before middle → Grows middle out → Grows before out
told_more shape a b before middle out (xs, e, s) (ys, f) = (xs ++ ys, f ∙ ap (λ l. l ++ ys) e ∙ append_assoc before xs ys)

pub tells_shape : (shape : Shape) (port told after : Counts) (before out : List Change) → shape_value shape port ≡ Some after → TellsGroups shape told after before out → TellsShape shape port told after before out
tells_shape shape port told after before out is (cs, grown, t) = (cs, grown, record { there = t.there; leads = t.leads; value = is; columns = t.columns })

pub all_next_at : {A : Type 0} (P : A → Type 0) (xs : List A) (i : ℕ) (d : A) → i < length xs → AllByRecursion P (take i xs) → P (get_or xs i d) → AllByRecursion P (take (i + 1) xs)
all_next_at P xs i d lt all p = rw add-one (subst (AllByRecursion P) (sym (take-suc xs i d lt)) (all_more P (take i xs) (get_or xs i d) all p))
