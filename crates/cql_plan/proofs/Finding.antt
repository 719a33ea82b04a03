-- Turns of the search for a column.
use Rattle.std.proofs.Common.{◌≡◌, ◌<◌, ◌≤◌, ℕ, suc, true, false, List, [], ◌∷◌, ◌++◌, length, drop, get_or, sym, ap, ◌∙◌}
use Rattle.std.specs.Prelude.{Option, Some, None, is_some, Err, if◌then◌else◌}
use Rattle.std.proofs.Math.Seq.{drop-cons}
use Rattle.std.proofs.lemmas.List.{drop_all, append-nil}
use Rattle.cql_plan.specs.declared.row.Field.{Field}
use Rattle.cql_plan.specs.declared.row.FoundColumn.{FoundColumn}
use Rattle.cql_plan.specs.declared.error.PlanFault.TheVariants.{AmbiguousColumn}
use Rattle.cql_plan.specs.Columns.{meant, may_mean, the_one, column_named}

-- what was found so far
abbrev pub found_list : Option FoundColumn → List FoundColumn
found_list None = []
found_list (Some found) = found ∷ []

-- the column at this index is the first of those that are left
abbrev pub here : ℕ → Field → FoundColumn
here column field = record { column = column; kind = field.kind }

turn : (q : Option (List ℕ)) (n : List ℕ) (fs : List Field) (i : ℕ) (f : Field) → i < length fs → f ≡ get_or fs i f
    → meant q n i (drop i fs) ≡ (if may_mean q n f then here i f ∷ meant q n (suc i) (drop (suc i) fs) else meant q n (suc i) (drop (suc i) fs))
unfolding meant
turn q n fs i f within is =
    ap (meant q n i) (drop-cons fs i f within)
    ∙ ap (λ g. meant q n i (g ∷ drop (suc i) fs)) (sym is)

-- another column: nothing is found
pub passed : (q : Option (List ℕ)) (n : List ℕ) (fs : List Field) (i : ℕ) (f : Field) (found : Option FoundColumn) → i < length fs → f ≡ get_or fs i f
    → false ≡ may_mean q n f → meant q n 0 fs ≡ found_list found ++ meant q n i (drop i fs)
    → meant q n 0 fs ≡ found_list found ++ meant q n (suc i) (drop (suc i) fs)
passed q n fs i f found within is other so =
    so ∙ ap (λ more. found_list found ++ more) (turn q n fs i f within is ∙ ap (λ b. if b then here i f ∷ meant q n (suc i) (drop (suc i) fs) else meant q n (suc i) (drop (suc i) fs)) (sym other))

taken : (q : Option (List ℕ)) (n : List ℕ) (fs : List Field) (i : ℕ) (f : Field) (found : Option FoundColumn) → i < length fs → f ≡ get_or fs i f
    → true ≡ may_mean q n f → meant q n 0 fs ≡ found_list found ++ meant q n i (drop i fs)
    → meant q n 0 fs ≡ found_list found ++ here i f ∷ meant q n (suc i) (drop (suc i) fs)
taken q n fs i f found within is same so =
    so ∙ ap (λ more. found_list found ++ more) (turn q n fs i f within is ∙ ap (λ b. if b then here i f ∷ meant q n (suc i) (drop (suc i) fs) else meant q n (suc i) (drop (suc i) fs)) (sym same))

-- the first that is found
pub first : (q : Option (List ℕ)) (n : List ℕ) (fs : List Field) (i : ℕ) (f : Field) (found : Option FoundColumn) → i < length fs → f ≡ get_or fs i f
    → true ≡ may_mean q n f → false ≡ is_some found → meant q n 0 fs ≡ found_list found ++ meant q n i (drop i fs)
    → meant q n 0 fs ≡ found_list (Some (here i f)) ++ meant q n (suc i) (drop (suc i) fs)
first q n fs i f None within is same none so = taken q n fs i f None within is same so
first q n fs i f (Some before) within is same none so = cc

two : (a b : FoundColumn) (more all : List FoundColumn) → all ≡ (a ∷ []) ++ b ∷ more → the_one all ≡ Err AmbiguousColumn
two a b more all so = ap the_one so

-- a second one
pub second : (q : Option (List ℕ)) (n : List ℕ) (fs : List Field) (i : ℕ) (f : Field) (found : Option FoundColumn) → i < length fs → f ≡ get_or fs i f
    → true ≡ may_mean q n f → true ≡ is_some found → meant q n 0 fs ≡ found_list found ++ meant q n i (drop i fs)
    → column_named q n fs ≡ Err AmbiguousColumn
unfolding column_named
second q n fs i f None within is same some so = cc
second q n fs i f (Some before) within is same some so =
    two before (here i f) (meant q n (suc i) (drop (suc i) fs)) (meant q n 0 fs) (taken q n fs i f (Some before) within is same so)

-- the columns end
pub ended : (q : Option (List ℕ)) (n : List ℕ) (fs : List Field) (i : ℕ) (found : Option FoundColumn) → length fs ≤ i
    → meant q n 0 fs ≡ found_list found ++ meant q n i (drop i fs) → column_named q n fs ≡ the_one (found_list found)
unfolding column_named meant
ended q n fs i found past so =
    ap the_one (so ∙ ap (λ rest. found_list found ++ meant q n i rest) (drop_all i fs past) ∙ append-nil (found_list found))
