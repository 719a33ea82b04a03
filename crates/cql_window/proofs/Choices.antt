-- The columns that a grant shows.
use Rattle.std.proofs.Common.{◌≡◌, ℕ, suc, ◌<◌, Bool, true, false, ◌&&◌, ◌||◌, not, List, [], ◌∷◌, map, length, refl, ap, subst, ◌∙◌, sym, arith}
use Rattle.std.specs.Prelude.{Option, None, Some, option_map, unwrap_or, slice_get, is_some, nat_le}
use Rattle.std.specs.List.{AllByRecursion, list_all, list_any, cons_option}
use Rattle.std.specs.Str.{bytes_eq}
use Rattle.std.proofs.lemmas.Slice.Eq.{bytes_eq-Decides}
use Rattle.std.proofs.lemmas.Bool.{and_parts}
use Rattle.cql_value.specs.declared.schema.Column.{Column}
use Rattle.cql_value.specs.Schema.{are_distinct, is_schema}
use Rattle.cql_window.specs.Projection.{projected}
use Rattle.cql_window.specs.Chosen.{column_index, are_unlike, is_shown, shown_projection}
use Rattle.cql_window.proofs.Picks.{at_all, all_within}
use Rattle.cql_value.proofs.Positions.{first}

-- THE COLUMN OF A NAME
-- there is a column of that name at the index
pub record NamedAt (columns : List Column) (name : List ℕ) (index : ℕ) : Type 0 where
  pub column : Column
  pub is : slice_get columns index ≡ Some column
  pub named : column.name ≡ name
  pub within : index < length columns

named_at : (columns : List Column) (name : List ℕ) → is_some (column_index columns name) ≡ true → NamedAt columns name (unwrap_or (column_index columns name) 0)
named_at [] name h = absurd cc
named_at (c ∷ cs) name h = by (λ some. named_at cs name some) (bytes_eq c.name name) refl
  where
    test : Column → Bool
    test column = bytes_eq column.name name

    back : (o : Option ℕ) → is_some (option_map suc o) ≡ true → is_some o ≡ true
    back None e = absurd cc
    back (Some n) e = refl

    up : (o : Option ℕ) → is_some o ≡ true → unwrap_or (option_map suc o) 0 ≡ suc (unwrap_or o 0)
    up None e = absurd cc
    up (Some n) e = refl

    by : (is_some (column_index cs name) ≡ true → NamedAt cs name (unwrap_or (column_index cs name) 0)) → (b : Bool) → test c ≡ b → NamedAt (c ∷ cs) name (unwrap_or (column_index (c ∷ cs) name) 0)
    by at_rest true is =
        let here : unwrap_or (column_index (c ∷ cs) name) 0 ≡ 0 = ap (λ o. unwrap_or o 0) (first test c cs true is) in
        subst (NamedAt (c ∷ cs) name) (sym here) (record { column = c; is = refl; named = (bytes_eq-Decides c.name name).0 is; within = omega arith })
    by at_rest false is =
        let later = first test c cs false is in
        let some = back (column_index cs name) (sym (ap is_some later) ∙ h) in
        let rest = at_rest some in
        let there : unwrap_or (column_index (c ∷ cs) name) 0 ≡ suc (unwrap_or (column_index cs name) 0) = ap (λ o. unwrap_or o 0) later ∙ up (column_index cs name) some in
        let more : suc (unwrap_or (column_index cs name) 0) < length (c ∷ cs) = let w = rest.within in omega (arith, w) in
        subst (NamedAt (c ∷ cs) name) (sym there) (record { column = rest.column; is = rest.is; named = rest.named; within = more })

-- A CHOICE
abbrev index_or : List Column → List ℕ → ℕ
index_or columns name = unwrap_or (column_index columns name) 0

-- the columns of the names have these names
named_so : (columns : List Column) (names : List (List ℕ)) → list_all (λ name. is_some (column_index columns name)) names ≡ true
    → (map (λ (c : Column). c.name) (projected columns (map (index_or columns) names)) ≡ names) × AllByRecursion (λ index. index < length columns) (map (index_or columns) names)
named_so columns [] h = (refl, tt)
named_so columns (name ∷ names) h =
    let parts = and_parts (is_some (column_index columns name)) _ h in
    let here = named_at columns name parts.0 in
    let rest = named_so columns names parts.1 in
    ((λ i. map (λ (c : Column). c.name) (cons_option (here.is i) (projected columns (map (index_or columns) names)))) ∙ (λ i. here.named i ∷ rest.0 i), (here.within, rest.1))

any_named : (name : List ℕ) (columns : List Column) → list_any (λ other. bytes_eq name other.name) columns ≡ list_any (λ other. bytes_eq name other) (map (λ (c : Column). c.name) columns)
any_named name [] = refl
any_named name (c ∷ cs) = ap (λ b. bytes_eq name c.name || b) (any_named name cs)

distinct_named : (columns : List Column) → are_distinct columns ≡ are_unlike (map (λ (c : Column). c.name) columns)
distinct_named [] = refl
distinct_named (c ∷ cs) = (λ i. not (any_named c.name cs i) && distinct_named cs i)

length_names : (columns : List Column) → length (map (λ (c : Column). c.name) columns) ≡ length columns
length_names [] = refl
length_names (c ∷ cs) = ap suc (length_names cs)

-- a choice is a schema
choice_schema : (columns : List Column) (names : List (List ℕ)) → is_shown columns (Some names) ≡ true → is_schema (projected columns (map (index_or columns) names)) ≡ true
choice_schema columns names h =
    let last = and_parts (nat_le 1 (length names) && nat_le (length names) 16 && list_all (λ name. is_some (column_index columns name)) names) _ h in
    let all = and_parts (nat_le 1 (length names) && nat_le (length names) 16) _ last.0 in
    let so = (named_so columns names all.1).0 in
    let shown : List Column = projected columns (map (index_or columns) names) in
    let size : length shown ≡ length names = sym (length_names shown) ∙ ap length so in
    (λ i. nat_le 1 (size i) && nat_le (size i) 16 && distinct_named shown i) ∙ (λ i. nat_le 1 (length names) && nat_le (length names) 16 && are_unlike (so i))
    ∙ (λ i. all.0 i && last.1 i)

-- what is shown is a schema, and stands within the columns
pub shown_schema : (columns : List Column) (names : Option (List (List ℕ))) → is_schema columns ≡ true → is_shown columns names ≡ true → is_schema (projected columns (shown_projection columns names)) ≡ true
shown_schema columns None h k = ap is_schema (at_all columns) ∙ h
shown_schema columns (Some names) h k = choice_schema columns names k

pub shown_within : (columns : List Column) (names : Option (List (List ℕ))) → is_shown columns names ≡ true → AllByRecursion (λ index. index < length columns) (shown_projection columns names)
shown_within columns None k = all_within (length columns)
shown_within columns (Some names) k =
    let last = and_parts (nat_le 1 (length names) && nat_le (length names) 16 && list_all (λ name. is_some (column_index columns name)) names) _ k in
    let all = and_parts (nat_le 1 (length names) && nat_le (length names) 16) _ last.0 in
    (named_so columns names all.1).1
