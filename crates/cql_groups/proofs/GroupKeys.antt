-- The value of a shape that is kept by its groups is that of its keys' groups; and which of them have none.
use Rattle.std.proofs.Common.{◌≡◌, ◌≢◌, ◌⊎◌, inl, inr, ◌↔◌, ℕ, ◌+◌, ◌*◌, ◌<◌, ◌≤◌, List, [], ◌∷◌, map, true, false, not, ◌||◌, ◌&&◌, if◌then◌else◌, Option, Some, None, refl, sym, ap, ◌∙◌, subst, arith}
use Rattle.std.specs.List.{AllByRecursion, list_any}
use Rattle.std.specs.Option.{is_none}
use Rattle.std.specs.Ordering.{is_eq}
use Rattle.std.specs.Cmp.{tied_itself}
use Rattle.cql_value.specs.Order.{row_cmp, row_cmp_total}
use Rattle.cql_value.specs.declared.value.Value.{Value}
use Rattle.cql_value.specs.declared.schema.ColumnType.{ColumnType}
use Rattle.cql_value.proofs.Members.{nothing}
use Rattle.cql_value.proofs.Ties.{tied, ties_itself}
use Rattle.cql_bag.specs.Bag.{Counts, IsBag, by_order, count, put_all, size_of, distinct}
use Rattle.cql_plan.specs.declared.node.Item.{Item}
use Rattle.cql_plan.specs.declared.node.Item.TheVariants as i
use Rattle.cql_plan.specs.declared.node.Shape.{Shape}
use Rattle.cql_plan.specs.Fit.{is_empty, is_aggregate}
use Rattle.cql_algebra.specs.Shape.{is_count, all_are, with_first, all_of, as_bag, times_over, key_of, key_bag, group_of, key_groups, group_row, groups_value, items_over, shape_value}
use Rattle.cql_algebra.specs.GroupChanges.{over_groups, times_lacking}
use Rattle.cql_algebra.specs.Sums.{sum_over}
use Rattle.cql_plain.proofs.Shaped.{of_groups}
use Rattle.cql_groups.specs.GroupLaws.{Laws}
use Rattle.cql_groups.specs.Grouped.{lacking_groups}
use Rattle.cql_groups.specs.Keyed.{IsKeyedItem, IsKeyed}

abbrev Row : Type 0
Row = List Value

-- ---- without grouped columns

-- the rows of the empty key are all
all_rows : (bag : Counts) → group_of [] bag [] ≡ bag
all_rows [] = refl
all_rows (e ∷ es) = ap (λ b. if b then e ∷ group_of [] es [] else group_of [] es []) (ties_itself []) ∙ ap (λ l. e ∷ l) (all_rows es)

abbrev empty_keys : Counts → Counts
empty_keys es = map (λ (e : Row × ℕ). (key_of [] e.0, e.1)) es

-- and it is the only key
one_key : (es : Counts) (n : ℕ) → (m : ℕ) × (put_all (empty_keys es) (([], n) ∷ []) ≡ ([], m) ∷ [])
one_key [] n = (n, refl)
one_key (e ∷ es) n =
    let rest = one_key es (n + e.1) in
    (rest.0, ap (λ o. put_all (empty_keys es) (by_order o (([], n) ∷ ([], e.1) ∷ []) (([], n + e.1) ∷ []) (([], e.1) ∷ ([], n) ∷ []))) (tied_itself row_cmp_total []) ∙ rest.1)

the_key : (e : Row × ℕ) (es : Counts) → (m : ℕ) × (key_bag [] (e ∷ es) ≡ ([], m) ∷ [])
the_key e es = one_key es e.1

one_group : (e : Row × ℕ) (es : Counts) → (e ∷ es) ∷ [] ≡ key_groups [] (e ∷ es)
one_group e es = sym (ap (map (λ (k : Row × ℕ). group_of [] (e ∷ es) k.0)) (the_key e es).1 ∙ ap (λ g. g ∷ []) (all_rows (e ∷ es)))

abbrev Some_Groups : List ℕ → List Item → Type 0
Some_Groups gs items = (gs ≢ []) ⊎ (all_are is_count items ≡ false)

groups_are : (gs : List ℕ) (items : List Item) (bag : Counts) → Some_Groups gs items → (if is_empty gs then (if is_empty bag && not (all_are is_count items) then [] else (bag ∷ [])) else key_groups gs bag) ≡ key_groups gs bag
groups_are (g ∷ gs) items bag h = refl
groups_are [] items bag (inl h) = absurd (h refl)
groups_are [] items [] (inr h) = ap (λ b. if not b then [] else ([] ∷ [])) h
groups_are [] items (e ∷ es) (inr h) = one_group e es

-- there is an aggregate
some_aggregate : (columns : List ColumnType) (items : List Item) → AllByRecursion (IsKeyedItem columns []) items → all_are is_count items ≡ false → list_any is_aggregate items ≡ true
some_aggregate columns [] all h = absurd cc
some_aggregate columns (i.Value x ∷ items) all h = absurd (let f = all.0 in nothing f.0 f.2)
some_aggregate columns (i.Count ∷ items) all h = refl
some_aggregate columns (i.Sum at ∷ items) all h = refl
some_aggregate columns (i.Min at ∷ items) all h = refl
some_aggregate columns (i.Max at ∷ items) all h = refl

grouped : (columns : List ColumnType) (gs : List ℕ) (items : List Item) → AllByRecursion (IsKeyedItem columns gs) items → Some_Groups gs items → (not (is_empty gs) || list_any is_aggregate items) ≡ true
grouped columns (g ∷ gs) items all h = refl
grouped columns [] items all (inl h) = absurd (h refl)
grouped columns [] items all (inr h) = some_aggregate columns items all h

-- ---- the value by the keys

map-map : {A B C : Type 0} (f : B → C) (g : A → B) (xs : List A) → map f (map g xs) ≡ map (λ x. f (g x)) xs
map-map f g [] = refl
map-map f g (x ∷ xs) = ap (λ l. f (g x) ∷ l) (map-map f g xs)

-- the row of a key, once
abbrev pub row_at : Shape → Counts → Row → Option (Row × ℕ)
row_at shape port key = times_over 1 (items_over shape.items (group_of shape.groups port key))

abbrev pub rows_of : Shape → Counts → Counts → Option Counts
rows_of shape port keys = all_of (map (λ e. row_at shape port e.0) keys)

by_groups : (shape : Shape) (port : Counts) → IsKeyed shape → shape_value shape port ≡ groups_value shape.items (key_groups shape.groups port)
by_groups shape port keyed =
    of_groups shape port (grouped shape.columns shape.groups shape.items keyed.items keyed.some)
    ∙ ap (groups_value shape.items) (groups_are shape.groups shape.items port keyed.some)

pub keyed_value : (shape : Shape) (port : Counts) → IsKeyed shape → shape_value shape port ≡ as_bag (rows_of shape port (key_bag shape.groups port))
keyed_value shape port keyed =
    by_groups shape port keyed
    ∙ ap as_bag (ap all_of (map-map (group_row shape.items) (λ (e : Row × ℕ). group_of shape.groups port e.0) (key_bag shape.groups port)))

-- ---- groups without a value

-- of the whole
of_one : (items : List Item) (e : Row × ℕ) (es : Counts) → (groups_value items ((e ∷ es) ∷ []) ≡ None) ↔ (1 ≤ times_lacking items (e ∷ es))
of_one items e es = by_row (items_over items (e ∷ es))
  where
    by_row : (o : Option Row) → (as_bag (with_first (times_over 1 o) (Some [])) ≡ None) ↔ (1 ≤ (if is_none o then 1 else 0))
    by_row None = (λ h. omega arith, λ h. refl)
    by_row (Some row) = (λ h. absurd cc, λ h. absurd (omega (arith, h)))

one_over : (w : Counts → ℕ) (e : Row × ℕ) (es : Counts) → over_groups [] w (e ∷ es) ≡ w (e ∷ es)
one_over w e es =
    ap (λ keys. sum_over (λ key. w (group_of [] (e ∷ es) key)) (distinct keys)) (the_key e es).1 ∙ once (w (group_of [] (e ∷ es) [])) ∙ ap w (all_rows (e ∷ es))
  where
    once : (n : ℕ) → 1 * n + 0 ≡ n
    once n = omega arith

abbrev IsLackingCount : List Item → List ℕ → Counts → Type 0
IsLackingCount items gs port = (groups_value items (key_groups gs port) ≡ None) ↔ (1 ≤ over_groups gs (times_lacking items) port)

whole_count : (items : List Item) (port : Counts) → IsLackingCount items [] port
whole_count items [] = (λ h. absurd cc, λ h. absurd (let n : 1 ≤ 0 = h in omega (arith, n)))
whole_count items (e ∷ es) =
    let o = of_one items e es in
    let is = ap (groups_value items) (one_group e es) in
    let n = one_over (times_lacking items) e es in
    (λ h. subst (λ m. 1 ≤ m) (sym n) (o.0 (is ∙ h)), λ h. sym is ∙ o.1 (subst (λ m. 1 ≤ m) n h))

-- there is no value exactly where some group has none
pub lacking_is : (laws : Laws) (shape : Shape) (port : Counts) → IsKeyed shape → IsBag port → (shape_value shape port ≡ None) ↔ (1 ≤ lacking_groups shape port)
lacking_is laws shape port keyed is = by_columns shape.groups refl
  where
    by_columns : (gs : List ℕ) → shape.groups ≡ gs → (shape_value shape port ≡ None) ↔ (1 ≤ lacking_groups shape port)
    by_columns [] none =
        let count = subst (λ gs. IsLackingCount shape.items gs port) (sym none) (whole_count shape.items port) in
        let value = by_groups shape port keyed in
        (λ h. count.0 (sym value ∙ h), λ h. value ∙ count.1 h)
    by_columns (g ∷ gs) some = (laws.of_groups shape port is (λ none. let e : g ∷ gs ≡ [] = sym some ∙ none in cc)).none

nothing_first : {A : Type 0} (o : Option A) → with_first o None ≡ None
nothing_first None = refl
nothing_first (Some e) = refl

missing : (shape : Shape) (port : Counts) (key : Row) (keys : Counts) → 0 < count key keys → row_at shape port key ≡ None → rows_of shape port keys ≡ None
missing shape port key [] some none = absurd (omega (arith, some))
missing shape port key (e ∷ es) some none =
    elim (is_eq (row_cmp e.0 key)) as (λ b. is_eq (row_cmp e.0 key) ≡ b → 0 < (if b then e.1 else 0) + count key es → with_first (row_at shape port e.0) (rows_of shape port es) ≡ None) [
      | true ↦ λ t s. ap (λ o. with_first o (rows_of shape port es)) (ap (row_at shape port) (tied e.0 key t) ∙ none)
      | false ↦ λ t s. ap (with_first (row_at shape port e.0)) (missing shape port key es (omega (arith, s)) none) ∙ nothing_first (row_at shape port e.0)
    ] refl some

-- a key's group that has rows and no value leaves the shape without one
pub no_row : (laws : Laws) (shape : Shape) (port : Counts) (key : Row) → IsKeyed shape → 1 ≤ size_of (group_of shape.groups port key) → items_over shape.items (group_of shape.groups port key) ≡ None → shape_value shape port ≡ None
no_row laws shape port key keyed full none =
    let some : 0 < count key (key_bag shape.groups port) = at_least (size_of (group_of shape.groups port key)) (count key (key_bag shape.groups port)) full (laws.key_count shape.groups port key) in
    keyed_value shape port keyed ∙ ap as_bag (missing shape port key (key_bag shape.groups port) some (ap (times_over 1) none))
  where
    at_least : (s c : ℕ) → 1 ≤ s → c ≡ s → 0 < c
    at_least s c h i = omega (arith, h, i)

lacks_row : (items : List Item) (rows : Counts) → IsBag rows → 1 ≤ times_lacking items rows → (1 ≤ size_of rows) × (items_over items rows ≡ None)
lacks_row items [] is h = absurd (omega (arith, h))
lacks_row items (e ∷ es) is h = (more e.1 (size_of es) is.0, by_row (items_over items (e ∷ es)) h)
  where
    more : (n m : ℕ) → 1 ≤ n → 1 ≤ n + m
    more n m h = omega (arith, h)

    by_row : (o : Option Row) → 1 ≤ (if is_none o then 1 else 0) → o ≡ None
    by_row None h = refl
    by_row (Some row) h = absurd (omega (arith, h))

pub among_lacking : (laws : Laws) (shape : Shape) (port : Counts) (key : Row) → IsKeyed shape → IsBag port → 1 ≤ times_lacking shape.items (group_of shape.groups port key) → 1 ≤ lacking_groups shape port
among_lacking laws shape port key keyed is h =
    let row = lacks_row shape.items (group_of shape.groups port key) (laws.group shape.groups port key is).is_bag h in
    (lacking_is laws shape port keyed is).0 (no_row laws shape port key keyed row.0 row.1)
