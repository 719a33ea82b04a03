-- What is kept of a group changes as the group does, gives its row, and tells whether it has one.
use Rattle.std.proofs.Common.{◌≡◌, ◌⊎◌, ℕ, zero, suc, ◌+◌, ◌≤◌, nat_lt, List, [], ◌∷◌, map, inl, inr, Bool, true, false, ◌&&◌, ◌||◌, if◌then◌else◌, Option, Some, None, slice_get, refl, sym, ap, ◌∙◌, subst, arith}
use Rattle.std.specs.List.{AllByRecursion, AllZip, Contains, list_any}
use Rattle.std.specs.Option.{is_none, option_map}
use Rattle.std.specs.Ordering.{is_eq}
use Rattle.std.proofs.lemmas.Bool.Decides.{nat_tests}
use Rattle.std.proofs.lemmas.Option.{slice_get-map}
use Rattle.cql_value.specs.Order.{row_cmp}
use Rattle.cql_value.specs.declared.value.Value.{Value}
use Rattle.cql_value.proofs.Members.{here, nothing, cases, each, filtered, there, mapped}
use Rattle.cql_value.proofs.Ties.{tied}
use Rattle.cql_algebra.proofs.AllOf.{missing, missed}
use Rattle.cql_bag.specs.Bag.{Counts, IsBag, size_of}
use Rattle.cql_bag.specs.Changes.{changed, CanChange}
use Rattle.cql_bag.specs.declared.change.Change.{Change}
use Rattle.cql_plan.specs.declared.expr.Expr.TheOpen.{Expr-F}
use Rattle.cql_plan.specs.declared.expr.Expr.TheVariants as expr
use Rattle.cql_plan.specs.declared.expr.Expr.TheVariants.{rolls-Column}
use Rattle.cql_plan.specs.declared.expr.Expr.TheFolds.{fold-Expr, fold-roll-Expr}
use Rattle.cql_plan.specs.declared.node.Item.{Item}
use Rattle.cql_plan.specs.declared.node.Item.TheVariants as i
use Rattle.cql_plan.specs.Fit.{is_empty, HasColumn}
use Rattle.cql_algebra.specs.Shape.{all_of, key_of, group_of, item_over, items_over}
use Rattle.cql_algebra.specs.ShapeLaws.{IsInColumn}
use Rattle.cql_algebra.specs.GroupChanges.{first_of, last_of, times_lacking}
use Rattle.cql_algebra.specs.Typed.{HasTypes, AreOf}
use Rattle.cql_groups.specs.Keyed.{IsKeyedItem, IsKeyed}
use Rattle.cql_groups.specs.Parts.{part_of, part_changed, is_outside}
use Rattle.cql_groups.specs.Layouts.{index_step, column_in, asks, IsAskedIn, IsSourceOf, IsLayout, sum_in, values_in, source_value, row_of_parts}
use Rattle.cql_groups.specs.GroupLaws.{Laws}
use Rattle.cql_groups.specs.Grouped.{IsGroupOf, IsChangedGroup, one_if}
use Rattle.cql_groups.specs.declared.accumulator.AccumulatorKind.{AccumulatorKind}
use Rattle.cql_groups.specs.declared.accumulator.AccumulatorKind.TheVariants as ask
use Rattle.cql_groups.specs.declared.accumulator.Accumulator.{Accumulator}
use Rattle.cql_groups.specs.declared.accumulator.Accumulator.TheVariants as part
use Rattle.cql_groups.specs.declared.layout.ItemSource.{ItemSource}
use Rattle.cql_groups.specs.declared.layout.ItemSource.TheVariants as s
use Rattle.cql_groups.specs.declared.layout.Layout.{Layout}
use Rattle.cql_groups.specs.declared.group.Group.{Group}
use Rattle.cql_groups.proofs.Changes.{size_changed, total_changed, keys_changed}

abbrev Row : Type 0
Row = List Value

-- ---- changes

module _ (laws : Laws) (c : Change) (rows : Counts) (is : IsBag rows) (can : CanChange c rows) where
  part_law : (x : AccumulatorKind) → part_changed c (part_of rows x) ≡ part_of (changed c rows) x
  part_law (ask.Sum at) = ap (λ z. part.Sum at z) (total_changed laws c rows is can at)
  part_law (ask.Values at) = ap (λ b. part.Values at b) (keys_changed laws c rows is can (at ∷ []))

  parts_law : (asked : List AccumulatorKind) → map (part_changed c) (map (part_of rows) asked) ≡ map (part_of (changed c rows)) asked
  parts_law [] = refl
  parts_law (x ∷ xs) = ap (λ y. y ∷ map (part_changed c) (map (part_of rows) xs)) (part_law x) ∙ ap (λ l. part_of (changed c rows) x ∷ l) (parts_law xs)

  same_size : (n m s t x y : ℕ) → n + x ≡ m + y → t + x ≡ s + y → m ≡ s → n ≡ t
  same_size n m s t x y a b e = omega (arith, a, b, e)

  -- what is kept of a group, after a change of it
  pub group_after : (l : Layout) (key : Row) (old new : Group) → IsGroupOf l key rows old → IsChangedGroup c old new → IsGroupOf l key (changed c rows) new
  group_after l key old new was now = record {
    keyed = now.key ∙ was.keyed;
    size = same_size new.size old.size (size_of rows) (size_of (changed c rows)) (if c.plus then 0 else 1) (if c.plus then 1 else 0) now.size (size_changed laws c rows is can) was.size;
    few = now.few;
    parts = now.parts ∙ ap (map (part_changed c)) was.parts ∙ parts_law l.asked;
    sample = ap (key_of l.shape.groups) now.sample ∙ was.sample;
    types = subst (HasTypes l.shape.columns) (sym now.sample) was.types;
  }

-- ---- the row

pub column_is : (at : ℕ) → column_in (expr.Column at) ≡ at
unfolding column_in
column_is at = ap (fold-Expr ℕ index_step) (sym (rolls-Column at)) ∙ fold-roll-Expr ℕ index_step (Expr-F.Column at)

same_at : (groups : List ℕ) (key r s : Row) (at : ℕ) → AllZip (λ at v. slice_get r at ≡ Some v) groups key → AllZip (λ at v. slice_get s at ≡ Some v) groups key → Contains groups at → slice_get r at ≡ slice_get s at
same_at [] key r s at p q c = absurd (nothing at c)
same_at (g ∷ groups) [] r s at p q c = absurd p
same_at (g ∷ groups) (v ∷ key) r s at p q c = elim (cases g at groups c) [
  | inl e ↦ subst (λ x. slice_get r x ≡ slice_get s x) e (p.0 ∙ sym q.0)
  | inr d ↦ same_at groups key r s at p.1 q.1 d
]

some_entry : (es : Counts) → 1 ≤ size_of es → (e : Row × ℕ) × Contains es e
some_entry [] le = absurd (omega (arith, le))
some_entry (e ∷ es) le = (e, here e es)

module _ {A : Type 0} (f : A → Bool) where
  -- a test that one passes is passed by some
  any_at : (xs : List A) (p : ℕ) (a : A) → slice_get xs p ≡ Some a → f a ≡ true → list_any f xs ≡ true
  any_at [] p a h t = absurd cc
  any_at (x ∷ xs) zero a h t = (let e : x ≡ a = cc in ap (λ b. b || list_any f xs) (ap f e ∙ t))
  any_at (x ∷ xs) (suc p) a h t = ap (λ b. f x || b) (any_at xs p a h t) ∙ or_last (f x)
    where
      or_last : (b : Bool) → (b || true) ≡ true
      or_last true = refl
      or_last false = refl

  some_of : (xs : List A) → list_any f xs ≡ true → (a : A) × Contains xs a × (f a ≡ true)
  some_of [] h = absurd cc
  some_of (x ∷ xs) h = elim (f x) as (λ b. f x ≡ b → (b || list_any f xs) ≡ true → (a : A) × Contains (x ∷ xs) a × (f a ≡ true)) [
    | true ↦ λ e g. (x, here x xs, e)
    | false ↦ λ e g. let r = some_of xs g in (r.0, there x r.0 xs r.1, r.2)
  ] refl h

zip_at : {A B : Type 0} (P : A → B → Type 0) (xs : List A) (ys : List B) (x : A) → AllZip P xs ys → Contains xs x → (y : B) × P x y
zip_at P [] ys x all c = absurd (nothing x c)
zip_at P (a ∷ xs) [] x all c = absurd all
zip_at P (a ∷ xs) (b ∷ ys) x all c = elim (cases a x xs c) [
  | inl e ↦ (b, subst (λ y. P y b) e all.0)
  | inr d ↦ zip_at P xs ys x all.1 d
]

from_none : {A : Type 0} (o : Option A) → is_none o ≡ true → o ≡ None
from_none None h = refl
from_none (Some x) h = absurd cc

above : (n : ℕ) → 1 ≤ n → nat_lt 0 n ≡ true
above n h = grind (arith, nat_tests)

filled : (es : Counts) → IsBag es → (es ≡ []) ⊎ ((1 ≤ size_of es) × (is_empty es ≡ false))
filled [] is = inl refl
filled (e ∷ es) is = inr (more e.1 (size_of es) is.0, refl)
  where
    more : (n m : ℕ) → 1 ≤ n → 1 ≤ n + m
    more n m h = omega (arith, h)

-- what is asked at an index is kept at that index
kept_at : (rows : Counts) (asked : List AccumulatorKind) (index : ℕ) (a : AccumulatorKind) → slice_get asked index ≡ Some a → slice_get (map (part_of rows) asked) index ≡ Some (part_of rows a)
kept_at rows asked index a h = slice_get-map (part_of rows) asked index ∙ ap (option_map (part_of rows)) h

-- a value of a column that there is
in_row : (key : Row) (at : ℕ) (row : Row) → AllZip (λ at v. slice_get row at ≡ Some v) (at ∷ []) key → (v : Value) × (slice_get row at ≡ Some v)
in_row [] at row zip = absurd zip
in_row (v ∷ key) at row zip = (v, zip.0)

module _ (laws : Laws) (l : Layout) (is_layout : IsLayout l) (port : Counts) (is : IsBag port) (typed : AreOf l.shape.columns port) (key : Row) where
  abbrev rows : Counts
  rows = group_of l.shape.groups port key

  abbrev keyed : IsKeyed l.shape
  keyed = is_layout.keyed

  pub group_types : (es : Counts) → AreOf l.shape.columns es → AreOf l.shape.columns (group_of l.shape.groups es key)
  group_types [] all = tt
  group_types (e ∷ es) all = elim (is_eq (row_cmp (key_of l.shape.groups e.0) key)) as (λ s. AreOf l.shape.columns (if s then e ∷ group_of l.shape.groups es key else group_of l.shape.groups es key)) [ true ↦ (all.0, group_types es all.1) | false ↦ group_types es all.1 ]

  rows_bag : IsBag rows
  rows_bag = (laws.group l.shape.groups port key is).is_bag

  row_typed : (e : Row × ℕ) → Contains rows e → HasTypes l.shape.columns e.0
  row_typed e c = each (λ (x : Row × ℕ). HasTypes l.shape.columns x.0) rows (group_types port typed) e c

  module _ (sample : Row) (has_key : key_of l.shape.groups sample ≡ key) (types : HasTypes l.shape.columns sample) (some : 1 ≤ size_of rows) where
    on_sample : (at : ℕ) → Contains l.shape.groups at → slice_get sample at ≡ item_over rows (i.Value (expr.Column at))
    on_sample at c =
        let f = some_entry rows some in
        let in_port = filtered (λ (x : Row × ℕ). is_eq (row_cmp (key_of l.shape.groups x.0) key)) port f.0 f.1 in
        let key_is : key_of l.shape.groups f.0.0 ≡ key = tied (key_of l.shape.groups f.0.0) key in_port.1 in
        let zip_row : AllZip (λ at v. slice_get f.0.0 at ≡ Some v) l.shape.groups key = subst (AllZip (λ at v. slice_get f.0.0 at ≡ Some v) l.shape.groups) key_is (laws.keys l.shape.columns l.shape.groups f.0.0 (row_typed f.0 f.1) keyed.groups) in
        let zip_sample : AllZip (λ at v. slice_get sample at ≡ Some v) l.shape.groups key = subst (AllZip (λ at v. slice_get sample at ≡ Some v) l.shape.groups) has_key (laws.keys l.shape.columns l.shape.groups sample types keyed.groups) in
        same_at l.shape.groups key sample f.0.0 at zip_sample zip_row c ∙ sym (laws.column l.shape.columns l.shape.groups port key at typed keyed.groups c f.0 f.1)

    abbrev parts : List Accumulator
    parts = map (part_of rows) l.asked

    value_is : (x : Item) (source : ItemSource) → IsKeyedItem l.shape.columns l.shape.groups x → IsSourceOf l.asked x source → source_value (size_of rows) sample parts source ≡ item_over rows x
    value_is (i.Value x) (s.Column column) fits of =
        let at = fits.0 in
        ap (slice_get sample) of ∙ ap (λ y. slice_get sample (column_in y)) fits.1 ∙ ap (slice_get sample) (column_is at) ∙ on_sample at fits.2 ∙ ap (λ y. item_over rows (i.Value y)) (sym fits.1)
    value_is (i.Value x) s.Count fits of = absurd of
    value_is (i.Value x) (s.Sum p) fits of = absurd of
    value_is (i.Value x) (s.Least p) fits of = absurd of
    value_is (i.Value x) (s.Greatest p) fits of = absurd of
    value_is i.Count (s.Column c) fits of = absurd of
    value_is i.Count s.Count fits of = refl
    value_is i.Count (s.Sum p) fits of = absurd of
    value_is i.Count (s.Least p) fits of = absurd of
    value_is i.Count (s.Greatest p) fits of = absurd of
    value_is (i.Sum at) (s.Column c) fits of = absurd of
    value_is (i.Sum at) s.Count fits of = absurd of
    value_is (i.Sum at) (s.Sum p) fits of = ap sum_in (kept_at rows l.asked p (ask.Sum at) of)
    value_is (i.Sum at) (s.Least p) fits of = absurd of
    value_is (i.Sum at) (s.Greatest p) fits of = absurd of
    value_is (i.Min at) (s.Column c) fits of = absurd of
    value_is (i.Min at) s.Count fits of = absurd of
    value_is (i.Min at) (s.Sum p) fits of = absurd of
    value_is (i.Min at) (s.Least p) fits of = ap (λ o. first_of (values_in o)) (kept_at rows l.asked p (ask.Values at) of) ∙ sym (laws.ends l.shape.columns at rows rows_bag (group_types port typed) fits).least
    value_is (i.Min at) (s.Greatest p) fits of = absurd of
    value_is (i.Max at) (s.Column c) fits of = absurd of
    value_is (i.Max at) s.Count fits of = absurd of
    value_is (i.Max at) (s.Sum p) fits of = absurd of
    value_is (i.Max at) (s.Least p) fits of = absurd of
    value_is (i.Max at) (s.Greatest p) fits of = ap (λ o. last_of (values_in o)) (kept_at rows l.asked p (ask.Values at) of) ∙ sym (laws.ends l.shape.columns at rows rows_bag (group_types port typed) fits).greatest

    values_are : (items : List Item) (sources : List ItemSource) → AllByRecursion (IsKeyedItem l.shape.columns l.shape.groups) items → AllZip (IsSourceOf l.asked) items sources → row_of_parts sources (size_of rows) sample parts ≡ items_over items rows
    values_are items sources all of = ap all_of (mapped items sources all of)
      where
        mapped : (items : List Item) (sources : List ItemSource) → AllByRecursion (IsKeyedItem l.shape.columns l.shape.groups) items → AllZip (IsSourceOf l.asked) items sources → map (source_value (size_of rows) sample parts) sources ≡ map (item_over rows) items
        mapped [] [] all of = refl
        mapped [] (t ∷ ts) all of = absurd of
        mapped (x ∷ xs) [] all of = absurd of
        mapped (x ∷ xs) (t ∷ ts) all of = ap (λ y. y ∷ map (source_value (size_of rows) sample parts) ts) (value_is x t all.0 of.0) ∙ ap (λ l. item_over rows x ∷ l) (mapped xs ts all.1 of.1)

    -- ---- whether it has one

    -- a column of the group's rows has a value
    has_value : (at : ℕ) → HasColumn l.shape.columns at → (v : Value) × IsInColumn at rows v
    has_value at fits =
        let f = some_entry rows some in
        let v = in_row (key_of (at ∷ []) f.0.0) at f.0.0 (laws.keys l.shape.columns (at ∷ []) f.0.0 (row_typed f.0 f.1) (fits, tt)) in
        (v.0, (f.0, f.1, v.1))

    is_there : {A : Type 0} (o : Option A) (v : A) → o ≡ Some v → o ≡ None → ⊥
    is_there o v a b = absurd cc

    -- only a SUM may have no value
    outside : (x : Item) → IsKeyedItem l.shape.columns l.shape.groups x → item_over rows x ≡ None → (a : AccumulatorKind) × (asks x ≡ Some a) × (is_outside (part_of rows a) ≡ true)
    outside (i.Value x) fits none =
        let at = fits.0 in
        let zip : AllZip (λ at v. slice_get sample at ≡ Some v) (at ∷ []) (key_of (at ∷ []) sample) = laws.keys l.shape.columns (at ∷ []) sample types (each (HasColumn l.shape.columns) l.shape.groups keyed.groups at fits.2, tt) in
        let v = in_row (key_of (at ∷ []) sample) at sample zip in
        absurd (is_there (slice_get sample at) v.0 v.1 (on_sample at fits.2 ∙ ap (λ y. item_over rows (i.Value y)) (sym fits.1) ∙ none))
    outside i.Count fits none = absurd cc
    outside (i.Sum at) fits none = (ask.Sum at, refl, ap is_none none)
    outside (i.Min at) fits none = (let v = has_value at fits in absurd ((laws.least at rows).none none v.0 v.1))
    outside (i.Max at) fits none = (let v = has_value at fits in absurd ((laws.greatest at rows).none none v.0 v.1))

    -- what an item asks is asked
    is_asked : (x : Item) (source : ItemSource) (a : AccumulatorKind) → asks x ≡ Some a → IsSourceOf l.asked x source → (p : ℕ) × (slice_get l.asked p ≡ Some a)
    is_asked (i.Value x) source a e of = absurd cc
    is_asked i.Count source a e of = absurd cc
    is_asked (i.Sum at) (s.Column c) a e of = absurd of
    is_asked (i.Sum at) s.Count a e of = absurd of
    is_asked (i.Sum at) (s.Sum p) a e of = (p, of ∙ e)
    is_asked (i.Sum at) (s.Least p) a e of = absurd of
    is_asked (i.Sum at) (s.Greatest p) a e of = absurd of
    is_asked (i.Min at) (s.Column c) a e of = absurd of
    is_asked (i.Min at) s.Count a e of = absurd of
    is_asked (i.Min at) (s.Sum p) a e of = absurd of
    is_asked (i.Min at) (s.Least p) a e of = (p, of ∙ e)
    is_asked (i.Min at) (s.Greatest p) a e of = absurd of
    is_asked (i.Max at) (s.Column c) a e of = absurd of
    is_asked (i.Max at) s.Count a e of = absurd of
    is_asked (i.Max at) (s.Sum p) a e of = absurd of
    is_asked (i.Max at) (s.Least p) a e of = absurd of
    is_asked (i.Max at) (s.Greatest p) a e of = (p, of ∙ e)

    -- and a sum outside i64 is no value
    no_value : (x : Item) (a : AccumulatorKind) → asks x ≡ Some a → is_outside (part_of rows a) ≡ true → item_over rows x ≡ None
    no_value (i.Value x) a e out = absurd cc
    no_value i.Count a e out = absurd cc
    no_value (i.Sum at) (ask.Sum c) e out = (let same : at ≡ c = cc in ap (λ n. item_over rows (i.Sum n)) same ∙ from_none (item_over rows (i.Sum c)) out)
    no_value (i.Sum at) (ask.Values c) e out = absurd cc
    no_value (i.Min at) (ask.Sum c) e out = absurd cc
    no_value (i.Min at) (ask.Values c) e out = absurd cc
    no_value (i.Max at) (ask.Sum c) e out = absurd cc
    no_value (i.Max at) (ask.Values c) e out = absurd cc

    test_is : (b : Bool) → list_any is_outside parts ≡ b → b ≡ is_none (items_over l.shape.items rows)
    test_is true e =
        let q = some_of is_outside parts e in
        let a = mapped (part_of rows) l.asked q.0 q.1 in
        let x = each (IsAskedIn l.shape.items) l.asked is_layout.sources.wanted a.0 a.1 in
        sym (ap is_none (missed (item_over rows) l.shape.items x.0 x.1 (no_value x.0 a.0 x.2 (ap is_outside a.2 ∙ q.2))))
    test_is false e = by_value (items_over l.shape.items rows) refl
      where
        by_value : (o : Option Row) → items_over l.shape.items rows ≡ o → false ≡ is_none o
        by_value (Some row) h = refl
        by_value None h =
            let x = missing (item_over rows) l.shape.items h in
            let a = outside x.0 (each (IsKeyedItem l.shape.columns l.shape.groups) l.shape.items keyed.items x.0 x.1) x.2 in
            let t = zip_at (IsSourceOf l.asked) l.shape.items l.sources x.0 is_layout.sources.each x.1 in
            let p = is_asked x.0 t.0 a.0 a.1 t.1 in
            let any = any_at is_outside parts p.0 (part_of rows a.0) (kept_at rows l.asked p.0 a.0 p.1) a.2 in
            absurd (let f : true ≡ false = sym any ∙ e in cc)

    outside_is : list_any is_outside parts ≡ is_none (items_over l.shape.items rows)
    outside_is = test_is (list_any is_outside parts) refl

  -- the row of what is kept is that of the group
  pub row_is : (g : Group) → IsGroupOf l key rows g → 1 ≤ g.size → row_of_parts l.sources g.size g.sample g.parts.items ≡ items_over l.shape.items rows
  row_is g of some =
      ap (λ n. row_of_parts l.sources n g.sample g.parts.items) of.size ∙ ap (row_of_parts l.sources (size_of rows) g.sample) of.parts
      ∙ values_are g.sample of.sample of.types (subst (λ n. 1 ≤ n) of.size some) l.shape.items l.sources keyed.items is_layout.sources.each

  -- and it tells whether there is one
  pub lacks_is : (g : Group) → IsGroupOf l key rows g → g.lacks ≡ (nat_lt 0 g.size && list_any is_outside g.parts.items) → one_if g.lacks ≡ times_lacking l.shape.items rows
  lacks_is g of test = elim (filled rows rows_bag) [
    | inl none ↦ ap one_if (test ∙ ap (λ n. nat_lt 0 n && list_any is_outside g.parts.items) (of.size ∙ ap size_of none)) ∙ sym (ap (times_lacking l.shape.items) none)
    | inr full ↦
        ap one_if (test ∙ ap (λ b. b && list_any is_outside g.parts.items) (above g.size (subst (λ n. 1 ≤ n) (sym of.size) full.0)) ∙ ap (list_any is_outside) of.parts ∙ outside_is g.sample of.sample of.types full.0)
        ∙ sym (ap (λ b. if b then 0 else one_if (is_none (items_over l.shape.items rows))) full.1)
  ]
