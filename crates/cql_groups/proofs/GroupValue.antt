-- Once each group has told its row, the bag told is the value of the shape; and a group without a row has none.
use Rattle.std.proofs.Common.{◌≡◌, ℕ, ◌+◌, ◌≤◌, List, [], ◌∷◌, map, Bool, true, false, cond, if◌then◌else◌, Option, Some, None, refl, sym, ap, ◌∙◌, subst, arith, Ordering, Less, Equal, Greater}
use Rattle.std.specs.List.{All, AllByRecursion}
use Rattle.std.specs.List.Sorted.{IsStrictlySortedBy}
use Rattle.std.specs.Map.{lookup, keys_of}
use Rattle.std.specs.Option.{option_map, unwrap_or}
use Rattle.std.specs.Ordering.{is_eq, ordering_reverse}
use Rattle.std.proofs.lemmas.List.Elements.{All-from_recursion, recursion_from_All}
use Rattle.cql_value.specs.Order.{row_cmp, row_cmp_total}
use Rattle.cql_value.specs.declared.value.Value.{Value}
use Rattle.cql_bag.specs.Bag.{Counts, IsBag, count, size_of}
use Rattle.cql_algebra.specs.Shape.{with_first, as_bag, times_over, key_bag, group_of, items_over, shape_value}
use Rattle.cql_groups.specs.GroupLaws.{Laws}
use Rattle.cql_groups.specs.Grouped.{IsLacking, IsHeldOf, IsHeldAt, at_key, told_rows, IsGrouping}
use Rattle.cql_ops.specs.Linear.{with_entry}
use Rattle.cql_groups.specs.declared.group.Group.{Group}
use Rattle.cql_groups.specs.declared.layout.Layout.{Layout}
use Rattle.cql_groups.proofs.PartLaws.{row_is}
use Rattle.cql_algebra.proofs.Keys.{bag_of_keys}
use Rattle.cql_groups.proofs.GroupKeys.{rows_of, keyed_value, no_row}
use Rattle.cql_groups.proofs.GroupingLaws.{held, told_now}
use Rattle.cql_bag.proofs.Rows.{count_rest}

abbrev Row : Type 0
Row = List Value

abbrev Groups : Type 0
Groups = List (Row × Group)

-- ---- a group whose row has no value

pub lacking : (laws : Laws) (layout : Layout) (port told : Counts) (es : Groups) (key : Row) (rest : List Row) (was : IsGrouping layout port told es (key ∷ rest)) (g : Group) → at_key key es ≡ Some g → IsLacking layout.sources g → shape_value layout.shape port ≡ None
lacking laws layout port told es key rest was g there lacks =
    let of = (held laws laws.typing layout port told es key rest was g there).group in
    no_row laws layout.shape port key was.layout.keyed (subst (λ n. 1 ≤ n) of.size lacks.0) (sym (row_is laws layout was.layout port was.port_bag was.in_port key g of lacks.0) ∙ lacks.1)

-- ---- all groups told

either_way : (a b : Row) → is_eq (row_cmp a b) ≡ is_eq (row_cmp b a)
either_way a b = ap is_eq (row_cmp_total.antisymm a b) ∙ turned (row_cmp b a)
  where
    turned : (o : Ordering) → is_eq (ordering_reverse o) ≡ is_eq o
    turned Less = refl
    turned Equal = refl
    turned Greater = refl

-- a row counts as often as is found at it
count_found : (es : Counts) (q : Row) → IsBag es → count q es ≡ unwrap_or (lookup (λ k. is_eq (row_cmp q k)) es) 0
count_found [] q is = refl
count_found (e ∷ es) q is =
    elim (is_eq (row_cmp e.0 q)) as (λ t. is_eq (row_cmp e.0 q) ≡ t → (if t then e.1 else 0) + count q es ≡ unwrap_or (cond (is_eq (row_cmp q e.0)) (Some e.1) (lookup (λ k. is_eq (row_cmp q k)) es)) 0) [
      | true ↦ λ t. rw (either_way q e.0 ∙ t) (omega (arith, count_rest e es q is t))
      | false ↦ λ t. rw (either_way q e.0 ∙ t) (omega (arith, count_found es q is.2))
    ] refl

abbrev sizes : Groups → Counts
sizes es = map (λ e. (e.0, e.1.size)) es

-- an entry whose group has told its row
pub record HasTold (layout : Layout) (port : Counts) (e : Row × Group) : Type 0 where
  pub row : Row
  pub told : e.1.told ≡ Some row
  pub some : 1 ≤ e.1.size
  pub is : items_over layout.shape.items (group_of layout.shape.groups port e.0) ≡ Some row

ordered_sizes : (es : Groups) → AllByRecursion (λ (e : Row × Group). 1 ≤ e.1.size) es → IsStrictlySortedBy row_cmp (keys_of es) → IsBag (sizes es)
unfolding IsStrictlySortedBy
ordered_sizes [] all up = tt
ordered_sizes (e ∷ es) all up = (all.0, All-from_recursion (λ (f : Row × ℕ). row_cmp e.0 f.0 ≡ Less) (sizes es) (below es up.0), ordered_sizes es all.1 up.1)
  where
    below : (fs : Groups) → AllByRecursion (λ y. row_cmp e.0 y ≡ Less) (keys_of fs) → AllByRecursion (λ (f : Row × ℕ). row_cmp e.0 f.0 ≡ Less) (sizes fs)
    below [] h = tt
    below (f ∷ fs) h = (h.0, below fs h.1)

size_at : (key : Row) (es : Groups) → lookup (λ k. is_eq (row_cmp key k)) (sizes es) ≡ option_map (λ (g : Group). g.size) (at_key key es)
size_at key [] = refl
size_at key (e ∷ es) = elim (is_eq (row_cmp key e.0)) as (λ b. cond b (Some e.1.size) (lookup (λ k. is_eq (row_cmp key k)) (sizes es)) ≡ option_map (λ (g : Group). g.size) (cond b (Some e.1) (at_key key es))) [ true ↦ refl | false ↦ size_at key es ]

each_told : (layout : Layout) (port : Counts) (es : Groups) → AllByRecursion (HasTold layout port) es → rows_of layout.shape port (sizes es) ≡ Some (told_rows es)
each_told layout port [] all = refl
each_told layout port (e ∷ es) all =
    ap (λ o. with_first (times_over 1 o) (rows_of layout.shape port (sizes es))) all.0.is ∙ ap (with_first (Some (all.0.row, 1))) (each_told layout port es all.1) ∙ ap (λ o. Some (with_entry o 1 (told_rows es))) (sym all.0.told)

module _ (laws : Laws) (layout : Layout) (port told : Counts) (es : Groups) (was : IsGrouping layout port told es []) (up : IsStrictlySortedBy row_cmp (keys_of es)) (found : All (λ (e : Row × Group). at_key e.0 es ≡ Some e.1) es) where
  told_one : (e : Row × Group) → at_key e.0 es ≡ Some e.1 → HasTold layout port e
  told_one e at = by_pushed (e.1.pushed) refl
    where
      of : IsHeldOf layout [] e.0 (group_of layout.shape.groups port e.0) e.1
      of = subst (IsHeldAt layout [] e.0 (group_of layout.shape.groups port e.0)) at (was.held e.0)

      by_pushed : (b : Bool) → e.1.pushed ≡ b → HasTold layout port e
      by_pushed true p = absurd (let h = of.waits p in cc)
      by_pushed false p = let s = of.settled p in record { row = s.0; told = s.1; some = s.2; is = s.3 }

  all_told : AllByRecursion (HasTold layout port) es
  all_told = each es (recursion_from_All (λ (e : Row × Group). at_key e.0 es ≡ Some e.1) es found)
    where
      each : (fs : Groups) → AllByRecursion (λ (e : Row × Group). at_key e.0 es ≡ Some e.1) fs → AllByRecursion (HasTold layout port) fs
      each [] all = tt
      each (f ∷ fs) all = (told_one f all.0, each fs all.1)

  sizes_bag : IsBag (sizes es)
  sizes_bag = ordered_sizes es (some es all_told) up
    where
      some : (fs : Groups) → AllByRecursion (HasTold layout port) fs → AllByRecursion (λ (e : Row × Group). 1 ≤ e.1.size) fs
      some [] all = tt
      some (f ∷ fs) all = (all.0.some, some fs all.1)

  count_sizes : (key : Row) → count key (sizes es) ≡ count key (key_bag layout.shape.groups port)
  count_sizes key = count_found (sizes es) key sizes_bag ∙ ap (λ o. unwrap_or o 0) (size_at key es) ∙ by_group (at_key key es) (was.held key) ∙ sym (laws.key_count layout.shape.groups port key)
    where
      by_group : (o : Option Group) → IsHeldAt layout [] key (group_of layout.shape.groups port key) o → unwrap_or (option_map (λ (g : Group). g.size) o) 0 ≡ size_of (group_of layout.shape.groups port key)
      by_group None none = ap size_of (sym none)
      by_group (Some g) of = of.group.size

  keys_are : sizes es ≡ key_bag layout.shape.groups port
  keys_are = laws.same (sizes es) (key_bag layout.shape.groups port) sizes_bag (bag_of_keys laws.puts laws.entries layout.shape.groups port was.port_bag) count_sizes

  -- the bag told is the shape's value
  pub value_is : shape_value layout.shape port ≡ Some told
  value_is = keyed_value layout.shape port was.layout.keyed ∙ ap (λ k. as_bag (rows_of layout.shape port k)) (sym keys_are) ∙ ap as_bag (each_told layout port es all_told) ∙ ap (λ b. Some b) (told_now laws layout port told es [] was)
