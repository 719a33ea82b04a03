-- What is kept of the groups of a bag, as rows come and go and as they are told.
use Rattle.std.proofs.Common.{◌≡◌, ℕ, ◌+◌, ◌-◌, ◌<◌, ◌≤◌, List, [], ◌∷◌, ◌++◌, map, append_assoc, append-nil, Bool, true, false, ◌||◌, cond, if◌then◌else◌, Option, Some, None, refl, sym, ap, ◌∙◌, subst, arith, Less, Equal, Greater}
use Rattle.std.specs.Prelude.{IfSome, Result, Ok, Err, OnOk, is_some}
use Rattle.std.specs.Map.{remove_entry, set_value}
use Rattle.std.specs.BTreeMap.{insert_entry}
use Rattle.std.specs.Ordering.{is_eq, match_ordering}
use Rattle.std.proofs.lemmas.List.Elements.{All-cons}
use Rattle.std.proofs.lemmas.List.Folds.{list_any-append}
use Rattle.cql_value.specs.Order.{row_cmp}
use Rattle.cql_value.specs.Schema.{HasTypes}
use Rattle.cql_value.specs.declared.value.Value.{Value}
use Rattle.cql_value.specs.declared.schema.ColumnType.{ColumnType}
use Rattle.cql_value.proofs.Ties.{tied, ties, ties_itself}
use Rattle.cql_bag.specs.Bag.{Counts, IsBag, count, less_one, put_all, size_of}
use Rattle.cql_bag.specs.Law.{ArePositive}
use Rattle.cql_bag.specs.Changes.{changed, changed_by, change_of, CanChange, CanChangeBy}
use Rattle.cql_bag.specs.declared.change.Change.{Change}
use Rattle.cql_plan.specs.Fit.{IsTyped}
use Rattle.cql_plan.specs.Node.{item_types}
use Rattle.cql_algebra.specs.PlanLaws.{IsGroupTypesLaw}
use Rattle.cql_algebra.specs.GroupChanges.{times_lacking}
use Rattle.cql_algebra.specs.Shape.{key_of, group_of, items_over}
use Rattle.cql_algebra.specs.Typed.{AreOf}
use Rattle.cql_groups.specs.Parts.{part_of}
use Rattle.cql_ops.specs.Clauses.{AreChangesOf}
use Rattle.cql_groups.specs.Grouped.{IsGroupOf, IsChangedGroup, IsDue, IsHeldOf, IsHeldAt, at_key, IsTaken, told_rows, told_of, IsSettled, IsNew, CanChangeAt, IsChangedAt, IsGrouping, one_if, lacking_groups, AreTold, IsToldOf, TellsGroups}
use Rattle.cql_groups.specs.GroupLaws.{Laws}
use Rattle.cql_ops.specs.Linear.{with_entry, with_change}
use Rattle.cql_ops.specs.Settle.{is_among}
use Rattle.cql_groups.specs.declared.group.Group.{Group}
use Rattle.cql_groups.specs.declared.layout.Layout.{Layout}
use Rattle.cql_groups.specs.declared.accumulator.AccumulatorKind.{AccumulatorKind}
use Rattle.cql_groups.proofs.PartLaws.{group_after, group_types, row_is, lacks_is}
use Rattle.cql_groups.proofs.GroupKeys.{among_lacking}
use Rattle.cql_groups.proofs.Changes.{group_changed, group_stays, can_change}
use Rattle.cql_ops.proofs.Linear.{IsBag-changed_by, count_put}

abbrev Row : Type 0
Row = List Value

abbrev Groups : Type 0
Groups = List (Row × Group)

-- ---- the rows told of some groups

-- how often the row is that, where there is one
abbrev pub times_of : Row → Option Row → ℕ
times_of q None = 0
times_of q (Some r) = if is_eq (row_cmp r q) then 1 else 0

count_entry : (q : Row) (o : Option Row) (es : Counts) → count q (with_entry o 1 es) ≡ times_of q o + count q es
count_entry q None es = omega arith
count_entry q (Some r) es = refl

swap_front : (a b c d : ℕ) → b ≡ c + d → a + b ≡ (a + c) + d
swap_front a b c d h = omega (arith, h)

-- a group that is taken out
pub told_without : (q key : Row) (es : Groups) (g : Group) → at_key key es ≡ Some g → count q (told_rows es) ≡ count q (told_rows (remove_entry (λ k. is_eq (row_cmp key k)) es)) + times_of q g.told
told_without q key [] g h = absurd cc
told_without q key (e ∷ es) g h =
    elim (is_eq (row_cmp key e.0)) as (λ b. cond b (Some e.1) (at_key key es) ≡ Some g → count q (with_entry e.1.told 1 (told_rows es)) ≡ count q (told_rows (cond b es (e ∷ remove_entry (λ k. is_eq (row_cmp key k)) es))) + times_of q g.told) [
      | true ↦ λ f. count_entry q e.1.told (told_rows es) ∙ here (times_of q e.1.told) (count q (told_rows es)) ∙ ap (λ (x : Group). count q (told_rows es) + times_of q x.told) (same e.1 g f)
      | false ↦ λ f.
          let rest = remove_entry (λ k. is_eq (row_cmp key k)) es in
          count_entry q e.1.told (told_rows es) ∙ swap_front (times_of q e.1.told) (count q (told_rows es)) (count q (told_rows rest)) (times_of q g.told) (told_without q key es g f) ∙ ap (λ n. n + times_of q g.told) (sym (count_entry q e.1.told (told_rows rest)))
    ] h
  where
    here : (a b : ℕ) → a + b ≡ b + a
    here a b = omega arith

    same : (x y : Group) → Some x ≡ Some y → x ≡ y
    same x y h = cc

-- a group that is put in
pub told_with : (q key : Row) (es : Groups) (g : Group) → at_key key es ≡ None → count q (told_rows (insert_entry row_cmp es key g)) ≡ count q (told_rows es) + times_of q g.told
told_with q key [] g h = count_entry q g.told [] ∙ zero_in (times_of q g.told)
  where
    zero_in : (n : ℕ) → n + 0 ≡ 0 + n
    zero_in n = omega arith
told_with q key (e ∷ es) g h =
    elim (row_cmp key e.0) as (λ o. cond (is_eq o) (Some e.1) (at_key key es) ≡ None → count q (told_rows (match_ordering o ((key, g) ∷ e ∷ es) ((e.0, g) ∷ es) (e ∷ insert_entry row_cmp es key g))) ≡ count q (told_rows (e ∷ es)) + times_of q g.told) [
      | Less ↦ λ f. count_entry q g.told (told_rows (e ∷ es)) ∙ here (times_of q g.told) (count q (told_rows (e ∷ es)))
      | Equal ↦ λ f. absurd cc
      | Greater ↦ λ f.
          count_entry q e.1.told (told_rows (insert_entry row_cmp es key g)) ∙ swap_front (times_of q e.1.told) (count q (told_rows (insert_entry row_cmp es key g))) (count q (told_rows es)) (times_of q g.told) (told_with q key es g f) ∙ ap (λ n. n + times_of q g.told) (sym (count_entry q e.1.told (told_rows es)))
    ] h
  where
    here : (a b : ℕ) → a + b ≡ b + a
    here a b = omega arith

-- a group that is exchanged where it stands
pub told_renewed : (q key : Row) (es : Groups) (g new : Group) → at_key key es ≡ Some g → count q (told_rows (set_value (λ k. is_eq (row_cmp key k)) es new)) + times_of q g.told ≡ count q (told_rows es) + times_of q new.told
told_renewed q key [] g new h = absurd cc
told_renewed q key (e ∷ es) g new h =
    elim (is_eq (row_cmp key e.0)) as (λ b. cond b (Some e.1) (at_key key es) ≡ Some g → count q (told_rows (cond b ((e.0, new) ∷ es) (e ∷ set_value (λ k. is_eq (row_cmp key k)) es new))) + times_of q g.told ≡ count q (with_entry e.1.told 1 (told_rows es)) + times_of q new.told) [
      | true ↦ λ f. exchanged (count q (with_entry new.told 1 (told_rows es))) (count q (with_entry e.1.told 1 (told_rows es))) (times_of q new.told) (times_of q e.1.told) (times_of q g.told) (count q (told_rows es)) (count_entry q new.told (told_rows es)) (count_entry q e.1.told (told_rows es)) (ap (λ (x : Group). times_of q x.told) (same e.1 g f))
      | false ↦ λ f.
          let rest = set_value (λ k. is_eq (row_cmp key k)) es new in
          behind (count q (with_entry e.1.told 1 (told_rows rest))) (count q (with_entry e.1.told 1 (told_rows es))) (times_of q e.1.told) (count q (told_rows rest)) (count q (told_rows es)) (times_of q g.told) (times_of q new.told) (count_entry q e.1.told (told_rows rest)) (count_entry q e.1.told (told_rows es)) (told_renewed q key es g new f)
    ] h
  where
    exchanged : (a b n o g c : ℕ) → a ≡ n + c → b ≡ o + c → o ≡ g → a + g ≡ b + n
    exchanged a b n o g c h i j = omega (arith, h, i, j)

    behind : (a b o c d g n : ℕ) → a ≡ o + c → b ≡ o + d → c + g ≡ d + n → a + g ≡ b + n
    behind a b o c d g n h i j = omega (arith, h, i, j)

    same : (x y : Group) → Some x ≡ Some y → x ≡ y
    same x y h = cc

-- it is taken out as the one before
remove_renewed : (key : Row) (es : Groups) (new : Group) → remove_entry (λ k. is_eq (row_cmp key k)) (set_value (λ k. is_eq (row_cmp key k)) es new) ≡ remove_entry (λ k. is_eq (row_cmp key k)) es
remove_renewed key [] new = refl
remove_renewed key (e ∷ es) new =
    elim (is_eq (row_cmp key e.0)) as (λ b. is_eq (row_cmp key e.0) ≡ b → remove_entry (λ k. is_eq (row_cmp key k)) (cond b ((e.0, new) ∷ es) (e ∷ set_value (λ k. is_eq (row_cmp key k)) es new)) ≡ cond b es (e ∷ remove_entry (λ k. is_eq (row_cmp key k)) es)) [
      | true ↦ λ t. ap (λ b. cond b es ((e.0, new) ∷ remove_entry (λ k. is_eq (row_cmp key k)) es)) t
      | false ↦ λ t. ap (λ b. cond b (set_value (λ k. is_eq (row_cmp key k)) es new) (e ∷ remove_entry (λ k. is_eq (row_cmp key k)) (set_value (λ k. is_eq (row_cmp key k)) es new))) t ∙ ap (λ l. e ∷ l) (remove_renewed key es new)
    ] refl

positive_rows : (es : Groups) → ArePositive (told_rows es)
positive_rows [] = λ i d lt. absurd (omega (arith, lt))
positive_rows (e ∷ es) = elim (e.1.told) as (λ o. ArePositive (with_entry o 1 (told_rows es))) [
  | None ↦ positive_rows es
  | Some row ↦ All-cons (λ (x : Row × ℕ). 1 ≤ x.1) (row, 1) (told_rows es) (omega arith) (positive_rows es)
]

-- the bag that was told is that of the groups
pub told_now : (laws : Laws) (layout : Layout) (port told : Counts) (es : Groups) (left : List Row) → IsGrouping layout port told es left → told_of es ≡ told
told_now laws layout port told es left was = laws.same (put_all (told_rows es) []) told ((laws.puts (told_rows es) []).0 tt (positive_rows es)) was.told_bag (λ q. (laws.puts (told_rows es) []).1 q ∙ zero_in (count q (told_rows es)) ∙ sym (was.rows q))
  where
    zero_in : (n : ℕ) → 0 + n ≡ n
    zero_in n = omega arith

pub as_told : (laws : Laws) (layout : Layout) (port told : Counts) (es : Groups) (left : List Row) → IsGrouping layout port told es left → IsGrouping layout port (told_of es) es left
as_told laws layout port told es left was = subst (λ t. IsGrouping layout port t es left) (sym (told_now laws layout port told es left was)) was

-- ---- what waits

or_other : (a b : Bool) → a ≡ false → (a || b) ≡ true → b ≡ true
or_other true b h e = absurd cc
or_other false b h e = e

or_more : (a b : Bool) → a ≡ true → (a || b) ≡ true
or_more true b h = refl
or_more false b h = absurd cc

-- a key that isn't the one that was told
other_waits : (layout : Layout) (key : Row) (rest : List Row) (q : Row) (rows : Counts) (o : Option Group) → is_eq (row_cmp key q) ≡ false → IsHeldAt layout (key ∷ rest) q rows o → IsHeldAt layout rest q rows o
other_waits layout key rest q rows None apart held = held
other_waits layout key rest q rows (Some g) apart held = record {
  group = held.group;
  lacks = held.lacks;
  waits = λ p. or_other (is_eq (row_cmp key q)) (is_among rest q) apart (held.waits p);
  settled = held.settled;
  typed = held.typed;
}

-- and with one more that waits
more_waits : (layout : Layout) (left more : List Row) (q : Row) (rows after : Counts) (o : Option Group) → after ≡ rows → ((b : Bool) → is_among left q ≡ true → is_among more q ≡ true) → IsHeldAt layout left q rows o → IsHeldAt layout more q after o
more_waits layout left more q rows after None e on held = e ∙ held
more_waits layout left more q rows after (Some g) e on held = record {
  group = subst (λ r. IsGroupOf layout q r g) (sym e) held.group;
  lacks = held.lacks ∙ ap (times_lacking layout.shape.items) (sym e);
  waits = λ p. on true (held.waits p);
  settled = λ p. let s = held.settled p in (s.0, s.1, s.2, ap (items_over layout.shape.items) e ∙ s.3);
  typed = held.typed;
}

at_true : {A : Type 0} (b : Bool) (x y : A) → b ≡ true → cond b x y ≡ x
at_true b x y h = ap (λ t. cond t x y) h

at_false : {A : Type 0} (b : Bool) (x y : A) → b ≡ false → cond b x y ≡ y
at_false b x y h = ap (λ t. cond t x y) h

-- what holds of each key, where one key's group was exchanged
held_by : (P : Row → Option Group → Type 0) (key : Row) (w : Option Group) (es after : Groups) → ((q : Row) → at_key q after ≡ cond (is_eq (row_cmp key q)) w (at_key q es)) → P key w → ((q : Row) → is_eq (row_cmp key q) ≡ false → P q (at_key q es)) → (q : Row) → P q (at_key q after)
held_by P key w es after now at_it others q =
    elim (is_eq (row_cmp key q)) as (λ b. is_eq (row_cmp key q) ≡ b → P q (at_key q after)) [
      | true ↦ λ t. subst (P q) (sym (now q ∙ at_true (is_eq (row_cmp key q)) w (at_key q es) t)) (subst (λ k. P k w) (tied key q t) at_it)
      | false ↦ λ t. subst (P q) (sym (now q ∙ at_false (is_eq (row_cmp key q)) w (at_key q es) t)) (others q t)
    ] refl

-- a key without a group is passed over
pub passed : (layout : Layout) (port told : Counts) (es after : Groups) (key : Row) (rest : List Row) → IsGrouping layout port told es (key ∷ rest) → None ≡ at_key key es → after ≡ es → IsGrouping layout port told after rest
passed layout port told es after key rest was none same = record {
  layout = was.layout;
  in_port = was.in_port;
  port_bag = was.port_bag;
  told_bag = was.told_bag;
  held = λ q. subst (λ l. IsHeldAt layout rest q (group_of layout.shape.groups port q) (at_key q l)) (sym same) (held_by (λ k o. IsHeldAt layout rest k (group_of layout.shape.groups port k) o) key None es es unchanged (subst (IsHeldAt layout (key ∷ rest) key (group_of layout.shape.groups port key)) (sym none) (was.held key)) (λ q t. other_waits layout key rest q (group_of layout.shape.groups port q) (at_key q es) t (was.held q)) q);
  rows = λ q. was.rows q ∙ ap (λ l. count q (told_rows l)) (sym same);
}
  where
    unchanged : (q : Row) → at_key q es ≡ cond (is_eq (row_cmp key q)) None (at_key q es)
    unchanged q = elim (is_eq (row_cmp key q)) as (λ b. is_eq (row_cmp key q) ≡ b → at_key q es ≡ cond b None (at_key q es)) [
      | true ↦ λ t. subst (λ k. at_key k es ≡ None) (tied key q t) (sym none)
      | false ↦ λ t. refl
    ] refl

-- ---- a key that is told

no_rows : (rows : Counts) → IsBag rows → size_of rows ≡ 0 → rows ≡ []
no_rows [] is h = refl
no_rows (e ∷ es) is h = absurd (let one : 1 ≤ e.1 = is.0 in omega (arith, one, h))

count_gone : (t : ℕ) (n m : ℕ) → m ≡ n - t → t ≤ n → m + t ≡ n
count_gone t n m h le = omega (arith, h, le)

module _ (laws : Laws) (typing : IsGroupTypesLaw) (layout : Layout) (port told : Counts) (es : Groups) (key : Row) (rest : List Row) (was : IsGrouping layout port told es (key ∷ rest)) (g : Group) (there : at_key key es ≡ Some g) where
  abbrev its_rows : Counts
  its_rows = group_of layout.shape.groups port key

  pub held : IsHeldOf layout (key ∷ rest) key its_rows g
  held = subst (IsHeldAt layout (key ∷ rest) key its_rows) there (was.held key)

  abbrev columns : List ColumnType
  columns = item_types layout.shape.columns layout.shape.items

  rows_is_bag : IsBag its_rows
  rows_is_bag = (laws.group layout.shape.groups port key was.port_bag).is_bag

  -- the row that a group has is that of its items
  pub row_of : (row : Row) → IsDue layout.sources g (Some row) → items_over layout.shape.items its_rows ≡ Some row
  row_of row due = sym (row_is laws layout was.layout port was.port_bag was.in_port key g held.group due.0) ∙ due.1

  pub row_types : (row : Row) → IsDue layout.sources g (Some row) → IsTyped layout.shape → HasTypes columns row
  row_types row due typed = typing layout.shape its_rows row typed (group_types laws layout was.layout port was.port_bag was.in_port key port was.in_port) (row_of row due)

  -- the bag told, without the old row
  abbrev gone : Counts
  gone = changed_by (with_change false g.told []) told

  old_there : (q : Row) → times_of q g.told ≤ count q told
  old_there q = omega (arith, was.rows q, told_without q key es g there)

  less_old : (o : Option Row) → ((q : Row) → times_of q o ≤ count q told) → CanChangeBy (with_change false o []) told × ((q : Row) → count q (changed_by (with_change false o []) told) + times_of q o ≡ count q told)
  less_old None le = (tt, λ q. omega arith)
  less_old (Some r) le = ((λ _. one (le r), tt), λ q. count_gone (times_of q (Some r)) (count q told) (count q (less_one r told)) ((laws.takes told r was.told_bag).1 q) (le q))
    where
      one : (if is_eq (row_cmp r r) then 1 else 0) ≤ count r told → 0 < count r told
      one h = subst (λ b. (if b then 1 else 0) ≤ count r told → 0 < count r told) (sym (ties_itself r)) (λ l. omega (arith, l)) h

  more_new : (o : Option Row) (bag : Counts) → CanChangeBy (with_change true o []) bag × ((q : Row) → count q (changed_by (with_change true o []) bag) ≡ count q bag + times_of q o)
  more_new None bag = (tt, λ q. omega arith)
  more_new (Some r) bag = ((λ e. absurd cc, tt), λ q. count_put laws.same laws.puts laws.takes q r 1 bag)

  module _ (due : Option Row) (is_due : IsDue layout.sources g due) where
    abbrev after : Counts
    after = changed_by (with_change true due []) gone

    abbrev changes : List Change
    changes = with_change false g.told (with_change true due [])

    both : (o p : Option Row) (b : Counts) → changed_by (with_change false o (with_change true p [])) b ≡ changed_by (with_change true p []) (changed_by (with_change false o []) b)
    both None p b = refl
    both (Some r) p b = refl

    can_both : (o p : Option Row) (b : Counts) → CanChangeBy (with_change false o []) b → CanChangeBy (with_change true p []) (changed_by (with_change false o []) b) → CanChangeBy (with_change false o (with_change true p [])) b
    can_both None p b x y = y
    can_both (Some r) p b x y = (x.0, y)

    types_of_new : (o : Option Row) → IsDue layout.sources g o → IsTyped layout.shape → AreChangesOf columns (with_change true o [])
    types_of_new None d typed = tt
    types_of_new (Some r) d typed = (row_types r d typed, tt)

    types_of_both : (o : Option Row) (rest : List Change) → IfSome o (HasTypes columns) → AreChangesOf columns rest → AreChangesOf columns (with_change false o rest)
    types_of_both None rest h all = all
    types_of_both (Some r) rest h all = (h, all)

    pub are_told : AreTold layout.shape told after changes
    are_told = record {
      there = can_both g.told due told (less_old g.told old_there).0 (more_new due gone).0;
      leads = sym (both g.told due told);
      columns = λ typed. types_of_both g.told (with_change true due []) (held.typed typed) (types_of_new due is_due typed);
    }

    pub tells : (before middle out : List Change) → middle ≡ before ++ with_change false g.told [] → out ≡ middle ++ with_change true due [] → TellsGroups layout.shape told after before out
    tells before middle out a b = (changes, b ∙ ap (λ l. l ++ with_change true due []) a ∙ joined g.told, are_told)
      where
        joined : (o : Option Row) → (before ++ with_change false o []) ++ with_change true due [] ≡ before ++ with_change false o (with_change true due [])
        joined None = append_assoc before [] (with_change true due [])
        joined (Some r) = append_assoc before (change_of false r ∷ []) (with_change true due [])

    count_after : (q : Row) → count q after + times_of q g.told ≡ count q told + times_of q due
    count_after q = sums (count q after) (count q gone) (times_of q g.told) (count q told) (times_of q due) ((more_new due gone).1 q) ((less_old g.told old_there).1 q)
      where
        sums : (a b c d e : ℕ) → a ≡ b + e → b + c ≡ d → a + c ≡ d + e
        sums a b c d e h i = omega (arith, h, i)

    is_bag : IsBag after
    is_bag = IsBag-changed_by laws.same laws.puts laws.takes (with_change true due []) gone (IsBag-changed_by laws.same laws.puts laws.takes (with_change false g.told []) told was.told_bag)

    renewed : (w : Option Group) (now : Groups) → ((q : Row) → at_key q now ≡ cond (is_eq (row_cmp key q)) w (at_key q es)) → IsHeldAt layout rest key its_rows w → ((q : Row) → count q (told_rows now) + times_of q g.told ≡ count q (told_rows es) + times_of q due) → IsGrouping layout port after now rest
    renewed w now looks at_it counts = record {
      layout = was.layout;
      in_port = was.in_port;
      port_bag = was.port_bag;
      told_bag = is_bag;
      held = held_by (λ k o. IsHeldAt layout rest k (group_of layout.shape.groups port k) o) key w es now looks at_it (λ q t. other_waits layout key rest q (group_of layout.shape.groups port q) (at_key q es) t (was.held q));
      rows = λ q. cancel (count q after) (times_of q g.told) (count q told) (times_of q due) (count q (told_rows now)) (count q (told_rows es)) (count_after q) (counts q) (was.rows q);
    }
      where
        cancel : (a t c d n m : ℕ) → a + t ≡ c + d → n + t ≡ m + d → c ≡ m → a ≡ n
        cancel a t c d n m h i j = omega (arith, h, i, j)

  -- a group with rows stays, with the row that was told
  kept_on : (row : Row) (now : Groups) → IsDue layout.sources g (Some row) → ((q : Row) → at_key q now ≡ cond (is_eq (row_cmp key q)) (Some (record g { told = Some row; pushed = false })) (at_key q es))
      → now ≡ set_value (λ k. is_eq (row_cmp key k)) es (record g { told = Some row; pushed = false }) → IsGrouping layout port (changed_by (with_change true (Some row) []) gone) now rest
  kept_on row now due looks is =
      renewed (Some row) due (Some (record g { told = Some row; pushed = false })) now looks (record {
        group = record { keyed = held.group.keyed; size = held.group.size; few = held.group.few; parts = held.group.parts; sample = held.group.sample; types = held.group.types };
        lacks = held.lacks;
        waits = λ p. absurd cc;
        settled = λ p. (row, refl, due.0, row_of row due);
        typed = λ typed. row_types row due typed;
      }) (λ q. ap (λ l. count q (told_rows l) + times_of q g.told) is ∙ told_renewed q key es g (record g { told = Some row; pushed = false }) there)

  -- one without rows goes
  let_go : (now : Groups) → IsDue layout.sources g None → ((q : Row) → at_key q now ≡ cond (is_eq (row_cmp key q)) None (at_key q es)) → now ≡ remove_entry (λ k. is_eq (row_cmp key k)) es
      → IsGrouping layout port (changed_by (with_change true None []) gone) now rest
  let_go now due looks is =
      renewed None due None now looks (no_rows its_rows rows_is_bag (sym held.group.size ∙ due)) (λ q.
      sums (count q (told_rows now)) (times_of q g.told) (count q (told_rows es)) (ap (λ l. count q (told_rows l)) is) (told_without q key es g there))
    where
      sums : (a t c : ℕ) {b : ℕ} → a ≡ b → c ≡ b + t → a + t ≡ c + 0
      sums a t c h i = omega (arith, h, i)

  -- the groups after one of them was settled
  pub settled_some : (new : Group) (some : Bool) (now : Groups) → IsSettled layout.sources g new some → some ≡ true → now ≡ set_value (λ k. is_eq (row_cmp key k)) es new → ((q : Row) → at_key q now ≡ cond (is_eq (row_cmp key q)) (Some new) (at_key q es))
      → IsGrouping layout port (changed_by (with_change true new.told []) gone) now rest
  settled_some new some now settled has is looks = by_row new.told settled.due (sym settled.is ∙ has) settled.same
    where
      by_row : (o : Option Row) → IsDue layout.sources g o → is_some o ≡ true → new ≡ record g { told = o; pushed = false } → IsGrouping layout port (changed_by (with_change true o []) gone) now rest
      by_row None due h e = absurd cc
      by_row (Some row) due h e = kept_on row now due (λ q. looks q ∙ ap (λ x. cond (is_eq (row_cmp key q)) (Some x) (at_key q es)) e) (is ∙ ap (set_value (λ k. is_eq (row_cmp key k)) es) e)

  pub settled_none : (new : Group) (some : Bool) (mid now : Groups) → IsSettled layout.sources g new some → some ≡ false → mid ≡ set_value (λ k. is_eq (row_cmp key k)) es new → ((q : Row) → at_key q mid ≡ cond (is_eq (row_cmp key q)) (Some new) (at_key q es))
      → now ≡ remove_entry (λ k. is_eq (row_cmp key k)) mid → ((q : Row) → at_key q now ≡ cond (is_eq (row_cmp key q)) None (at_key q mid)) → IsGrouping layout port (changed_by (with_change true new.told []) gone) now rest
  settled_none new some mid now settled has set_is looks is gone_at = by_row new.told settled.due (sym settled.is ∙ has)
    where
      over : {A : Type 0} (b : Bool) (w x : Option A) → cond b None (cond b w x) ≡ cond b None x
      over true w x = refl
      over false w x = refl

      by_row : (o : Option Row) → IsDue layout.sources g o → is_some o ≡ false → IsGrouping layout port (changed_by (with_change true o []) gone) now rest
      by_row None due h = let_go now due (λ q. gone_at q ∙ ap (cond (is_eq (row_cmp key q)) None) (looks q) ∙ over (is_eq (row_cmp key q)) (Some new) (at_key q es)) (is ∙ ap (remove_entry (λ k. is_eq (row_cmp key k))) set_is ∙ remove_renewed key es new)
      by_row (Some row) due h = absurd cc

-- what the groups tell then
pub told_to : (laws : Laws) (layout : Layout) (port : Counts) (es now : Groups) (key : Row) (rest : List Row) (was : IsGrouping layout port (told_of es) es (key ∷ rest)) (g : Group) (there : at_key key es ≡ Some g) (due : Option Row) (is_due : IsDue layout.sources g due) (before out : List Change)
    → out ≡ (before ++ with_change false g.told []) ++ with_change true due [] → IsGrouping layout port (changed_by (with_change true due []) (changed_by (with_change false g.told []) (told_of es))) now rest → IsToldOf layout port es now rest before out
told_to laws layout port es now key rest was g there due is_due before out grown grouping = record {
  groups = as_told laws layout port (changed_by (with_change true due []) (changed_by (with_change false g.told []) (told_of es))) now rest grouping;
  told = subst (λ t. TellsGroups layout.shape (told_of es) t before out) (sym (told_now laws layout port (changed_by (with_change true due []) (changed_by (with_change false g.told []) (told_of es))) now rest grouping)) (tells laws laws.typing layout port (told_of es) es key rest was g there due is_due before (before ++ with_change false g.told []) out refl grown);
}

-- nothing, of a key without a group
pub told_none : (laws : Laws) (layout : Layout) (port : Counts) (es : Groups) (key : Row) (rest : List Row) → IsGrouping layout port (told_of es) es (key ∷ rest) → at_key key es ≡ None → (out : List Change) → IsToldOf layout port es es rest out out
told_none laws layout port es key rest was none out = record {
  groups = passed layout port (told_of es) es es key rest was (sym none) refl;
  told = ([], sym (append-nil out), record { there = tt; leads = refl; columns = λ _. tt });
}

-- ---- a row that comes or goes

-- the group that was taken holds the rows of its key
taken_is : (layout : Layout) (left : List Row) (key row : Row) (rows : Counts) (o : Option Group) (g : Group) → IsHeldAt layout left key rows o → key_of layout.shape.groups row ≡ key → HasTypes layout.shape.columns row → IsTaken layout.asked key row o g → IsGroupOf layout key rows g
taken_is layout left key row rows None g none has types new = record {
  keyed = new.keyed;
  size = new.size ∙ ap size_of (sym none);
  few = subst (λ n. n < 9223372036854775808) (sym new.size) (omega arith);
  parts = new.parts ∙ ap (λ r. map (part_of r) layout.asked) (sym none);
  sample = ap (key_of layout.shape.groups) new.sample ∙ has;
  types = subst (HasTypes layout.shape.columns) (sym new.sample) types;
}
taken_is layout left key row rows (Some h) g held has types same = subst (IsGroupOf layout key rows) (sym same) held.group

abbrev none_typed : List ColumnType → Option Row → Type 0
none_typed columns o = IfSome o (HasTypes columns)

taken_typed : (layout : Layout) (left : List Row) (key row : Row) (rows : Counts) (o : Option Group) (g : Group) → IsHeldAt layout left key rows o → IsTaken layout.asked key row o g → IsTyped layout.shape → IfSome g.told (HasTypes (item_types layout.shape.columns layout.shape.items))
taken_typed layout left key row rows None g none new typed = subst (none_typed (item_types layout.shape.columns layout.shape.items)) (sym new.told) tt
taken_typed layout left key row rows (Some h) g held same typed = subst (λ (x : Group). none_typed (item_types layout.shape.columns layout.shape.items) x.told) (sym same) (held.typed typed)

taken_waits : (layout : Layout) (left : List Row) (key row : Row) (rows : Counts) (o : Option Group) (g : Group) → IsHeldAt layout left key rows o → IsTaken layout.asked key row o g → g.pushed ≡ true → is_among left key ≡ true
taken_waits layout left key row rows None g none new p = absurd (let f = new.pushed in cc)
taken_waits layout left key row rows (Some h) g held same p = held.waits (ap (λ (x : Group). x.pushed) (sym same) ∙ p)

-- the rows told are as they were, where one of the groups was changed
pub told_set : (key : Row) (es : Groups) (g new : Group) → at_key key es ≡ Some g → new.told ≡ g.told → told_rows (set_value (λ k. is_eq (row_cmp key k)) es new) ≡ told_rows es
told_set key [] g new at same = refl
told_set key (e ∷ es) g new at same =
    elim (is_eq (row_cmp key e.0)) as (λ b. cond b (Some e.1) (at_key key es) ≡ Some g → told_rows (cond b ((e.0, new) ∷ es) (e ∷ set_value (λ k. is_eq (row_cmp key k)) es new)) ≡ with_entry e.1.told 1 (told_rows es)) [
      | true ↦ λ f. ap (λ o. with_entry o 1 (told_rows es)) (same ∙ sym (ap (λ (x : Group). x.told) (one_group e.1 g f)))
      | false ↦ λ f. ap (with_entry e.1.told 1) (told_set key es g new f same)
    ] at
  where
    one_group : (x y : Group) → Some x ≡ Some y → x ≡ y
    one_group x y h = cc

-- or where one was put in of which none was told
pub told_put : (q key : Row) (es : Groups) (new : Group) → at_key key es ≡ None → new.told ≡ None → count q (told_rows (insert_entry row_cmp es key new)) ≡ count q (told_rows es)
told_put q key es new at none = told_with q key es new at ∙ ap (λ o. count q (told_rows es) + times_of q o) none ∙ zero_more (count q (told_rows es))
  where
    zero_more : (n : ℕ) → n + 0 ≡ n
    zero_more n = omega arith

-- the keys that wait, with one more
abbrev pub waiting : Bool → List Row → Row → List Row
waiting b left key = if b then left else left ++ key ∷ []

still : (b : Bool) (left : List Row) (key q : Row) → is_among left q ≡ true → is_among (waiting b left key) q ≡ true
still true left key q h = h
still false left key q h = list_any-append (λ x. is_eq (row_cmp x q)) left (key ∷ []) ∙ or_more (is_among left q) (is_among (key ∷ []) q) h

or_last : (a b : Bool) → b ≡ true → (a || (b || false)) ≡ true
or_last true b h = refl
or_last false true h = refl
or_last false false h = absurd cc

now_waits : (b : Bool) (left : List Row) (key : Row) → (b ≡ true → is_among left key ≡ true) → is_among (waiting b left key) key ≡ true
now_waits true left key h = h refl
now_waits false left key h = list_any-append (λ x. is_eq (row_cmp x key)) left (key ∷ []) ∙ or_last (is_among left key) (is_eq (row_cmp key key)) (ties_itself key)

-- the rows of a row's key, where it goes
some_rows : (laws : Laws) (layout : Layout) (port told : Counts) (es : Groups) (left : List Row) (c : Change) (key : Row) (g : Group) → key_of layout.shape.groups c.row ≡ key → IsGrouping layout port told es left → HasTypes layout.shape.columns c.row → CanChange c port
    → IsTaken layout.asked key c.row (at_key key es) g → IsGroupOf layout key (group_of layout.shape.groups port key) g × (c.plus ≡ false → 1 ≤ g.size)
some_rows laws layout port told es left c key g is_key was types can taken =
    let of = taken_is layout left key c.row (group_of layout.shape.groups port key) (at_key key es) g (was.held key) is_key types taken in
    let can_group = can_change laws c port was.port_bag can layout.shape.groups key (ties (key_of layout.shape.groups c.row) key is_key) in
    (of, λ e. enough (size_of (less_one c.row (group_of layout.shape.groups port key))) (size_of (group_of layout.shape.groups port key)) g.size (laws.fewer 0 (group_of layout.shape.groups port key) c.row (laws.group layout.shape.groups port key was.port_bag).is_bag (can_group e)).size of.size)
  where
    enough : (a b n : ℕ) → a + 1 ≡ b → n ≡ b → 1 ≤ n
    enough a b n h i = omega (arith, h, i)

-- a group changed where it stands
pub changed_some : (asked : List AccumulatorKind) (c : Change) (key : Row) (es now : Groups) (left more : List Row) (old_count new_count : ℕ) (g new : Group) → Some g ≡ at_key key es → IsChangedGroup c (record g { pushed = true }) new
    → now ≡ set_value (λ k. is_eq (row_cmp key k)) es new → ((q : Row) → at_key q now ≡ cond (is_eq (row_cmp key q)) (Some new) (at_key q es)) → more ≡ waiting g.pushed left g.key → new_count + one_if g.lacks ≡ old_count + one_if new.lacks → IsChangedAt asked c key es now left more old_count new_count
changed_some asked c key es now left more old_count new_count g new there turned is looks waits counts = record {
  was = g;
  now = new;
  taken = subst (λ o. IsTaken asked key c.row o g) there refl;
  turned = turned;
  looks = looks;
  told = λ q. ap (λ l. count q (told_rows l)) is ∙ ap (count q) (told_set key es g new (sym there) turned.told);
  waits = waits;
  counted = counts;
}

-- and one that is put in
pub changed_none : (asked : List AccumulatorKind) (c : Change) (key : Row) (es now : Groups) (left more : List Row) (old_count new_count : ℕ) (g new : Group) → None ≡ at_key key es → IsNew asked key c.row g → IsChangedGroup c (record g { pushed = true }) new
    → now ≡ insert_entry row_cmp es key new → ((q : Row) → at_key q now ≡ cond (is_eq (row_cmp key q)) (Some new) (at_key q es)) → more ≡ waiting g.pushed left g.key → new_count + one_if g.lacks ≡ old_count + one_if new.lacks → IsChangedAt asked c key es now left more old_count new_count
changed_none asked c key es now left more old_count new_count g new none is_new turned is looks waits counts = record {
  was = g;
  now = new;
  taken = subst (λ o. IsTaken asked key c.row o g) none is_new;
  turned = turned;
  looks = looks;
  told = λ q. ap (λ l. count q (told_rows l)) is ∙ told_put q key es new (sym none) (turned.told ∙ is_new.told);
  waits = waits;
  counted = counts;
}

-- whether the group that was taken lacks a value
taken_lacks : (layout : Layout) (left : List Row) (key row : Row) (rows : Counts) (o : Option Group) (g : Group) → IsHeldAt layout left key rows o → IsTaken layout.asked key row o g → one_if g.lacks ≡ times_lacking layout.shape.items rows
taken_lacks layout left key row rows None g none new = ap one_if new.lacks ∙ sym (ap (times_lacking layout.shape.items) none)
taken_lacks layout left key row rows (Some h) g held same = ap (λ (x : Group). one_if x.lacks) same ∙ held.lacks

pub can_change_at : (laws : Laws) (layout : Layout) (port told : Counts) (es : Groups) (left : List Row) (lacking : ℕ) (c : Change) (key : Row) → key_of layout.shape.groups c.row ≡ key → IsGrouping layout port told es left → lacking ≡ lacking_groups layout.shape port → HasTypes layout.shape.columns c.row → CanChange c port
    → CanChangeAt layout.asked c key (at_key key es) lacking
can_change_at laws layout port told es left lacking c key is_key was counts types can g taken =
    let of = some_rows laws layout port told es left c key g is_key was types can taken in
    let lacks = taken_lacks layout left key c.row (group_of layout.shape.groups port key) (at_key key es) g (was.held key) taken in
    (of.0.few, of.1, λ e. subst (λ n. 1 ≤ n) (sym counts) (among_lacking laws layout.shape port key was.layout.keyed was.port_bag (one_more g.lacks (times_lacking layout.shape.items (group_of layout.shape.groups port key)) e lacks)))
  where
    one_more : (b : Bool) (n : ℕ) → b ≡ true → one_if b ≡ n → 1 ≤ n
    one_more true n e h = (let i : 1 ≡ n = h in omega (arith, i))
    one_more false n e h = absurd cc

-- a row that came or went in the group of its key
module _ (laws : Laws) (layout : Layout) (port told : Counts) (es : Groups) (left : List Row) (c : Change) (key : Row) (is_key : key_of layout.shape.groups c.row ≡ key) (was : IsGrouping layout port told es left) (types : HasTypes layout.shape.columns c.row) (can : CanChange c port)
    (g new : Group) (taken : IsTaken layout.asked key c.row (at_key key es) g) (turned : IsChangedGroup c (record g { pushed = true }) new) where
  abbrev its : Counts
  its = group_of layout.shape.groups port key

  abbrev its_after : Counts
  its_after = group_of layout.shape.groups (changed c port) key

  at_it : is_eq (row_cmp (key_of layout.shape.groups c.row) key) ≡ true
  at_it = ties (key_of layout.shape.groups c.row) key is_key

  bag_after : IsBag (changed c port)
  bag_after = IsBag-changed_by laws.same laws.puts laws.takes (c ∷ []) port was.port_bag

  types_after : AreOf layout.shape.columns (changed c port)
  types_after = laws.changes layout.shape.columns c port was.in_port types

  pub its_key : g.key ≡ key
  its_key = (some_rows laws layout port told es left c key g is_key was types can taken).0.keyed

  new_of : IsGroupOf layout key its_after new
  new_of =
      let of = (some_rows laws layout port told es left c key g is_key was types can taken).0 in
      let its_bag : IsBag its = (laws.group layout.shape.groups port key was.port_bag).is_bag in
      let can_group = can_change laws c port was.port_bag can layout.shape.groups key at_it in
      let marked : IsGroupOf layout key its (record g { pushed = true }) = record { keyed = of.keyed; size = of.size; few = of.few; parts = of.parts; sample = of.sample; types = of.types } in
      subst (λ r. IsGroupOf layout key r new) (sym (group_changed laws c port was.port_bag can layout.shape.groups key at_it)) (group_after laws c its its_bag can_group layout key (record g { pushed = true }) new marked turned)

  new_lacks : one_if new.lacks ≡ times_lacking layout.shape.items its_after
  new_lacks = lacks_is laws layout was.layout (changed c port) bag_after types_after key new new_of turned.lacks

  held_new : IsHeldOf layout (waiting g.pushed left key) key its_after new
  held_new = record {
    group = new_of;
    lacks = new_lacks;
    waits = λ p. now_waits g.pushed left key (taken_waits layout left key c.row its (at_key key es) g (was.held key) taken);
    settled = λ p. absurd (let t : new.pushed ≡ true = turned.pushed in cc);
    typed = λ typed. subst (none_typed (item_types layout.shape.columns layout.shape.items)) (sym turned.told) (taken_typed layout left key c.row its (at_key key es) g (was.held key) taken typed);
  }

  row_waits : (now : Groups) → ((q : Row) → at_key q now ≡ cond (is_eq (row_cmp key q)) (Some new) (at_key q es)) → ((q : Row) → count q (told_rows now) ≡ count q (told_rows es)) → IsGrouping layout (changed c port) told now (waiting g.pushed left key)
  row_waits now looks same_told = record {
    layout = was.layout;
    in_port = types_after;
    port_bag = bag_after;
    told_bag = was.told_bag;
    held = held_by (λ k o. IsHeldAt layout (waiting g.pushed left key) k (group_of layout.shape.groups (changed c port) k) o) key (Some new) es now looks held_new
        (λ q t. more_waits layout left (waiting g.pushed left key) q (group_of layout.shape.groups port q) (group_of layout.shape.groups (changed c port) q) (at_key q es) (group_stays laws c port was.port_bag can layout.shape.groups q (ap (λ k. is_eq (row_cmp k q)) is_key ∙ t)) (λ _ h. still g.pushed left key q h) (was.held q));
    rows = λ q. was.rows q ∙ sym (same_told q);
  }

  -- one group lacks a value more, or one fewer, or as many do
  counted : (before after : ℕ) → before ≡ lacking_groups layout.shape port → after + one_if g.lacks ≡ before + one_if new.lacks → after ≡ lacking_groups layout.shape (changed c port)
  counted before after is counts =
      let one = laws.one_group layout.shape.groups (times_lacking layout.shape.items) port c was.port_bag can refl in
      let at_key_of : lacking_groups layout.shape (changed c port) + times_lacking layout.shape.items its ≡ lacking_groups layout.shape port + times_lacking layout.shape.items its_after = subst (λ k. lacking_groups layout.shape (changed c port) + times_lacking layout.shape.items (group_of layout.shape.groups port k) ≡ lacking_groups layout.shape port + times_lacking layout.shape.items (group_of layout.shape.groups (changed c port) k)) is_key one in
      cancel after before (lacking_groups layout.shape port) (lacking_groups layout.shape (changed c port)) (one_if g.lacks) (one_if new.lacks) (times_lacking layout.shape.items its) (times_lacking layout.shape.items its_after) counts is
      (taken_lacks layout left key c.row its (at_key key es) g (was.held key) taken) new_lacks at_key_of
    where
      cancel : (a b m n x y u v : ℕ) → a + x ≡ b + y → b ≡ m → x ≡ u → y ≡ v → n + u ≡ m + v → a ≡ n
      cancel a b m n x y u v h i j k e = omega (arith, h, i, j, k, e)

module _ (laws : Laws) (layout : Layout) (port told : Counts) (es now : Groups) (left more : List Row) (before after : ℕ) (c : Change) (key : Row) (is_key : key_of layout.shape.groups c.row ≡ key) (was : IsGrouping layout port told es left) (types : HasTypes layout.shape.columns c.row) (can : CanChange c port)
    (at : IsChangedAt layout.asked c key es now left more before after) where
  pub row_pushed : IsGrouping layout (changed c port) told now more
  row_pushed =
      let is = ap (waiting at.was.pushed left) (its_key laws layout port told es left c key is_key was types can at.was at.now at.taken at.turned) in
      subst (IsGrouping layout (changed c port) told now) (sym (at.waits ∙ is)) (row_waits laws layout port told es left c key is_key was types can at.was at.now at.taken at.turned now at.looks at.told)

  pub count_pushed : before ≡ lacking_groups layout.shape port → after ≡ lacking_groups layout.shape (changed c port)
  count_pushed is = counted laws layout port told es left c key is_key was types can at.was at.now at.taken at.turned before after is at.counted

pub on_ok_from : {X E : Type 0} (r : Result X E) (P Q : Type 0) → (P → Q) → OnOk r P → OnOk r Q
on_ok_from (Ok x) P Q f p = f p
on_ok_from (Err e) P Q f p = tt
