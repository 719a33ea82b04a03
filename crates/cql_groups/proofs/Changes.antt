-- What a change of a bag is to its keys, its size, its totals and its groups.
use Rattle.std.proofs.Common.{◌≡◌, ℕ, ◌+◌, ◌<◌, ℤ, ◌+ℤ◌, ◌-ℤ◌, List, true, false, if◌then◌else◌, slice_get, refl, sym, ap, ◌∙◌, subst, arith}
use Rattle.std.proofs.lemmas.Int.{ints}
use Rattle.std.specs.Ordering.{is_eq}
use Rattle.cql_value.specs.Order.{row_cmp}
use Rattle.cql_value.specs.declared.value.Value.{Value}
use Rattle.cql_bag.specs.Bag.{Counts, IsBag, count, put, less_one, size_of}
use Rattle.cql_bag.specs.Changes.{change_of, changed, CanChange}
use Rattle.cql_bag.specs.declared.change.Change.{Change}
use Rattle.cql_algebra.specs.Shape.{total, key_of, key_bag, group_of}
use Rattle.cql_algebra.specs.ShapeLaws.{number_in}
use Rattle.cql_groups.specs.Parts.{moved}
use Rattle.cql_groups.specs.GroupLaws.{Laws}

less_is : (a b s : ℤ) → b +ℤ s ≡ a → a -ℤ s ≡ b
less_is a b s h = omega (arith, ints, h)

module _ (laws : Laws) (c : Change) (bag : Counts) (is : IsBag bag) (can : CanChange c bag) where
  -- a change of the bag is a change of its keys
  pub keys_changed : (columns : List ℕ) → changed (change_of c.plus (key_of columns c.row)) (key_bag columns bag) ≡ key_bag columns (changed c bag)
  keys_changed columns = sym (laws.key_change columns bag c is can).keys

  pub size_changed : size_of (changed c bag) + (if c.plus then 0 else 1) ≡ size_of bag + (if c.plus then 1 else 0)
  size_changed =
      elim (c.plus) as (λ p. (p ≡ false → 0 < count c.row bag) → size_of (if p then put c.row bag else less_one c.row bag) + (if p then 0 else 1) ≡ size_of bag + (if p then 1 else 0)) [
        | true ↦ λ h. omega (arith, (laws.more 0 bag c.row).size)
        | false ↦ λ h. omega (arith, (laws.fewer 0 bag c.row is (h refl)).size)
      ] can

  pub total_changed : (at : ℕ) → moved c.plus (total at bag) (number_in (slice_get c.row at)) ≡ total at (changed c bag)
  total_changed at =
      elim (c.plus) as (λ p. (p ≡ false → 0 < count c.row bag) → moved p (total at bag) (number_in (slice_get c.row at)) ≡ total at (if p then put c.row bag else less_one c.row bag)) [
        | true ↦ λ h. sym (laws.more at bag c.row).total
        | false ↦ λ h. less_is (total at bag) (total at (less_one c.row bag)) (number_in (slice_get c.row at)) (laws.fewer at bag c.row is (h refl)).total
      ] can

  module _ (groups : List ℕ) (key : List Value) where
    abbrev its_group : Counts
    its_group = group_of groups bag key

    -- a change of a row of the key is a change of the key's group
    pub group_changed : is_eq (row_cmp (key_of groups c.row) key) ≡ true → group_of groups (changed c bag) key ≡ changed c its_group
    group_changed h = (laws.key_change groups bag c is can).group key ∙ ap (λ b. if b then changed c its_group else its_group) h

    -- and leaves that of another key
    pub group_stays : is_eq (row_cmp (key_of groups c.row) key) ≡ false → group_of groups (changed c bag) key ≡ its_group
    group_stays h = (laws.key_change groups bag c is can).group key ∙ ap (λ b. if b then changed c its_group else its_group) h

    -- a row of the key counts in the group as in the bag
    pub can_change : is_eq (row_cmp (key_of groups c.row) key) ≡ true → CanChange c its_group
    can_change h = λ e. subst (λ n. 0 < n) (sym ((laws.group groups bag key is).counts c.row ∙ ap (λ b. if b then count c.row bag else 0) h)) (can e)
