-- The rows of each key.
use Rattle.std.proofs.Common.{◌≡◌, ℕ, List, [], ◌∷◌, map, Option, refl, sym, ap, ◌∙◌}
use Rattle.cql_value.specs.declared.value.Value.{Value}
use Rattle.cql_bag.specs.Bag.{Counts, IsBag, put_all}
use Rattle.cql_bag.specs.Law.{IsEntriesLaw, IsPutAllLaw}
use Rattle.cql_algebra.specs.Shape.{key_of, key_bag, key_groups, group_of, group_row, groups_value, put_onto, all_of}
use Rattle.cql_plan.specs.declared.node.Item.{Item}
use Rattle.cql_plain.specs.Grouping.{Groups, groups_by, gather}
use Rattle.cql_plain.proofs.Gathering.{table, all_gathered}
use Rattle.cql_algebra.proofs.Keys.{bag_group as IsBag-group_of}

same_values : {K V : Type 0} (g h : K → V) (ks : List (K × ℕ)) → ((k : K) → g k ≡ h k) → table g ks ≡ table h ks
same_values g h [] same = refl
same_values g h (e ∷ es) same = ap (λ v. (e.0, v) ∷ table g es) (same e.0) ∙ ap (λ l. (e.0, h e.0) ∷ l) (same_values g h es same)

-- the rows put to their groups, from the first on
pub made_groups : IsEntriesLaw → IsPutAllLaw → (columns : List ℕ) (bag : Counts) (made : Groups) → IsBag bag → made ≡ gather (key_of columns) bag [] → made ≡ groups_by columns bag
made_groups own law columns bag made is all =
    all ∙ all_gathered (key_of columns) law [] bag (own bag is).0 ∙ same_values (λ k. put_all (group_of columns bag k) []) (group_of columns bag) (key_bag columns bag) (λ k. (own (group_of columns bag k) (IsBag-group_of columns k bag is)).1)

map-map : {A B C : Type 0} (f : B → C) (g : A → B) (xs : List A) → map f (map g xs) ≡ map (λ x. f (g x)) xs
map-map f g [] = refl
map-map f g (x ∷ xs) = ap (λ l. f (g x) ∷ l) (map-map f g xs)

-- the row of a key's group
abbrev pub row_of_key : List Item → List Value × Counts → Option (List Value × ℕ)
row_of_key items g = group_row items g.1

pub start_groups : (columns : List ℕ) (items : List Item) (bag : Counts) (entries found : Groups) (shaped : Counts) → entries ≡ found → found ≡ groups_by columns bag → shaped ≡ [] → put_onto shaped (all_of (map (row_of_key items) entries)) ≡ groups_value items (key_groups columns bag)
start_groups columns items bag entries found shaped e is none =
    let group : List Value × ℕ → Counts = λ x. group_of columns bag x.0 in
    ap (λ s. put_onto s (all_of (map (row_of_key items) entries))) none
    ∙ ap (λ l. put_onto [] (all_of (map (row_of_key items) l))) (e ∙ is)
    ∙ ap (λ l. put_onto [] (all_of l)) (map-map (row_of_key items) (λ (x : List Value × ℕ). (x.0, group x)) (key_bag columns bag) ∙ sym (map-map (group_row items) group (key_bag columns bag)))
