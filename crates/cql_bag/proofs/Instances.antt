-- Each law of bags at bags worked by hand: a premise that none of them meets is refused here.
use Rattle.std.proofs.Common.{◌≡◌, ℕ, pos, List, [], ◌∷◌, refl, rules}
use Rattle.cql_value.specs.declared.value.Value.{Value}
use Rattle.cql_value.specs.declared.value.Value.TheVariants.{Number}
use Rattle.cql_bag.specs.Bag.{Counts, IsBag, put_all}
use Rattle.cql_bag.specs.Law.{AreAscending, ArePositive, IsSameCountsLaw, IsMinusLaw, IsListingLaw, IsPutAllLaw, IsEntriesLaw, IsTakeLaw, IsPlusLaw, IsDistinctLaw}

abbrev one : ℕ → List Value
one n = Number (pos n) ∷ []

-- the row 1 once and the row 2 three times
abbrev bag : Counts
bag = (one 1, 1) ∷ (one 2, 3) ∷ []

abbrev other : Counts
other = (one 2, 1) ∷ []

bag_is : IsBag bag
bag_is = search rules

other_is : IsBag other
other_is = search rules

are_positive : ArePositive other
are_positive = search rules

-- THE LAWS
same_counts : IsSameCountsLaw → bag ≡ bag
same_counts law = law bag bag bag_is bag_is (λ row. refl)

listing_at : IsListingLaw → AreAscending (one 1 ∷ one 2 ∷ one 2 ∷ one 2 ∷ [])
listing_at law = (law bag bag_is).0

put_all_at : IsPutAllLaw → IsBag ((one 1, 1) ∷ (one 2, 4) ∷ [])
put_all_at law = (law other bag).0 bag_is are_positive

entries_at : IsEntriesLaw → put_all bag [] ≡ bag
entries_at law = (law bag bag_is).1

take_at : IsTakeLaw → IsBag ((one 1, 1) ∷ (one 2, 2) ∷ [])
take_at law = (law bag (one 2) bag_is).0

minus_at : IsMinusLaw → IsBag ((one 1, 1) ∷ (one 2, 2) ∷ [])
minus_at law = (law bag other bag_is).0

plus_at : IsPlusLaw → IsBag ((one 1, 1) ∷ (one 2, 4) ∷ [])
plus_at law = (law bag other bag_is other_is).0

distinct_at : IsDistinctLaw → IsBag ((one 1, 1) ∷ (one 2, 1) ∷ [])
distinct_at law = (law bag bag_is).0
