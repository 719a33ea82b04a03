-- Each law of projections at a row worked by hand: a premise that it doesn't meet is refused here.
use Rattle.std.proofs.Common.{◌≡◌, ℕ, pos, List, [], ◌∷◌, length, rules}
use Rattle.std.specs.List.{AllByRecursion}
use Rattle.cql_value.specs.Element.{Element}
use Rattle.cql_value.specs.declared.value.Value.{Value}
use Rattle.cql_value.specs.declared.value.Value.TheVariants.{Number}
use Rattle.cql_window.specs.declared.window.Window.TheVariants.{Parts}
use Rattle.cql_window.specs.Window.{content}
use Rattle.cql_window.specs.Projection.{projected, whole_projection, AreWithin}
use Rattle.cql_window.specs.Through.{wide_window, PartsWithin, HasProjection}
use Rattle.cql_window.specs.ProjectionLaw.{IsChainLaw, IsWideLaw, IsTwiceLaw, IsNarrowLaw}

abbrev row : ℕ → List Value
row n = Number (pos n) ∷ Number (pos 5) ∷ []

abbrev came : List Element
came = record { at = 1; row = row 1 } ∷ record { at = 2; row = row 2 } ∷ record { at = 3; row = row 1 } ∷ []

within : AreWithin (1 ∷ 0 ∷ []) (length (row 1))
within = search rules

one_within : AreWithin (1 ∷ []) 2
one_within = search rules

parts_within : PartsWithin (Parts (1 ∷ []) 3) 2
parts_within = search rules

first_within : PartsWithin (Parts (0 ∷ []) 3) 1
first_within = search rules

have_columns : AllByRecursion (HasProjection (1 ∷ 0 ∷ [])) came
have_columns = search rules

chain_law_at : IsChainLaw → projected (Number (pos 5) ∷ Number (pos 1) ∷ []) (1 ∷ []) ≡ Number (pos 1) ∷ []
chain_law_at law = law (row 1) (1 ∷ 0 ∷ []) (1 ∷ []) within

wide_law_at : IsWideLaw → wide_window (whole_projection 2) (Parts (1 ∷ []) 3) ≡ Parts (1 ∷ []) 3
wide_law_at law = law (Parts (1 ∷ []) 3) 2 parts_within

twice_law_at : IsTwiceLaw → wide_window (7 ∷ 4 ∷ []) (Parts (1 ∷ []) 3) ≡ Parts (4 ∷ []) 3
twice_law_at law = law (7 ∷ 4 ∷ []) (1 ∷ []) (Parts (0 ∷ []) 3) one_within first_within

-- by the second of the columns that are seen, which is the row's first, the newest of each part are the last two
narrow_law_at : IsNarrowLaw
    → content (Parts (1 ∷ []) 1) 4 [] (record { at = 1; row = Number (pos 5) ∷ Number (pos 1) ∷ [] } ∷ record { at = 2; row = Number (pos 5) ∷ Number (pos 2) ∷ [] } ∷ record { at = 3; row = Number (pos 5) ∷ Number (pos 1) ∷ [] } ∷ [])
    ≡ record { at = 2; row = Number (pos 5) ∷ Number (pos 2) ∷ [] } ∷ record { at = 3; row = Number (pos 5) ∷ Number (pos 1) ∷ [] } ∷ []
narrow_law_at law = (law (1 ∷ 0 ∷ []) (Parts (1 ∷ []) 1) 4 [] came have_columns).content
