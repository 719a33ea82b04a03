-- Each law of windows at elements worked by hand: a premise that these don't meet is refused here.
use Rattle.std.proofs.Common.{◌≡◌, ℕ, pos, List, [], ◌∷◌, filter, refl, rules}
use Rattle.cql_value.specs.Element.{Element}
use Rattle.cql_value.specs.declared.value.Value.TheVariants.{Number}
use Rattle.cql_window.specs.declared.window.Window.TheVariants.{Range, Rows, All as all, Parts}
use Rattle.cql_window.specs.Window.{AreAscending, content, last_of_parts, same_part}
use Rattle.cql_window.specs.Laws.{IsLastMultiple, IsRangeLaw, IsRowsLaw, IsAllLaw, IsPartsLaw, IsHeldLaw, BoundsLaw}
use Rattle.cql_window.specs.Coming.{AreNewestOf, IsComingLaw}

-- an element of one part
abbrev of : ℕ → ℕ → Element
of part t = record { at = t; row = Number (pos part) ∷ [] }

abbrev came : List Element
came = of 1 1 ∷ of 2 4 ∷ of 1 6 ∷ of 2 9 ∷ []

ascend : AreAscending came
ascend = search rules

-- 6 is the last multiple of 3 up to 7
last_multiple : IsLastMultiple 3 7 6
last_multiple = ((2, refl), search rules, search rules)

-- and of three elements up to 7 two are two slides of 1
last_slide : IsLastMultiple 2 3 2
last_slide = ((1, refl), search rules, search rules)

range_law_at : IsRangeLaw → content (Range 2 3) 8 [] came ≡ of 2 4 ∷ of 1 6 ∷ []
range_law_at law = law 2 3 7 6 came ascend last_multiple

rows_law_at : IsRowsLaw → content (Rows 1 2) 8 [] came ≡ of 2 4 ∷ []
rows_law_at law = law 1 2 7 2 came ascend last_slide

all_law_at : IsAllLaw → content all 5 [] came ≡ of 1 1 ∷ of 2 4 ∷ []
all_law_at law = law 4 came ascend

parts_law_at : IsPartsLaw → filter (λ x. same_part (0 ∷ []) (Number (pos 1) ∷ []) x.row) (content (Parts (0 ∷ []) 1) 8 [] came) ≡ of 1 6 ∷ []
parts_law_at law = law (0 ∷ []) 1 7 came ascend (Number (pos 1) ∷ [])

held_law_at : IsHeldLaw → content (Range 2 3) 8 [] came ≡ of 2 4 ∷ of 1 6 ∷ []
held_law_at law = law (Range 2 3) 7 came ascend 6 last_multiple

bounds_law_at : BoundsLaw (Range 2 3) [] came → content (Range 2 3) 8 [] came ≡ of 2 4 ∷ of 1 6 ∷ []
bounds_law_at law = law.content 8 tt ascend

newest : AreNewestOf (0 ∷ []) 1 (of 2 4 ∷ of 1 6 ∷ [])
newest = refl

coming_law_at : IsComingLaw → last_of_parts (0 ∷ []) 1 (of 2 4 ∷ of 1 6 ∷ of 2 9 ∷ []) ≡ of 1 6 ∷ of 2 9 ∷ []
coming_law_at law = law (0 ∷ []) 1 (of 2 4 ∷ of 1 6 ∷ []) (of 2 9 ∷ []) (search rules) newest
