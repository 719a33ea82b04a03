-- What holds of columns holds of each of them once.
use Rattle.std.proofs.Common.{◌≡◌, ℕ, List, [], ◌∷◌, ◌++◌, Bool, true, false, ◌||◌, if◌then◌else◌, ◌⊎◌, inl, inr, nat_eq, refl, sym, ap, ◌∙◌, subst, arith}
use Rattle.std.specs.List.{AllByRecursion, Contains, list_any}
use Rattle.std.proofs.lemmas.Bool.Decides.{nat_tests}
use Rattle.std.proofs.lemmas.List.Elements.{Contains-append_left, Contains-append_right}
use Rattle.cql_window.specs.Once.{once, once_from}
use Rattle.cql_plan.specs.declared.node.Item.{Item}
use Rattle.cql_plan.specs.declared.node.Item.TheVariants as shown
use Rattle.cql_plan.specs.Fit.{IsGroupedItem}
use Rattle.cql_plan.proofs.FitExpressions.{here, there, nothing, cases}

-- whether it is one of them
abbrev has : ℕ → List ℕ → Bool
has i js = list_any (λ j. nat_eq j i) js

all_of : (P : ℕ → Type 0) (kept : List ℕ) (i : ℕ) → AllByRecursion P kept → P i → AllByRecursion P (kept ++ i ∷ [])
all_of P [] i held here = (here, tt)
all_of P (j ∷ js) i held here = (held.0, all_of P js i held.1 here)

-- what holds of all columns holds of each once
pub all_once : (P : ℕ → Type 0) (kept is : List ℕ) → AllByRecursion P kept → AllByRecursion P is → AllByRecursion P (once_from kept is)
all_once P kept [] held rest = held
all_once P kept (i ∷ is) held rest = by (λ c. all_once P c is) (has i kept)
  where
    by : ((c : List ℕ) → AllByRecursion P c → AllByRecursion P is → AllByRecursion P (once_from c is)) → (t : Bool) → AllByRecursion P (if t then once_from kept is else once_from (kept ++ i ∷ []) is)
    by more true = more kept held rest.1
    by more false = more (kept ++ i ∷ []) (all_of P kept i held rest.0) rest.1

-- ---- which columns there are

there_if_had : (i : ℕ) (js : List ℕ) → has i js ≡ true → Contains js i
there_if_had i [] h = absurd cc
there_if_had i (j ∷ js) h = by (there_if_had i js) (nat_eq j i) refl
  where
    by : (has i js ≡ true → Contains js i) → (t : Bool) → nat_eq j i ≡ t → Contains (j ∷ js) i
    by more true k = let is : j ≡ i = grind (arith, nat_tests) in subst (Contains (j ∷ js)) is (here j js)
    by more false k = there j i js (more (ap (λ t. t || has i js) (sym k) ∙ h))

still_there : (kept is : List ℕ) (x : ℕ) → Contains kept x → Contains (once_from kept is) x
still_there kept [] x c = c
still_there kept (i ∷ is) x c = by (λ k. still_there k is x) (has i kept)
  where
    by : ((k : List ℕ) → Contains k x → Contains (once_from k is) x) → (t : Bool) → Contains (if t then once_from kept is else once_from (kept ++ i ∷ []) is) x
    by more true = more kept c
    by more false = more (kept ++ i ∷ []) (Contains-append_left kept (i ∷ []) x c)

comes_there : (kept is : List ℕ) (x : ℕ) → Contains is x → Contains (once_from kept is) x
comes_there kept [] x c = absurd (nothing x c)
comes_there kept (i ∷ is) x c = by (λ k. comes_there k is x) (cases i x is c) (has i kept) refl
  where
    by : ((k : List ℕ) → Contains is x → Contains (once_from k is) x) → (i ≡ x) ⊎ Contains is x → (t : Bool) → has i kept ≡ t → Contains (if t then once_from kept is else once_from (kept ++ i ∷ []) is) x
    by more (inl e) true h = still_there kept is x (subst (Contains kept) e (there_if_had i kept h))
    by more (inl e) false h = still_there (kept ++ i ∷ []) is x (subst (Contains (kept ++ i ∷ [])) e (Contains-append_right kept (i ∷ []) i (here i [])))
    by more (inr later) true h = more kept later
    by more (inr later) false h = more (kept ++ i ∷ []) later

grouped_once : (groups : List ℕ) (item : Item) → IsGroupedItem groups item → IsGroupedItem (once groups) item
grouped_once groups (shown.Value x) g = (g.0, g.1, comes_there [] groups g.0 g.2)
grouped_once groups shown.Count g = g
grouped_once groups (shown.Sum at) g = g
grouped_once groups (shown.Min at) g = g
grouped_once groups (shown.Max at) g = g

-- items that are grouped by columns are by each of them once
pub all_grouped_once : (groups : List ℕ) (items : List Item) → AllByRecursion (IsGroupedItem groups) items → AllByRecursion (IsGroupedItem (once groups)) items
all_grouped_once groups [] all = tt
all_grouped_once groups (item ∷ items) all = (grouped_once groups item all.0, all_grouped_once groups items all.1)
