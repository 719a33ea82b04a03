-- Rows of a window stay so where some are taken away, and where one more comes.
use Rattle.std.proofs.Common.{ℕ, zero, suc, ◌≤◌, ◌<◌, ◌^◌, true, false, List, [], ◌∷◌, ◌++◌, take, drop, cond, nat_lt}
use Rattle.std.specs.List.{AllByRecursion}
use Rattle.cql_value.specs.Element.{Element}
use Rattle.cql_window.specs.declared.window.Window.{Window}
use Rattle.cql_window.specs.Pin.{HasColumns, AreRows}
use Rattle.cql_window.specs.Window.{AreAscending, last_of_parts, count_part}
use Rattle.cql_window.proofs.Exchanges.{each_take as all_take, each_drop as all_drop}

-- ---- all of a list

pub all_more : (P : Element → Type 0) (xs : List Element) (x : Element) → AllByRecursion P xs → P x → AllByRecursion P (xs ++ x ∷ [])
all_more P [] x h p = (p, tt)
all_more P (y ∷ ys) x h p = (h.0, all_more P ys x h.1 p)

all_behind : (P : Element → Type 0) (xs ys : List Element) → AllByRecursion P (xs ++ ys) → AllByRecursion P ys
all_behind P [] ys h = h
all_behind P (x ∷ xs) ys h = all_behind P xs ys h.1

all_front : (P : Element → Type 0) (xs ys : List Element) → AllByRecursion P (xs ++ ys) → AllByRecursion P xs
all_front P [] ys h = tt
all_front P (x ∷ xs) ys h = (h.0, all_front P xs ys h.1)

pub all_newest : (P : Element → Type 0) (columns : List ℕ) (n : ℕ) (xs ys : List Element) → AllByRecursion P (xs ++ ys) → AllByRecursion P (last_of_parts columns n xs ++ ys)
all_newest P columns n [] ys h = h
all_newest P columns n (x ∷ xs) ys h =
    let rest : AllByRecursion P (last_of_parts columns n xs ++ ys) = all_newest P columns n xs ys h.1 in
    elim (nat_lt (count_part columns x.row xs) n) as (λ b. AllByRecursion P (cond b (x ∷ last_of_parts columns n xs) (last_of_parts columns n xs) ++ ys)) [ true ↦ (h.0, rest) | false ↦ rest ]

-- ---- in order

asc_drop : (n : ℕ) (xs : List Element) → AreAscending xs → AreAscending (drop n xs)
asc_drop zero xs asc = asc
asc_drop (suc n) [] asc = tt
asc_drop (suc n) (x ∷ xs) asc = asc_drop n xs asc.1

pub asc_take : (n : ℕ) (xs : List Element) → AreAscending xs → AreAscending (take n xs)
asc_take zero xs asc = tt
asc_take (suc n) [] asc = tt
asc_take (suc n) (x ∷ xs) asc = (all_take (λ (y : Element). x.at ≤ y.at) n xs asc.0, asc_take n xs asc.1)

asc_more : (xs : List Element) (x : Element) → AreAscending xs → AllByRecursion (λ y. y.at ≤ x.at) xs → AreAscending (xs ++ x ∷ [])
asc_more [] x asc below = (tt, tt)
asc_more (y ∷ ys) x asc below = (all_more (λ (z : Element). y.at ≤ z.at) ys x asc.0 below.0, asc_more ys x asc.1 below.1)

asc_behind : (xs ys : List Element) → AreAscending (xs ++ ys) → AreAscending ys
asc_behind [] ys asc = asc
asc_behind (x ∷ xs) ys asc = asc_behind xs ys asc.1

asc_front : (xs ys : List Element) → AreAscending (xs ++ ys) → AreAscending xs
asc_front [] ys asc = tt
asc_front (x ∷ xs) ys asc = (all_front (λ (y : Element). x.at ≤ y.at) xs ys asc.0, asc_front xs ys asc.1)

asc_newest : (columns : List ℕ) (n : ℕ) (xs ys : List Element) → AreAscending (xs ++ ys) → AreAscending (last_of_parts columns n xs ++ ys)
asc_newest columns n [] ys asc = asc
asc_newest columns n (x ∷ xs) ys asc =
    let rest : AreAscending (last_of_parts columns n xs ++ ys) = asc_newest columns n xs ys asc.1 in
    let above : AllByRecursion (λ (y : Element). x.at ≤ y.at) (last_of_parts columns n xs ++ ys) = all_newest (λ (y : Element). x.at ≤ y.at) columns n xs ys asc.0 in
    elim (nat_lt (count_part columns x.row xs) n) as (λ b. AreAscending (cond b (x ∷ last_of_parts columns n xs) (last_of_parts columns n xs) ++ ys)) [ true ↦ (above, rest) | false ↦ rest ]

-- ---- rows of a window

pub fit_drop : (w : Window) (n : ℕ) (xs : List Element) → AreRows w xs → AreRows w (drop n xs)
fit_drop w n xs fit = (asc_drop n xs fit.0, all_drop (λ (x : Element). x.at < 2 ^ 62) n xs fit.1, all_drop (HasColumns w) n xs fit.2)

pub fit_more : (w : Window) (xs : List Element) (x : Element) → AreRows w xs → AllByRecursion (λ y. y.at ≤ x.at) xs → x.at < 2 ^ 62 → HasColumns w x → AreRows w (xs ++ x ∷ [])
fit_more w xs x fit below instant columns = (asc_more xs x fit.0 below, all_more (λ (y : Element). y.at < 2 ^ 62) xs x fit.1 instant, all_more (HasColumns w) xs x fit.2 columns)

pub fit_behind : (w : Window) (xs ys : List Element) → AreRows w (xs ++ ys) → AreRows w ys
fit_behind w xs ys fit = (asc_behind xs ys fit.0, all_behind (λ (x : Element). x.at < 2 ^ 62) xs ys fit.1, all_behind (HasColumns w) xs ys fit.2)

pub fit_front : (w : Window) (xs ys : List Element) → AreRows w (xs ++ ys) → AreRows w xs
fit_front w xs ys fit = (asc_front xs ys fit.0, all_front (λ (x : Element). x.at < 2 ^ 62) xs ys fit.1, all_front (HasColumns w) xs ys fit.2)

pub fit_newest : (w : Window) (columns : List ℕ) (n : ℕ) (xs ys : List Element) → AreRows w (xs ++ ys) → AreRows w (last_of_parts columns n xs ++ ys)
fit_newest w columns n xs ys fit = (asc_newest columns n xs ys fit.0, all_newest (λ (x : Element). x.at < 2 ^ 62) columns n xs ys fit.1, all_newest (HasColumns w) columns n xs ys fit.2)
