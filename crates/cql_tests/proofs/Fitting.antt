-- Rows of one number, in order of their times, fit each window that parts by that number at most, and are seen as they are.
use Rattle.std.proofs.Common.{◌≡◌, ℕ, ◌≤◌, ◌<◌, ◌^◌, true, List, [], ◌∷◌, ◌++◌, length, take, drop, nat_le, sym, ap, subst, ◌∙◌, arith}
use Rattle.std.specs.List.{AllByRecursion, Contains, list_all}
use Rattle.std.proofs.lemmas.Bool.{leb-true}
use Rattle.std.proofs.lemmas.List.{length-map, take-append-drop}
use Rattle.std.proofs.lemmas.List.Elements.{All-contains, All-from_recursion}
use Rattle.std.proofs.lemmas.Bool.{and_parts}
use Rattle.cql_value.specs.declared.value.Value.{Value}
use Rattle.cql_value.specs.Element.{Element}
use Rattle.cql_value.specs.Schema.{type_of, HasTypes}
use Rattle.cql_window.specs.declared.window.Window.{Window}
use Rattle.cql_window.specs.declared.window.Window.TheVariants.{Range, Rows, All as all, Parts}
use Rattle.cql_window.specs.Pin.{HasColumns, AreRows}
use Rattle.cql_window.specs.Projection.{projected}
use Rattle.cql_window.specs.Through.{narrowed_all}
use Rattle.cql_plan.specs.Ports.{PartsAmong}
use Rattle.cql_eval.specs.Pin.{AreOf}
use Rattle.cql_tests.specs.Pins.{one_number, one_column, AreFit}

all_weaker : {A : Type 0} (P Q : A → Type 0) → ((x : A) → P x → Q x) → (xs : List A) → AllByRecursion P xs → AllByRecursion Q xs
all_weaker P Q weaker [] each = tt
all_weaker P Q weaker (x ∷ xs) each = (weaker x each.0, all_weaker P Q weaker xs each.1)

-- ---- rows

none_below : (at : ℕ) (xs : List Element) → list_all (λ x. nat_le at x.at) xs ≡ true → AllByRecursion (λ x. at ≤ x.at) xs
none_below at [] h = tt
none_below at (x ∷ xs) h =
    let here = and_parts (nat_le at x.at) (list_all (λ (y : Element). nat_le at y.at) xs) h in
    (leb-true at x.at here.0, none_below at xs here.1)

-- one row before others
pub fit_cons : (x : Element) (xs rows : List Element) (at : ℕ) (row : List Value) → rows ≡ x ∷ xs → at ≡ x.at → row ≡ x.row
    → at < 2 ^ 62 → list_all (λ y. nat_le at y.at) xs ≡ true → HasTypes one_number row → AreFit xs → AreFit rows
fit_cons x xs rows at row split time values instant first typed fit =
    let later : list_all (λ (y : Element). nat_le x.at y.at) xs ≡ true = ap (λ t. list_all (λ (y : Element). nat_le t y.at) xs) (sym time) ∙ first in
    subst AreFit (sym split) (record {
      ascending = (none_below x.at xs later, fit.ascending);
      instants = (omega (arith, time, instant), fit.instants);
      typed = (subst (HasTypes one_number) values typed, fit.typed);
    })

-- rows that are parted by a column are all of them still
pub joined : (settled : ℕ) (rows : List Element) {content unseen : List Element} → content ≡ take settled rows → unseen ≡ drop settled rows → content ++ unseen ≡ rows
joined settled rows first later = (λ i. first i ++ later i) ∙ take-append-drop settled rows

-- ---- windows

below : (many column : ℕ) → many ≡ 1 → Contains one_column column → column < many
below many column one among = All-contains (λ p. p < many) one_column column (All-from_recursion (λ p. p < many) one_column (omega (arith, one), tt)) among

has_columns : (w : Window) (x : Element) → PartsAmong one_column w → HasTypes one_number x.row → HasColumns w x
has_columns (Range len slide) x among typed = tt
has_columns (Rows count slide) x among typed = tt
has_columns all x among typed = tt
has_columns (Parts columns count) x among typed =
    let same : length x.row ≡ 1 = sym (length-map x.row type_of) ∙ ap length typed in
    all_weaker (Contains one_column) (λ (i : ℕ). i < length x.row) (λ i c. below (length x.row) i same c) columns among

pub are_rows : (w : Window) (xs : List Element) → PartsAmong one_column w → AreFit xs → AreRows w xs
are_rows w xs among fit = (fit.ascending, fit.instants, all_weaker (λ (x : Element). HasTypes one_number x.row) (HasColumns w) (λ x h. has_columns w x among h) xs fit.typed)

-- ---- what is seen

seen : (row : List Value) → HasTypes one_number row → HasTypes one_number (projected row one_column)
seen [] typed = absurd (omega (arith, ap length typed))
seen (v ∷ []) typed = typed
seen (v ∷ w ∷ more) typed = absurd (omega (arith, ap length typed))

pub all_seen : (xs : List Element) → AreOf one_number xs → AreOf one_number (narrowed_all one_column xs)
all_seen [] typed = tt
all_seen (x ∷ xs) typed = (seen x.row typed.0, all_seen xs typed.1)
