-- How many of the elements from an index on came, where some of them are known.
use Rattle.std.proofs.Common.{◌≡◌, ℕ, ◌+◌, ◌-◌, ◌<◌, ◌≤◌, List, [], ◌∷◌, ◌++◌, length, take, drop, Bool, true, false, nat_lt, refl, sym, ap, ◌∙◌, arith, length-drop, length-take}
use Rattle.std.proofs.Math.Seq.{drop-append-add}
use Rattle.std.proofs.lemmas.List.{take-append-drop, drop-drop, drop-take}
use Rattle.std.specs.List.{prefix_len}
use Rattle.cql_value.specs.Element.{Element}
use Rattle.cql_window.specs.Bounds.{IsFront}
use Rattle.cql_window.specs.Window.{count_before}
use Rattle.cql_window.proofs.Ends.{before_rest, before_le}

-- the front of two lists one after the other
front_first : (p : Element → Bool) (xs ys : List Element) → prefix_len p xs < length xs → prefix_len p (xs ++ ys) ≡ prefix_len p xs
front_first p [] ys lt = absurd (omega arith)
front_first p (x ∷ xs) ys lt = by_test (λ lt'. front_first p xs ys lt') (p x) refl
  where
    by_test : (prefix_len p xs < length xs → prefix_len p (xs ++ ys) ≡ prefix_len p xs) → (b : Bool) → p x ≡ b → prefix_len p (x ∷ (xs ++ ys)) ≡ prefix_len p (x ∷ xs)
    by_test rest true is =
        let lt' : prefix_len p xs < length xs = grind (arith, is, lt) in
        grind (arith, is, rest lt')
    by_test rest false is = grind (arith, is)

front_both : (p : Element → Bool) (xs ys : List Element) → length xs ≤ prefix_len p xs → prefix_len p (xs ++ ys) ≡ prefix_len p xs + prefix_len p ys
front_both p [] ys le = omega arith
front_both p (x ∷ xs) ys le = by_test (λ le'. front_both p xs ys le') (p x) refl
  where
    by_test : (length xs ≤ prefix_len p xs → prefix_len p (xs ++ ys) ≡ prefix_len p xs + prefix_len p ys) → (b : Bool) → p x ≡ b → prefix_len p (x ∷ (xs ++ ys)) ≡ prefix_len p (x ∷ xs) + prefix_len p ys
    by_test rest true is =
        let le' : length xs ≤ prefix_len p xs = grind (arith, is, le) in
        grind (arith, is, rest le')
    by_test rest false is = absurd (grind (arith, is, le))

-- those that are known and the others
split_front : (i : ℕ) (front xs : List Element) → IsFront i front xs → front ++ drop (i + length front) xs ≡ drop i xs
split_front i front xs is =
    ap (λ l. l ++ drop (i + length front) xs) is
    ∙ ap (λ l. take (length front) (drop i xs) ++ l) (sym (drop-drop (length front) i xs))
    ∙ take-append-drop (length front) (drop i xs)

pub front_within : (i : ℕ) (front xs : List Element) → IsFront i front xs → i ≤ length xs → i + length front ≤ length xs
front_within i front xs is le =
    omega (arith, ap length is, length-take (length front) (drop i xs), length-drop i xs, le)

-- no more came than those before the last that is known
pub came_some : (e i k : ℕ) (front xs : List Element) → IsFront i front xs → k ≡ count_before e front → k < length front → k ≡ count_before e (drop i xs)
came_some e i k front xs is k_is lt =
    k_is
    ∙ sym (front_first (λ x. nat_lt x.at e) front (drop (i + length front) xs) (omega (arith, k_is, lt)))
    ∙ ap (count_before e) (split_front i front xs is)

-- all that are known came
pub came_all : (e i k m : ℕ) (front xs : List Element) → IsFront i front xs → k ≡ count_before e front → length front ≤ k → m ≡ count_before e (drop (i + k) xs) → k + m ≡ count_before e (drop i xs)
came_all e i k m front xs is k_is le m_is =
    let size : k ≡ length front = omega (arith, k_is, le, before_le e front) in
    let both : count_before e (front ++ drop (i + length front) xs) ≡ count_before e front + count_before e (drop (i + length front) xs) = front_both (λ x. nat_lt x.at e) front (drop (i + length front) xs) (omega (arith, k_is, le)) in
    let more : m ≡ count_before e (drop (i + length front) xs) = m_is ∙ ap (λ n. count_before e (drop (i + n) xs)) size in
    (λ t. k_is t + more t) ∙ sym both ∙ ap (count_before e) (split_front i front xs is)

-- what is known behind those that came
pub front_rest : (i k : ℕ) (front xs : List Element) → IsFront i front xs → k ≤ length front → IsFront (i + k) (drop k front) xs
front_rest i k front xs is le =
    let sum : length front ≡ k + (length front - k) = omega (arith, le) in
    ap (drop k) is
    ∙ ap (λ m. drop k (take m (drop i xs))) sum
    ∙ drop-take k (length front - k) (drop i xs)
    ∙ ap (take (length front - k)) (drop-drop k i xs)
    ∙ ap (λ m. take m (drop (i + k) xs)) (sym (length-drop k front))

-- how many of the second list came, of the index behind them in both
pub seen_is : (e least settled index : ℕ) (xs ys : List Element) → settled ≡ length xs → index ≡ settled + least + count_before e (drop (settled + least) (xs ++ ys)) → least ≤ count_before e ys → index - settled ≡ count_before e ys
seen_is e least settled index xs ys is index_is le =
    let rest : count_before e (drop (settled + least) (xs ++ ys)) ≡ count_before e (drop least ys) = ap (λ n. count_before e (drop (n + least) (xs ++ ys))) is ∙ ap (count_before e) (drop-append-add xs ys least) in
    omega (arith, index_is, rest, before_rest e least ys le)
