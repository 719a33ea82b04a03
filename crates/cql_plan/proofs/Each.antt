-- Turns of loops that check each of a list.
use Rattle.std.proofs.Common.{◌≡◌, ◌<◌, ◌≤◌, ℕ, suc, List, [], ◌∷◌, ◌++◌, length, drop, get_or, refl, sym, ap, ◌∙◌, append_assoc}
use Rattle.std.specs.Prelude.{Ok, Err}
use Rattle.std.proofs.Math.Seq.{drop-cons}
use Rattle.std.proofs.lemmas.List.{drop_all, append-nil}
use Rattle.cql_plan.specs.declared.error.PlanFault.{PlanFault}
use Rattle.cql_plan.specs.Outcome.{Outcome, ◌>>=◌, each}

-- what was checked so far, before the outcome of the rest
abbrev pub after : {A : Type 0} → List A → Outcome (List A) → Outcome (List A)
after checked rest = rest >>= (λ ys. Ok (checked ++ ys))

opened : {A B : Type 0} (check : A → Outcome B) (xs : List A) (i : ℕ) (x : A) → i < length xs → x ≡ get_or xs i x
    → each check (drop i xs) ≡ (check x >>= (λ y. each check (drop (suc i) xs) >>= (λ ys. Ok (y ∷ ys))))
unfolding each
opened check xs i x within is = ap (each check) (drop-cons xs i x within) ∙ ap (λ y. each check (y ∷ drop (suc i) xs)) (sym is)

moved : {B : Type 0} (front : List B) (y : B) (rest : Outcome (List B)) → after front (rest >>= (λ ys. Ok (y ∷ ys))) ≡ after (front ++ y ∷ []) rest
moved front y (Ok ys) = ap (λ l. Ok l) (sym (append_assoc front (y ∷ []) ys))
moved front y (Err e) = refl

-- one more passes
pub goes_on : {A B : Type 0} (check : A → Outcome B) (xs : List A) (i : ℕ) (x : A) (front : List B) (y : B) → i < length xs → x ≡ get_or xs i x
    → check x ≡ Ok y → each check xs ≡ after front (each check (drop i xs)) → each check xs ≡ after (front ++ y ∷ []) (each check (drop (suc i) xs))
goes_on {A} {B} check xs i x front y within is passes so =
    so ∙ ap (after front) (opened check xs i x within is ∙ ap (λ o. o >>= (λ (z : B). each check (drop (suc i) xs) >>= (λ ys. Ok (z ∷ ys)))) passes)
    ∙ moved front y (each check (drop (suc i) xs))

-- one has a fault
pub stops : {A B : Type 0} (check : A → Outcome B) (xs : List A) (i : ℕ) (x : A) (front : List B) (e : PlanFault) → i < length xs → x ≡ get_or xs i x
    → check x ≡ Err e → each check xs ≡ after front (each check (drop i xs)) → each check xs ≡ Err e
stops {A} {B} check xs i x front e within is fault so =
    so ∙ ap (after front) (opened check xs i x within is ∙ ap (λ o. o >>= (λ (z : B). each check (drop (suc i) xs) >>= (λ ys. Ok (z ∷ ys)))) fault)

-- all have passed
pub ends : {A B : Type 0} (check : A → Outcome B) (xs : List A) (i : ℕ) (front : List B) → length xs ≤ i
    → each check xs ≡ after front (each check (drop i xs)) → each check xs ≡ Ok front
unfolding each
ends check xs i front past so = so ∙ ap (λ l. after front (each check l)) (drop_all i xs past) ∙ ap (λ l. Ok l) (append-nil front)

-- what comes behind a check that passed
pub passes : {A B : Type 0} (outcome : Outcome A) (next : A → Outcome B) (b : B) → (outcome >>= next) ≡ Ok b → (a : A) × (outcome ≡ Ok a) × (next a ≡ Ok b)
passes (Ok a) next b so = (a, refl, so)
passes (Err e) next b so = absurd (cc)
