-- A list with one more or one fewer, where it stands as two lists with one between them.
use Rattle.std.proofs.Common.{◌≡◌, ℕ, zero, suc, ◌+◌, List, [], ◌∷◌, ◌++◌, length, Some, None, Bool, true, false, cond, refl, sym, ap, ◌∙◌, arith}
use Rattle.std.specs.Prelude.{slice_get}
use Rattle.std.specs.List.{insert, remove}
use Rattle.std.specs.List.{prefix_len, AllByRecursion}
use Rattle.std.proofs.lemmas.List.{append-nil}
use Rattle.cql_chunks.specs.declared.seq.Numbered.{Numbered}
use Rattle.cql_chunks.specs.Seq.{IsDown}

pub insert_right : {A : Type 0} (l r : List A) (x e : A) (index p : ℕ) → index ≡ length l + 1 + p → insert (l ++ x ∷ r) index e ≡ l ++ x ∷ insert r p e
insert_right [] r x e zero p is = absurd (omega (arith, is))
insert_right [] r x e (suc q) p is = let same : q ≡ p = omega (arith, is) in ap (λ k. x ∷ insert r k e) same
insert_right (y ∷ l) r x e zero p is = absurd (omega (arith, is))
insert_right (y ∷ l) r x e (suc q) p is = ap (λ t. y ∷ t) (insert_right l r x e q p (omega (arith, is)))

pub remove_right : {A : Type 0} (l r : List A) (x : A) (index p : ℕ) → index ≡ length l + 1 + p → remove (l ++ x ∷ r) index ≡ l ++ x ∷ remove r p
remove_right [] r x zero p is = absurd (omega (arith, is))
remove_right [] r x (suc q) p is = let same : q ≡ p = omega (arith, is) in ap (λ k. x ∷ remove r k) same
remove_right (y ∷ l) r x zero p is = absurd (omega (arith, is))
remove_right (y ∷ l) r x (suc q) p is = ap (λ t. y ∷ t) (remove_right l r x q p (omega (arith, is)))

pub remove_here : {A : Type 0} (l r : List A) (x : A) (index : ℕ) → index ≡ length l → remove (l ++ x ∷ r) index ≡ l ++ r
remove_here [] r x zero is = refl
remove_here [] r x (suc q) is = absurd (omega (arith, is))
remove_here (y ∷ l) r x zero is = absurd (omega (arith, is))
remove_here (y ∷ l) r x (suc q) is = ap (λ t. y ∷ t) (remove_here l r x q (omega (arith, is)))

-- the first goes in between
pub first_between : {A : Type 0} (l r : List A) (x : A) → Some x ≡ slice_get r 0 → l ++ x ∷ remove r 0 ≡ l ++ r
first_between l [] x is = absurd cc
first_between l (y ∷ r) x is = let same : x ≡ y = cc is in ap (λ z. l ++ z ∷ r) same

pub none_between : {A : Type 0} (l r : List A) → None ≡ slice_get r 0 → l ++ r ≡ l
none_between l [] is = append-nil l
none_between l (y ∷ r) is = absurd cc

-- ---- where one has not P, no later one has

none_front : (p : Numbered → Bool) (l r : List Numbered) → AllByRecursion (λ y. p y ≡ false) (l ++ r) → AllByRecursion (λ y. p y ≡ false) l
none_front p [] r h = tt
none_front p (y ∷ l) r h = (h.0, none_front p l r h.1)

none_at : (p : Numbered → Bool) (l r : List Numbered) (x : Numbered) → AllByRecursion (λ y. p y ≡ false) (l ++ x ∷ r) → p x ≡ false
none_at p [] r x h = h.0
none_at p (y ∷ l) r x h = none_at p l r x h.1

pub down_left : (p : Numbered → Bool) (l r : List Numbered) → IsDown p (l ++ r) → IsDown p l
down_left p [] r h = tt
down_left p (y ∷ l) r h = (λ fails. none_front p l r (h.0 fails), down_left p l r h.1)

pub down_right : (p : Numbered → Bool) (l r : List Numbered) (x : Numbered) → IsDown p (l ++ x ∷ r) → IsDown p r
down_right p [] r x h = h.1
down_right p (y ∷ l) r x h = down_right p l r x h.1

pub down_false : (p : Numbered → Bool) (l r : List Numbered) (x : Numbered) → p x ≡ false → prefix_len p (l ++ x ∷ r) ≡ prefix_len p l
down_false p [] r x fails = ap (λ b. cond b (1 + prefix_len p r) 0) fails
down_false p (y ∷ l) r x fails = ap (λ n. cond (p y) (1 + n) 0) (down_false p l r x fails)

pub down_true : (p : Numbered → Bool) (l r : List Numbered) (x : Numbered) → IsDown p (l ++ x ∷ r) → p x ≡ true → prefix_len p (l ++ x ∷ r) ≡ length l + 1 + prefix_len p r
down_true p [] r x h passes = ap (λ b. cond b (1 + prefix_len p r) 0) passes
down_true p (y ∷ l) r x h passes = by_test (down_true p l r x h.1 passes) (p y) refl
  where
    by_test : prefix_len p (l ++ x ∷ r) ≡ length l + 1 + prefix_len p r → (b : Bool) → p y ≡ b → prefix_len p (y ∷ (l ++ x ∷ r)) ≡ length (y ∷ l) + 1 + prefix_len p r
    by_test rest true is = ap (λ b. cond b (1 + prefix_len p (l ++ x ∷ r)) 0) is ∙ omega (arith, rest)
    by_test rest false is = let fails : p x ≡ false = none_at p l r x (h.0 is) in absurd (let both : true ≡ false = sym passes ∙ fails in cc)
