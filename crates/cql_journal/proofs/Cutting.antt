-- Where a byte is first, as a search tells it.
use Rattle.std.proofs.Common.{◌≡◌, ◌≢◌, ℕ, zero, suc, ◌+◌, ◌<◌, List, [], ◌∷◌, ◌++◌, length, take, drop, Some, None, Option, Bor, ap, sym, ◌∙◌, arith, add-one}
use Rattle.std.specs.Prelude.{slice_index, IfSome, IfNone, MatchOption}
use Rattle.std.proofs.lemmas.Bool.{eqb-true, eq-eqb}
use Rattle.memchr.specs.Find.{IsFirstByte, is_byte}
use Rattle.cql_journal.specs.Record.{Lacks}
use Rattle.cql_journal.proofs.Parsing.{cancel}

splits : (b : ℕ) (xs : List ℕ) (k : ℕ) → k < length xs → slice_index xs k ≡ b → xs ≡ take k xs ++ b ∷ drop (suc k) xs
splits b [] k h e = absurd (omega arith)
splits b (x ∷ xs) zero h e = ap (λ y. y ∷ xs) e
splits b (x ∷ xs) (suc k) h e = ap (λ l. x ∷ l) (splits b xs k (omega arith) e)

none_in : (b : ℕ) (xs : List ℕ) → ((j : ℕ) → j < length xs → slice_index xs j ≢ b) → Lacks b xs
none_in b [] h = tt
none_in b (x ∷ xs) h = (h 0 (omega arith), none_in b xs (λ j l. h (suc j) (omega arith)))

none_before : (b : ℕ) (xs : List ℕ) (k : ℕ) → k < length xs → ((j : ℕ) → j < k → slice_index xs j ≢ b) → Lacks b (take k xs)
none_before b [] k l h = absurd (omega arith)
none_before b (x ∷ xs) zero l h = tt
none_before b (x ∷ xs) (suc k) l h = (h 0 (omega arith), none_before b xs k (omega arith) (λ j m. h (suc j) (omega arith)))

pub cut : (b : ℕ) (xs : List ℕ) (k : ℕ) → IsFirstByte (is_byte b) xs (Some k) → xs ≡ take k xs ++ b ∷ drop (k + 1) xs
cut b xs k h = rw add-one (splits b xs k h.0.high (eqb-true _ _ h.1))

pub lacks_front : (b : ℕ) (xs : List ℕ) (k : ℕ) → IsFirstByte (is_byte b) xs (Some k) → Lacks b (take k xs)
lacks_front b xs k h = none_before b xs k h.0.high (λ j l e. h.0.before j (omega arith) l (eq-eqb _ _ e))

pub lacks_all : (b : ℕ) (xs : List ℕ) → IsFirstByte (is_byte b) xs None → Lacks b xs
lacks_all b xs h = none_in b xs (λ j l e. h j (omega arith) l (eq-eqb _ _ e))

-- ---- what is behind a chain and a space

pub behind_some : (line chain spaced one : List ℕ) (r : Option (Bor (List ℕ))) → line ≡ chain ++ spaced → one ≡ 32 ∷ [] → MatchOption r ((rest : List ℕ) → spaced ≢ one ++ rest) (λ x. spaced ≡ one ++ x.now) → IfSome r (λ rest. line ≡ chain ++ 32 ∷ rest.now)
behind_some line chain spaced one None is o m = tt
behind_some line chain spaced one (Some x) is o m = is ∙ ap (λ t. chain ++ t) (m ∙ ap (λ t. t ++ x.now) o)

pub behind_none : (line chain spaced one : List ℕ) (r : Option (Bor (List ℕ))) → line ≡ chain ++ spaced → one ≡ 32 ∷ [] → MatchOption r ((rest : List ℕ) → spaced ≢ one ++ rest) (λ x. spaced ≡ one ++ x.now) → IfNone r ((rest : List ℕ) → line ≢ chain ++ 32 ∷ rest)
behind_none line chain spaced one None is o m = λ rest that. m rest (cancel chain spaced (32 ∷ rest) (sym is ∙ that) ∙ ap (λ t. t ++ rest) (sym o))
behind_none line chain spaced one (Some x) is o m = tt
