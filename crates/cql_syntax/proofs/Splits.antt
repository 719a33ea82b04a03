-- What `split_once` and `strip_prefix` give at a quote.
use Rattle.std.proofs.Common.{◌≡◌, ◌≢◌, ◌+◌, List, ℕ, ◌∷◌, ◌++◌, length, drop, Option, Some, None, subst, lit<, Bor}
use Rattle.std.specs.Option.{MatchOption}
use Rattle.std.proofs.lemmas.Str.Pattern.{split_parts, IsSplitOnceResult, strip_prefix_char}
use Rattle.std.specs.Str.Pattern.{FindsCharPrefix}
use Rattle.cql_syntax.proofs.LexLemmas.{NoQuote}

pub split_some : (rest : List ℕ) (r : Option (Bor (List ℕ) × Bor (List ℕ))) (p : Bor (List ℕ) × Bor (List ℕ)) → IsSplitOnceResult 39 rest r → r ≡ Some p → (rest ≡ p.0.now ++ 39 ∷ p.1.now) × NoQuote p.0.now
split_some rest r p h e = subst (λ o. MatchOption o (NoQuote rest) (λ x. (rest ≡ x.0.now ++ (39 ∷ x.1.now)) × NoQuote x.0.now)) e (split_parts 39 rest r h (lit< tt))

pub split_none : (rest : List ℕ) (r : Option (Bor (List ℕ) × Bor (List ℕ))) → IsSplitOnceResult 39 rest r → r ≡ None → NoQuote rest
split_none rest r h e = subst (λ o. MatchOption o (NoQuote rest) (λ x. (rest ≡ x.0.now ++ (39 ∷ x.1.now)) × NoQuote x.0.now)) e (split_parts 39 rest r h (lit< tt))

abbrev pub IsStripped : List ℕ → Option (Bor (List ℕ)) → Type 0
IsStripped bs r = MatchOption r (FindsCharPrefix 39 bs None) (λ x. (n : ℕ) × FindsCharPrefix 39 bs (Some n) × (x.now ≡ drop n bs) × (length x.now + n ≡ length bs))

pub stripped : (bs : List ℕ) (r : Option (Bor (List ℕ))) (p : Bor (List ℕ)) → IsStripped bs r → r ≡ Some p → bs ≡ 39 ∷ p.now
stripped bs r p h e = subst (λ o. MatchOption o ((rest : List ℕ) → bs ≢ 39 ∷ rest) (λ x. bs ≡ 39 ∷ x.now)) e (strip_prefix_char 39 bs r h (lit< tt))

pub unstripped : (bs : List ℕ) (r : Option (Bor (List ℕ))) → IsStripped bs r → r ≡ None → (rest : List ℕ) → bs ≢ 39 ∷ rest
unstripped bs r h e = subst (λ o. MatchOption o ((rest : List ℕ) → bs ≢ 39 ∷ rest) (λ x. bs ≡ 39 ∷ x.now)) e (strip_prefix_char 39 bs r h (lit< tt))
