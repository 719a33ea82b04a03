-- What the tokens up to a byte have in common with all tokens of a text.
use Rattle.std.proofs.Common.{◌≡◌, ◌≤◌, ◌<◌, ℕ, zero, suc, ◌+◌, ◌-◌, nat_lt, Bool, true, false, if◌then◌else◌, List, [], ◌∷◌, ◌++◌, length, Option, Some, None, refl, ap, ◌∙◌, arith}
use Rattle.std.proofs.lemmas.Bool.Decides.{nat_tests}
use Rattle.cql_syntax.specs.declared.token.Lexeme.{Lexeme}
use Rattle.cql_syntax.specs.Lex.{Bytes, Found, scan, lexed, lexed_until, until, cut, token, is_blank, after_lexeme, step}
use Rattle.cql_syntax.proofs.LexLemmas.{until_more}
use Rattle.cql_text.proofs.ReadLaws.{InOrder}

is_before : (a b : ℕ) → a < b → nat_lt a b ≡ true
is_before a b h = grind (arith, nat_tests)

-- ---- a text of at most so many bytes

scan_all : (most : ℕ) (z : Bytes) (left at : ℕ) → at + length z ≤ most → until most (scan left at z) ≡ scan left at z
unfolding scan
scan_all most [] left at h = refl
scan_all most (b ∷ z) (suc left) at h = scan_all most z left (at + 1) (omega (arith, h))
scan_all most (b ∷ z) zero at h = by_blank (λ n. scan_all most z n (at + 1) (omega (arith, h))) (is_blank b)
  where
    before : at < most
    before = omega (arith, h)

    stepped : ((n : ℕ) → until most (scan n (at + 1) z) ≡ scan n (at + 1) z) → (o : Option Found) →
        until most (step at o (λ n. scan (n - 1) (at + 1) z)) ≡ step at o (λ n. scan (n - 1) (at + 1) z)
    stepped ih None = refl
    stepped ih (Some p) = until_more most (record { at = at; token = p.0 }) (scan (p.1 - 1) (at + 1) z) before ∙ ap (after_lexeme (record { at = at; token = p.0 })) (ih (p.1 - 1))

    by_blank : ((n : ℕ) → until most (scan n (at + 1) z) ≡ scan n (at + 1) z) → (c : Bool) →
        until most (if c then scan zero (at + 1) z else step at (token (b ∷ z)) (λ n. scan (n - 1) (at + 1) z)) ≡ (if c then scan zero (at + 1) z else step at (token (b ∷ z)) (λ n. scan (n - 1) (at + 1) z))
    by_blank ih true = ih zero
    by_blank ih false = stepped ih (token (b ∷ z))

pub until_all : (most : ℕ) (text : Bytes) → length text ≤ most → lexed_until most text ≡ lexed text
unfolding lexed lexed_until
until_all most text h = scan_all most text 0 0 (omega (arith, h))

-- ---- a longer text

pub cut_order : (most low : ℕ) (ls : List Lexeme) (fault : Option ℕ) → InOrder low ls fault → InOrder low (cut most ls fault).lexemes (cut most ls fault).fault
cut_order most low [] fault h = h
cut_order most low (l ∷ ls) fault h = at (cut_order most (l.at + 1) ls fault h.1) (nat_lt l.at most)
  where
    at : InOrder (l.at + 1) (cut most ls fault).lexemes (cut most ls fault).fault → (b : Bool) →
        InOrder low (if b then after_lexeme l (cut most ls fault) else record { lexemes = l ∷ []; fault = None }).lexemes (if b then after_lexeme l (cut most ls fault) else record { lexemes = l ∷ []; fault = None }).fault
    at ih true = (h.0, ih)
    at ih false = (h.0, tt)

-- further tokens stand behind those up to the byte
pub cut_rest : (most : ℕ) (ls : List Lexeme) (fault : Option ℕ) → (rest : List Lexeme) × (ls ≡ (cut most ls fault).lexemes ++ rest)
cut_rest most [] fault = ([], refl)
cut_rest most (l ∷ ls) fault = at (cut_rest most ls fault) (nat_lt l.at most)
  where
    at : (rest : List Lexeme) × (ls ≡ (cut most ls fault).lexemes ++ rest) → (b : Bool) →
        (rest : List Lexeme) × (l ∷ ls ≡ (if b then after_lexeme l (cut most ls fault) else record { lexemes = l ∷ []; fault = None }).lexemes ++ rest)
    at ih true = (ih.0, ap (λ us. l ∷ us) ih.1)
    at ih false = (ls, refl)

-- the fault behind them is that of the text
pub cut_fault : (most : ℕ) (ls : List Lexeme) (fault : Option ℕ) (a : ℕ) → (cut most ls fault).fault ≡ Some a → fault ≡ Some a
cut_fault most [] fault a h = h
cut_fault most (l ∷ ls) fault a h = at (cut_fault most ls fault a) (nat_lt l.at most) h
  where
    at : ((cut most ls fault).fault ≡ Some a → fault ≡ Some a) → (b : Bool) → (if b then after_lexeme l (cut most ls fault) else record { lexemes = l ∷ []; fault = None }).fault ≡ Some a → fault ≡ Some a
    at ih true k = ih k
    at ih false k = cc

-- a fault before the byte is behind them
fault_order : (low : ℕ) (ls : List Lexeme) (a : ℕ) → InOrder low ls (Some a) → low ≤ a
fault_order low [] a h = h
fault_order low (l ∷ ls) a h = let k = fault_order (l.at + 1) ls a h.1 in omega (arith, h.0, k)

pub fault_cut : (most low : ℕ) (ls : List Lexeme) (a : ℕ) → InOrder low ls (Some a) → a < most → (cut most ls (Some a)).fault ≡ Some a
fault_cut most low [] a h k = refl
fault_cut most low (l ∷ ls) a h k =
    let o = fault_order (l.at + 1) ls a h.1 in
    let b : nat_lt l.at most ≡ true = is_before l.at most (omega (arith, o, k)) in
    let ih = fault_cut most (l.at + 1) ls a h.1 k in
    rw b ih

-- a token before the byte is among them, and so are those before it
lexeme_order : (low : ℕ) (F : List Lexeme) (l : Lexeme) (B : List Lexeme) (fault : Option ℕ) → InOrder low (F ++ l ∷ B) fault → low ≤ l.at
lexeme_order low [] l B fault h = h.0
lexeme_order low (x ∷ F) l B fault h = let k = lexeme_order (x.at + 1) F l B fault h.1 in omega (arith, h.0, k)

pub cut_at : (most low : ℕ) (F : List Lexeme) (l : Lexeme) (B : List Lexeme) (fault : Option ℕ) → InOrder low (F ++ l ∷ B) fault → l.at < most → (cut most (F ++ l ∷ B) fault).lexemes ≡ F ++ l ∷ (cut most B fault).lexemes
cut_at most low [] l B fault h k = let b : nat_lt l.at most ≡ true = is_before l.at most k in rw b refl
cut_at most low (x ∷ F) l B fault h k =
    let o = lexeme_order (x.at + 1) F l B fault h.1 in
    let b : nat_lt x.at most ≡ true = is_before x.at most (omega (arith, o, k)) in
    let ih = cut_at most (x.at + 1) F l B fault h.1 k in
    rw b (ap (λ us. x ∷ us) ih)

-- the next one too
pub cut_next : (most : ℕ) (u : Lexeme) (B : List Lexeme) (fault : Option ℕ) → (C : List Lexeme) × ((cut most (u ∷ B) fault).lexemes ≡ u ∷ C)
cut_next most u B fault = at (nat_lt u.at most)
  where
    at : (b : Bool) → (C : List Lexeme) × ((if b then after_lexeme u (cut most B fault) else record { lexemes = u ∷ []; fault = None }).lexemes ≡ u ∷ C)
    at true = ((cut most B fault).lexemes, refl)
    at false = ([], refl)
