-- The reader of a text decides what is a query, and refuses at the right byte.
use Rattle.std.proofs.Common.{◌≡◌, ◌≤◌, ℕ, zero, suc, ◌+◌, ◌-◌, Bool, true, false, ◌==◌, if◌then◌else◌, List, [], ◌∷◌, ◌++◌, take, length, slice_get, slice_set, Option, Some, None, Ok, Err, refl, sym, ap, ◌∙◌, subst, append_assoc, append-nil, arith}
use Rattle.std.proofs.lemmas.Bool.Decides.{nat_tests}
use Rattle.std.proofs.lemmas.List.{append_cancel_right}
use Rattle.cql_syntax.specs.declared.token.Token.{Token}
use Rattle.cql_syntax.specs.declared.token.Lexeme.{Lexeme}
use Rattle.cql_syntax.specs.declared.syntax.Query.{Query}
use Rattle.cql_syntax.specs.Tokens.{Tokens, tokens_of}
use Rattle.cql_syntax.specs.Lex.{Bytes, scan, token, is_blank, step, Found}
use Rattle.cql_text.specs.Grammar.{Spells, CanBegin}
use Rattle.cql_syntax.specs.Cursor.{Outcome}
use Rattle.cql_text.specs.Readers.{query}
use Rattle.cql_text.specs.Read.{left_of, goes_on}
use Rattle.cql_text.proofs.Laws.{rest_of, with_rest}
use Rattle.cql_text.proofs.Parts.{Stops}
use Rattle.cql_text.proofs.Follow.{after_query}
use Rattle.cql_text.proofs.BlockLaws.{query_reader}

-- ---- what can begin a query

no_more : Stops after_query []
no_more = refl

-- what begins a query, begins one as far as any token in it
pub begin_prefix : (a b : Tokens) → CanBegin (a ++ b) → CanBegin a
begin_prefix a b h = (b ++ h.0, h.1, subst (λ us. Spells us h.1) (append_assoc a b h.0) h.2)

begin_same : (a b : Tokens) → a ≡ b → CanBegin a → CanBegin b
begin_same a b e h = subst CanBegin e h

pub spells_begins : (ts : Tokens) (q : Query) → Spells ts q → CanBegin ts
spells_begins ts q h = ([], q, subst (λ us. Spells us q) (sym (append-nil ts)) h)

rest_with : (o : Outcome Query) (us : Tokens) → rest_of (with_rest o us) ≡ us
rest_with (Ok p) us = refl
rest_with (Err e) us = refl

not_nil : (u : Token) (r us : Tokens) → us ≡ [] → us ≡ u ∷ r → ⊥
not_nil u r us f g = cc

-- where the reader stopped before u, no query goes on from there
stuck_at : (ts : Tokens) (u : Token) (r : Tokens) → rest_of (query ts) ≡ u ∷ r → (front : Tokens) × (ts ≡ front ++ u ∷ r) × (CanBegin (front ++ u ∷ []) → ⊥)
stuck_at ts u r h =
    let a = query_reader.looks ts u r h in (
      a.0,
      a.1,
      λ c.
          let read : query (a.0 ++ u ∷ c.0) ≡ Ok (c.1, []) = ap query (sym (append_assoc a.0 (u ∷ []) c.0)) ∙ query_reader.complete ((a.0 ++ u ∷ []) ++ c.0) [] c.1 c.2 no_more in
          not_nil u c.0 (rest_of (query (a.0 ++ u ∷ c.0))) (ap rest_of read) (ap rest_of (a.2 c.0) ∙ rest_with (query ts) (u ∷ c.0)),
    )

-- what was read before the token where the reader stopped can begin a query
begins : (ts : Tokens) (o : Outcome Query) → query ts ≡ o → (front : Tokens) × (ts ≡ front ++ rest_of o) × CanBegin front
begins ts (Err rest) h =
    let a = query_reader.viable ts rest h in
    (a.0, a.3, (a.1, a.2, subst (λ us. Spells (a.0 ++ us) a.2) (append-nil a.1) (a.4 [])))
begins ts (Ok p) h =
    let a = query_reader.free ts p.1 p.0 (query_reader.sound ts p.1 p.0 h) in
    (a.0, a.1, ([], p.0, a.2 []))

pub begins_nil : (ts : Tokens) → rest_of (query ts) ≡ [] → CanBegin ts
begins_nil ts h =
    let a = begins ts (query ts) refl in
    begin_same a.0 ts (sym (append-nil a.0) ∙ ap (λ us. a.0 ++ us) (sym h) ∙ sym a.1) a.2

-- the token where the reader stopped before u
pub stops_there : (ts : Tokens) (u : Token) (r : Tokens) → rest_of (query ts) ≡ u ∷ r → (front : Tokens) × (ts ≡ front ++ u ∷ r) × CanBegin front × (CanBegin (front ++ u ∷ []) → ⊥)
stops_there ts u r h =
    let a = begins ts (query ts) refl in
    let b = stuck_at ts u r h in
    let e : ts ≡ a.0 ++ u ∷ r = a.1 ∙ ap (λ us. a.0 ++ us) h in
    (a.0, e, a.2, λ c. b.2 (begin_same (a.0 ++ u ∷ []) (b.0 ++ u ∷ []) (ap (λ us. us ++ u ∷ []) (append_cancel_right a.0 b.0 (u ∷ r) (sym e ∙ b.1))) c))

rest_left : (o : Outcome Query) → rest_of o ≡ left_of o
rest_left (Ok p) = refl
rest_left (Err e) = refl

empty_nil : (us : Tokens) → (length us == 0) ≡ true → us ≡ []
empty_nil [] h = refl
empty_nil (x ∷ us) h = absurd (grind (arith, nat_tests))

pub on_begins : (ts : Tokens) → goes_on ts ≡ true → CanBegin ts
unfolding goes_on
on_begins ts h = begins_nil ts (rest_left (query ts) ∙ empty_nil (left_of (query ts)) h)

pub off_ends : (ts : Tokens) → goes_on ts ≡ false → CanBegin ts → ⊥
unfolding goes_on
off_ends ts h c = at (rest_of (query ts)) refl
  where
    at : (us : Tokens) → rest_of (query ts) ≡ us → ⊥
    at [] e =
        let x : (length (left_of (query ts)) == 0) ≡ true = ap (λ us. length us == 0) (sym (rest_left (query ts)) ∙ e) in
        cc
    at (u ∷ r) e = let a = stops_there ts u r e in a.3 (begin_prefix (a.0 ++ u ∷ []) r (begin_same ts ((a.0 ++ u ∷ []) ++ r) (a.1 ∙ sym (append_assoc a.0 (u ∷ []) r)) c))

-- ---- lexemes

pub tokens-append : (a b : List Lexeme) → tokens_of (a ++ b) ≡ tokens_of a ++ tokens_of b
tokens-append [] b = refl
tokens-append (l ∷ ls) b = ap (λ us. l.token ∷ us) (tokens-append ls b)

-- the lexemes of the tokens before one, and the others
pub split_at : (ls : List Lexeme) (front rest : Tokens) → tokens_of ls ≡ front ++ rest → (F : List Lexeme) × (R : List Lexeme) × (ls ≡ F ++ R) × (tokens_of F ≡ front) × (tokens_of R ≡ rest)
split_at ls [] rest h = ([], ls, refl, refl, h)
split_at [] (x ∷ front) rest h = cc
split_at (l ∷ ls) (x ∷ front) rest h =
    let e : tokens_of ls ≡ front ++ rest = cc in
    let f : l.token ≡ x = cc in
    let a = split_at ls front rest e in
    (l ∷ a.0, a.1, ap (λ us. l ∷ us) a.2, ap (λ us. l.token ∷ us) a.3 ∙ ap (λ y. y ∷ front) f, a.4)

pub cons_of : (R : List Lexeme) (u : Token) (r : Tokens) → tokens_of R ≡ u ∷ r → (l : Lexeme) × (B : List Lexeme) × (R ≡ l ∷ B) × (l.token ≡ u) × (tokens_of B ≡ r)
cons_of [] u r h = cc
cons_of (l ∷ B) u r h = (l, B, refl, cc, cc)

nil_of : (R : List Lexeme) → tokens_of R ≡ [] → R ≡ []
nil_of [] h = refl
nil_of (l ∷ B) h = cc

-- lexemes that begin one after another, from a byte on, all before the fault
abbrev pub InOrder : ℕ → List Lexeme → Option ℕ → Type 0
InOrder low [] None = Unit {0}
InOrder low [] (Some at) = low ≤ at
InOrder low (l ∷ ls) fault = (low ≤ l.at) × InOrder (l.at + 1) ls fault

lower : (a b : ℕ) (ls : List Lexeme) (fault : Option ℕ) → a ≤ b → InOrder b ls fault → InOrder a ls fault
lower a b [] None h k = tt
lower a b [] (Some at) h k = omega arith
lower a b (l ∷ ls) fault h k = (omega (arith, k.0), k.1)

pub scan_order : (z : Bytes) (left at : ℕ) → InOrder at (scan left at z).lexemes (scan left at z).fault
unfolding scan
scan_order [] left at = tt
scan_order (b ∷ z) (suc left) at = lower at (at + 1) (scan left (at + 1) z).lexemes (scan left (at + 1) z).fault (omega arith) (scan_order z left (at + 1))
scan_order (b ∷ z) zero at = by_blank (λ n. scan_order z n (at + 1)) (is_blank b)
  where
    stepped : ((n : ℕ) → InOrder (at + 1) (scan n (at + 1) z).lexemes (scan n (at + 1) z).fault) → (o : Option Found) →
        InOrder at (step at o (λ n. scan (n - 1) (at + 1) z)).lexemes (step at o (λ n. scan (n - 1) (at + 1) z)).fault
    stepped ih None = omega arith
    stepped ih (Some p) = (omega arith, ih (p.1 - 1))

    by_blank : ((n : ℕ) → InOrder (at + 1) (scan n (at + 1) z).lexemes (scan n (at + 1) z).fault) → (c : Bool) →
        InOrder at (if c then scan zero (at + 1) z else step at (token (b ∷ z)) (λ n. scan (n - 1) (at + 1) z)).lexemes (if c then scan zero (at + 1) z else step at (token (b ∷ z)) (λ n. scan (n - 1) (at + 1) z)).fault
    by_blank ih true = lower at (at + 1) (scan zero (at + 1) z).lexemes (scan zero (at + 1) z).fault (omega arith) (ih zero)
    by_blank ih false = stepped ih (token (b ∷ z))

pub order_pair : (low : ℕ) (F : List Lexeme) (l u : Lexeme) (B : List Lexeme) (fault : Option ℕ) → InOrder low (F ++ l ∷ u ∷ B) fault → l.at ≤ u.at
order_pair low [] l u B fault h = omega (arith, h.1)
order_pair low (x ∷ F) l u B fault h = order_pair (x.at + 1) F l u B fault h.1

order_fault : (low : ℕ) (ls : List Lexeme) (at : ℕ) → InOrder low ls (Some at) → low ≤ at
order_fault low [] at h = h
order_fault low (x ∷ ls) at h = let k = order_fault (x.at + 1) ls at h.1 in omega (arith, h.0, k)

pub before_fault : (low : ℕ) (F : List Lexeme) (l : Lexeme) (B : List Lexeme) (fault : Option ℕ) (at : ℕ) → fault ≡ Some at → InOrder low (F ++ l ∷ B) fault → l.at ≤ at
before_fault low [] l B fault at e h = let k = order_fault (l.at + 1) B at (subst (λ o. InOrder (l.at + 1) B o) e h.1) in omega (arith, k)
before_fault low (x ∷ F) l B fault at e h = before_fault (x.at + 1) F l B fault at e h.1

-- ---- indices in lists

pub get_after : (F : List Lexeme) (l : Lexeme) (B : List Lexeme) → slice_get (F ++ l ∷ B) (length F) ≡ Some l
get_after [] l B = refl
get_after (x ∷ F) l B = get_after F l B

pub get_end : (F : List Lexeme) → slice_get F (length F) ≡ None
get_end [] = refl
get_end (x ∷ F) = get_end F

pub set_after : (F : List Lexeme) (l m : Lexeme) (B : List Lexeme) → slice_set (F ++ l ∷ B) (length F) m ≡ F ++ m ∷ B
set_after [] l m B = refl
set_after (x ∷ F) l m B = ap (λ us. x ∷ us) (set_after F l m B)

pub take_two : (F : List Lexeme) (m u : Lexeme) (B : List Lexeme) → take (suc (suc (length F))) (F ++ m ∷ u ∷ B) ≡ F ++ m ∷ u ∷ []
take_two [] m u B = refl
take_two (x ∷ F) m u B = ap (λ us. x ∷ us) (take_two F m u B)
