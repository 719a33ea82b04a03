-- The reader's byte is the least of the offsets at which a text is refused.
use Rattle.std.proofs.Common.{◌≡◌, ◌≤◌, ◌<◌, ℕ, suc, ◌+◌, ◌-◌, min, nat_lt, Bool, true, false, if◌then◌else◌, List, [], ◌∷◌, ◌++◌, length, Option, Some, None, Result, Ok, Err, IfOk, refl, sym, ap, ◌∙◌, subst, append_assoc, length-append, arith, ◌⊎◌, inl, inr}
use Rattle.std.proofs.lemmas.Bool.Decides.{nat_tests}
use Rattle.cql_syntax.specs.declared.token.Token.{Token}
use Rattle.cql_syntax.specs.declared.token.Token.TheVariants as t
use Rattle.cql_syntax.specs.declared.token.Lexeme.{Lexeme}
use Rattle.cql_syntax.specs.declared.lex.Scanned.{Scanned}
use Rattle.cql_syntax.specs.declared.syntax.Query.{Query}
use Rattle.cql_text.specs.declared.reader.ReadError.{ReadError}
use Rattle.cql_text.specs.declared.reader.ReadError.TheVariants.{BadQuery, NoMemory}
use Rattle.cql_syntax.specs.Tokens.{Tokens, tokens_of}
use Rattle.cql_syntax.specs.Lex.{Bytes, lexed, lexed_until, cut}
use Rattle.cql_text.specs.Grammar.{Spells, CanBegin}
use Rattle.cql_syntax.specs.Cursor.{Outcome}
use Rattle.cql_text.specs.Readers.{query}
use Rattle.cql_text.specs.Read.{most_bytes, Is, IsStuck, IsTooLong, HasFaultAt, IsRefusedAt, end_of, offset_at, number_at, number_before, goes_on, with_one, refusal, ended, attempted, attempt, finished, capped, read_tokens, read_of, Answers, Reads}
use Rattle.cql_text.proofs.Laws.{rest_of}
use Rattle.cql_text.proofs.Bound.{until_all, cut_order, cut_rest, cut_fault, fault_cut, cut_at, cut_next}
use Rattle.cql_text.proofs.BlockLaws.{query_reader}
use Rattle.cql_text.proofs.ReadLaws.{begin_prefix, spells_begins, begins_nil, stops_there, on_begins, off_ends, tokens-append, split_at, cons_of, InOrder, scan_order, order_pair, before_fault, get_after, get_end, set_after, take_two}

-- the offsets but for the length of the text
abbrev Cut : Scanned → ℕ → ℕ → Type 0
Cut s len at = (s.fault ≡ None) × CanBegin (tokens_of s.lexemes) × ((q : Query) → Spells (tokens_of s.lexemes) q → ⊥) × (at ≡ len)

abbrev FaultAt : Scanned → ℕ → ℕ → Type 0
FaultAt s len at = (s.fault ≡ Some at) ⊎ (IsStuck s.lexemes at ⊎ (IsTooLong s.lexemes at ⊎ Cut s len at))

abbrev Least : Scanned → ℕ → ℕ → Type 0
Least s len at = FaultAt s len at × ((other : ℕ) → FaultAt s len other → at ≤ other)

-- ---- one stuck token

abbrev Compared : List Lexeme → Lexeme → List Lexeme → Lexeme → Type 0
Compared F l G m = ((F ≡ G) × (l ≡ m)) ⊎ (((X : List Lexeme) × (G ≡ (F ++ l ∷ []) ++ X)) ⊎ ((X : List Lexeme) × (F ≡ (G ++ m ∷ []) ++ X)))

compared : (F : List Lexeme) (l : Lexeme) (B G : List Lexeme) (m : Lexeme) (C : List Lexeme) → F ++ l ∷ B ≡ G ++ m ∷ C → Compared F l G m
compared [] l B [] m C h = let e : l ≡ m = cc in inl (refl, e)
compared [] l B (x ∷ G) m C h = let e : l ≡ x = cc in inr (inl (G, ap (λ y. y ∷ G) (sym e)))
compared (x ∷ F) l B [] m C h = let e : x ≡ m = cc in inr (inr (F, ap (λ y. y ∷ F) e))
compared (x ∷ F) l B (y ∷ G) m C h =
    let e : x ≡ y = cc in
    let f : F ++ l ∷ B ≡ G ++ m ∷ C = cc in
    more e (compared F l B G m C f)
  where
    more : x ≡ y → Compared F l G m → Compared (x ∷ F) l (y ∷ G) m
    more e (inl p) = inl (ap (λ z. z ∷ F) e ∙ ap (λ L. y ∷ L) p.0, p.1)
    more e (inr (inl p)) = inr (inl (p.0, ap (λ L. y ∷ L) p.1 ∙ ap (λ z. z ∷ ((F ++ l ∷ []) ++ p.0)) (sym e)))
    more e (inr (inr p)) = inr (inr (p.0, ap (λ L. x ∷ L) p.1 ∙ ap (λ z. z ∷ ((G ++ m ∷ []) ++ p.0)) e))

tokens_prefix : (A X G : List Lexeme) → G ≡ A ++ X → CanBegin (tokens_of G) → CanBegin (tokens_of A)
tokens_prefix A X G e h = begin_prefix (tokens_of A) (tokens_of X) (subst CanBegin (ap tokens_of e ∙ tokens-append A X) h)

same_stuck : (F : List Lexeme) (l : Lexeme) (B G : List Lexeme) (m : Lexeme) (C : List Lexeme) → F ++ l ∷ B ≡ G ++ m ∷ C →
    CanBegin (tokens_of F) → (CanBegin (tokens_of (F ++ l ∷ [])) → ⊥) → CanBegin (tokens_of G) → (CanBegin (tokens_of (G ++ m ∷ [])) → ⊥) → (F ≡ G) × (l ≡ m)
same_stuck F l B G m C h f nf g ng = at (compared F l B G m C h)
  where
    at : Compared F l G m → (F ≡ G) × (l ≡ m)
    at (inl p) = p
    at (inr (inl p)) = absurd (nf (tokens_prefix (F ++ l ∷ []) p.0 G p.1 g))
    at (inr (inr p)) = absurd (ng (tokens_prefix (G ++ m ∷ []) p.0 F p.1 f))

-- where all tokens can begin a query, none is stuck
none_stuck : (ls : List Lexeme) (at : ℕ) → CanBegin (tokens_of ls) → IsStuck ls at → ⊥
none_stuck ls at c h = h.5 (tokens_prefix (h.0 ++ h.1 ∷ []) h.2 ls (h.3 ∙ sym (append_assoc h.0 (h.1 ∷ []) h.2)) c)

tokens_last : (G : List Lexeme) (n : Lexeme) (x : Token) → n.token ≡ x → tokens_of (G ++ n ∷ []) ≡ tokens_of G ++ x ∷ []
tokens_last G n x e = tokens-append G (n ∷ []) ∙ ap (λ y. tokens_of G ++ y ∷ []) e

tokens_last_two : (G : List Lexeme) (n u : Lexeme) (x : Token) → n.token ≡ x → tokens_of ((G ++ n ∷ []) ++ u ∷ []) ≡ tokens_of G ++ x ∷ u.token ∷ []
tokens_last_two G n u x e =
    ap tokens_of (append_assoc G (n ∷ []) (u ∷ [])) ∙ tokens-append G (n ∷ u ∷ []) ∙ ap (λ y. tokens_of G ++ y ∷ u.token ∷ []) e

-- a number that is too long is before a stuck token
abbrev LongBefore : List Lexeme → ℕ → Type 0
LongBefore ls at = (G : List Lexeme) × (n : Lexeme) × (u : Lexeme) × (B : List Lexeme) × (m : ℕ) × (ls ≡ (G ++ n ∷ []) ++ u ∷ B) × (n.token ≡ t.Number m)
    × CanBegin (tokens_of (G ++ n ∷ [])) × (CanBegin (tokens_of ((G ++ n ∷ []) ++ u ∷ [])) → ⊥) × CanBegin (tokens_of G ++ t.Number 1 ∷ u.token ∷ []) × (at ≡ n.at)

long_before : (ls : List Lexeme) (at : ℕ) → IsTooLong ls at → LongBefore ls at
long_before ls at h = (
  h.0,
  h.2,
  h.3,
  h.4,
  h.1,
  h.5 ∙ sym (append_assoc h.0 (h.2 ∷ []) (h.3 ∷ h.4)),
  h.6,
  subst CanBegin (sym (tokens_last h.0 h.2 (t.Number h.1) h.6)) h.7,
  λ c. h.8 (subst CanBegin (tokens_last_two h.0 h.2 h.3 (t.Number h.1) h.6) c),
  h.9,
  h.10,
)

long_stuck : (ls : List Lexeme) (at : ℕ) → LongBefore ls at → (other : ℕ) × IsStuck ls other
long_stuck ls at h = ((h.2).at, (h.0 ++ h.1 ∷ [], h.2, h.3, h.5, h.7, h.8, refl))

none_long : (ls : List Lexeme) (at : ℕ) → CanBegin (tokens_of ls) → IsTooLong ls at → ⊥
none_long ls at c h = let s = long_stuck ls at (long_before ls at h) in none_stuck ls s.0 c s.1

-- ---- what the reader computes at a stuck token

len_is : (F : List Lexeme) (l : Lexeme) (B : List Lexeme) → length (F ++ l ∷ B) - suc (length B) ≡ length F
len_is F l B = omega (arith, length-append F (l ∷ B))

offset_is : (s : Scanned) (len : ℕ) (F : List Lexeme) (l : Lexeme) (B : List Lexeme) → s.lexemes ≡ F ++ l ∷ B → offset_at s len (suc (length B)) ≡ l.at
offset_is s len F l B e = rw (e, len_is F l B, get_after F l B) refl

nothing_before : (l : Lexeme) (B : List Lexeme) → number_before (l ∷ B) (suc (length B)) ≡ None
unfolding number_before
nothing_before l B =
    let e : nat_lt (suc (length B)) (length (l ∷ B)) ≡ false = grind (arith, nat_tests) in
    let f : nat_lt 0 (suc (length B)) ≡ true = grind (arith, nat_tests) in
    rw (f, e) refl

before_is : (G : List Lexeme) (n l : Lexeme) (B : List Lexeme) → number_before ((G ++ n ∷ []) ++ l ∷ B) (suc (length B)) ≡ number_at n.at n.token
unfolding number_before
before_is G n l B =
    let a : (G ++ n ∷ []) ++ l ∷ B ≡ G ++ n ∷ l ∷ B = append_assoc G (n ∷ []) (l ∷ B) in
    let e : nat_lt (suc (length B)) (length (G ++ n ∷ l ∷ B)) ≡ true = longer in
    let f : nat_lt 0 (suc (length B)) ≡ true = grind (arith, nat_tests) in
    let i : length (G ++ n ∷ l ∷ B) - suc (length B) - 1 ≡ length G = omega (arith, length-append G (n ∷ l ∷ B)) in
    rw (a, f, e, i, get_after G n (l ∷ B)) refl
  where
    more : suc (length B) < length (G ++ n ∷ l ∷ B)
    more = omega (arith, length-append G (n ∷ l ∷ B))

    longer : nat_lt (suc (length B)) (length (G ++ n ∷ l ∷ B)) ≡ true
    longer = let h = more in grind (arith, nat_tests)

one_is : (G : List Lexeme) (n l : Lexeme) (B : List Lexeme) (at : ℕ) → tokens_of (with_one ((G ++ n ∷ []) ++ l ∷ B) at (suc (length B))) ≡ tokens_of G ++ t.Number 1 ∷ l.token ∷ []
unfolding with_one
one_is G n l B at =
    let a : (G ++ n ∷ []) ++ l ∷ B ≡ G ++ n ∷ l ∷ B = append_assoc G (n ∷ []) (l ∷ B) in
    let i : length (G ++ n ∷ l ∷ B) - suc (length B) - 1 ≡ length G = omega (arith, length-append G (n ∷ l ∷ B)) in
    let j : length (G ++ n ∷ l ∷ B) - suc (length B) + 1 ≡ suc (suc (length G)) = omega (arith, length-append G (n ∷ l ∷ B)) in
    rw (a, i, j, set_after G n one (l ∷ B), take_two G one l B) (tokens-append G (one ∷ l ∷ []))
  where
    one : Lexeme
    one = record { at = at; token = t.Number 1 }

-- ---- stuck

module _ (s : Scanned) (len : ℕ) (order : InOrder 0 s.lexemes s.fault) where
  -- the other offsets, where the reader is stuck at l
  module _ (F : List Lexeme) (l : Lexeme) (B : List Lexeme) (e : s.lexemes ≡ F ++ l ∷ B) (c : CanBegin (tokens_of F)) (cannot : CanBegin (tokens_of (F ++ l ∷ [])) → ⊥) where
    at_fault : (other : ℕ) → s.fault ≡ Some other → l.at ≤ other
    at_fault other h = before_fault 0 F l B s.fault other h (subst (λ ls. InOrder 0 ls s.fault) e order)

    at_stuck : (other : ℕ) → IsStuck s.lexemes other → l.at ≤ other
    at_stuck other h =
        let p = same_stuck F l B h.0 h.1 h.2 (sym e ∙ h.3) c cannot h.4 h.5 in
        let f : l.at ≡ other = ap (λ x. x.at) p.1 ∙ sym h.6 in
        omega (arith, f)

    at_cut : (other : ℕ) → Cut s len other → ⊥
    at_cut other h = cannot (tokens_prefix (F ++ l ∷ []) B s.lexemes (e ∙ sym (append_assoc F (l ∷ []) B)) h.1)

    at_long : (other : ℕ) → IsTooLong s.lexemes other → (G : List Lexeme) × (n : Lexeme) × (m : ℕ) × (F ≡ G ++ n ∷ []) × (n.token ≡ t.Number m) × CanBegin (tokens_of G ++ t.Number 1 ∷ l.token ∷ []) × (other ≡ n.at)
    at_long other h =
        let k = long_before s.lexemes other h in
        let p = same_stuck F l B (k.0 ++ k.1 ∷ []) k.2 k.3 (sym e ∙ k.5) c cannot k.7 k.8 in
        (k.0, k.1, k.4, p.0, k.6, subst (λ x. CanBegin (tokens_of k.0 ++ t.Number 1 ∷ x.token ∷ [])) (sym p.1) k.9, k.10)

    stuck_here : IsStuck s.lexemes l.at
    stuck_here = (F, l, B, e, c, cannot, refl)

    -- where no number before it is to blame
    least_stuck : ((other : ℕ) → IsTooLong s.lexemes other → ⊥) → Least s len l.at
    least_stuck none = (inr (inl stuck_here), others)
      where
        others : (other : ℕ) → FaultAt s len other → l.at ≤ other
        others other (inl h) = at_fault other h
        others other (inr (inl h)) = at_stuck other h
        others other (inr (inr (inl h))) = absurd (none other h)
        others other (inr (inr (inr h))) = absurd (at_cut other h)

  refusal_offset : (left : ℕ) → number_before s.lexemes left ≡ None → refusal s len left ≡ offset_at s len left
  unfolding refusal
  refusal_offset left h = rw h refl

  refusal_number : (left at : ℕ) (b : Bool) → number_before s.lexemes left ≡ Some at → goes_on (tokens_of (with_one s.lexemes at left)) ≡ b → refusal s len left ≡ (if b then at else offset_at s len left)
  unfolding refusal
  refusal_number left at b h g = rw (h, g) refl

  not_snoc : (G : List Lexeme) (n : Lexeme) → [] ≡ G ++ n ∷ [] → ⊥
  not_snoc [] n h = cc
  not_snoc (x ∷ G) n h = cc

  snoc_same : (G H : List Lexeme) (n m : Lexeme) → G ++ n ∷ [] ≡ H ++ m ∷ [] → (G ≡ H) × (n ≡ m)
  snoc_same [] [] n m h = (refl, cc)
  snoc_same [] (y ∷ H) n m h = let f : [] ≡ H ++ m ∷ [] = cc in absurd (not_snoc H m f)
  snoc_same (x ∷ G) [] n m h = let f : [] ≡ G ++ n ∷ [] = cc in absurd (not_snoc G n f)
  snoc_same (x ∷ G) (y ∷ H) n m h =
      let f : G ++ n ∷ [] ≡ H ++ m ∷ [] = cc in
      let g : x ≡ y = cc in
      let p = snoc_same G H n m f in
      (ap (λ z. z ∷ G) g ∙ ap (λ L. y ∷ L) p.0, p.1)

  -- the first token is stuck
  stuck_first : (l : Lexeme) (B : List Lexeme) → s.lexemes ≡ l ∷ B → CanBegin [] → (CanBegin (tokens_of (l ∷ [])) → ⊥) → Least s len (refusal s len (suc (length B)))
  stuck_first l B e c cannot =
      let f : refusal s len (suc (length B)) ≡ l.at = refusal_offset (suc (length B)) (ap (λ ls. number_before ls (suc (length B))) e ∙ nothing_before l B) ∙ offset_is s len [] l B e in
      subst (Least s len) (sym f) (least_stuck [] l B e c cannot (λ other h. let k = at_long [] l B e c cannot other h in not_snoc k.0 k.1 k.3))

  module _ (G : List Lexeme) (n l : Lexeme) (B : List Lexeme) (e : s.lexemes ≡ (G ++ n ∷ []) ++ l ∷ B) (c : CanBegin (tokens_of (G ++ n ∷ []))) (cannot : CanBegin (tokens_of ((G ++ n ∷ []) ++ l ∷ [])) → ⊥) where
    before : number_before s.lexemes (suc (length B)) ≡ number_at n.at n.token
    before = ap (λ ls. number_before ls (suc (length B))) e ∙ before_is G n l B

    one_here : tokens_of (with_one s.lexemes n.at (suc (length B))) ≡ tokens_of G ++ t.Number 1 ∷ l.token ∷ []
    one_here = ap (λ ls. tokens_of (with_one ls n.at (suc (length B)))) e ∙ one_is G n l B n.at

    -- the token before is no number
    no_number : (x : Token) → n.token ≡ x → number_at n.at x ≡ None → ((m : ℕ) → x ≡ t.Number m → ⊥) → Least s len (refusal s len (suc (length B)))
    no_number x f g none =
        let h : refusal s len (suc (length B)) ≡ l.at = refusal_offset (suc (length B)) (before ∙ ap (number_at n.at) f ∙ g) ∙ offset_is s len (G ++ n ∷ []) l B e in
        subst (Least s len) (sym h) (least_stuck (G ++ n ∷ []) l B e c cannot (λ other k.
        let p = at_long (G ++ n ∷ []) l B e c cannot other k in
        let q = snoc_same G p.0 n p.1 p.3 in
        none p.2 (sym f ∙ ap (λ y. y.token) q.1 ∙ p.4)))

    by_number : (m : ℕ) → n.token ≡ t.Number m → (b : Bool) → goes_on (tokens_of (with_one s.lexemes n.at (suc (length B)))) ≡ b → Least s len (refusal s len (suc (length B)))
    by_number m f true g =
        let h : refusal s len (suc (length B)) ≡ n.at = refusal_number (suc (length B)) n.at true (before ∙ ap (number_at n.at) f) g in
        subst (Least s len) (sym h) (inr (inr (inl long)), others)
      where
        can : CanBegin (tokens_of G ++ t.Number 1 ∷ l.token ∷ [])
        can = subst CanBegin one_here (on_begins (tokens_of (with_one s.lexemes n.at (suc (length B)))) g)

        long : IsTooLong s.lexemes n.at
        long = (
          G,
          m,
          n,
          l,
          B,
          e ∙ append_assoc G (n ∷ []) (l ∷ B),
          f,
          subst CanBegin (tokens_last G n (t.Number m) f) c,
          λ d. cannot (subst CanBegin (sym (tokens_last_two G n l (t.Number m) f)) d),
          can,
          refl,
        )

        first : n.at ≤ l.at
        first = order_pair 0 G n l B s.fault (subst (λ ls. InOrder 0 ls s.fault) (e ∙ append_assoc G (n ∷ []) (l ∷ B)) order)

        others : (other : ℕ) → FaultAt s len other → n.at ≤ other
        others other (inl k) = let w = at_fault (G ++ n ∷ []) l B e c cannot other k in omega (arith, first, w)
        others other (inr (inl k)) = let w = at_stuck (G ++ n ∷ []) l B e c cannot other k in omega (arith, first, w)
        others other (inr (inr (inl k))) =
            let p = at_long (G ++ n ∷ []) l B e c cannot other k in
            let q = snoc_same G p.0 n p.1 p.3 in
            let w : n.at ≡ other = ap (λ y. y.at) q.1 ∙ sym p.6 in
            omega (arith, w)
        others other (inr (inr (inr k))) = absurd (at_cut (G ++ n ∷ []) l B e c cannot other k)
    by_number m f false g =
        let h : refusal s len (suc (length B)) ≡ l.at = refusal_number (suc (length B)) n.at false (before ∙ ap (number_at n.at) f) g ∙ offset_is s len (G ++ n ∷ []) l B e in
        subst (Least s len) (sym h) (least_stuck (G ++ n ∷ []) l B e c cannot (λ other k.
        let p = at_long (G ++ n ∷ []) l B e c cannot other k in
        let q = snoc_same G p.0 n p.1 p.3 in
        off_ends (tokens_of (with_one s.lexemes n.at (suc (length B)))) g (subst CanBegin (sym one_here) (subst (λ H. CanBegin (tokens_of H ++ t.Number 1 ∷ l.token ∷ [])) (sym q.0) p.5))))

    stuck_later : (x : Token) → n.token ≡ x → Least s len (refusal s len (suc (length B)))
    stuck_later (t.Number m) f = by_number m f (goes_on (tokens_of (with_one s.lexemes n.at (suc (length B))))) refl
    stuck_later (t.Fixed j) f = no_number (t.Fixed j) f refl (λ m h. cc)
    stuck_later (t.Word w) f = no_number (t.Word w) f refl (λ m h. cc)
    stuck_later (t.Text w) f = no_number (t.Text w) f refl (λ m h. cc)

  last_of : (x : Lexeme) (F : List Lexeme) → (G : List Lexeme) × (n : Lexeme) × (x ∷ F ≡ G ++ n ∷ [])
  last_of x [] = ([], x, refl)
  last_of x (y ∷ F) = let p = last_of y F in (x ∷ p.0, p.1, ap (λ L. x ∷ L) p.2)

  stuck_any : (F : List Lexeme) (l : Lexeme) (B : List Lexeme) → s.lexemes ≡ F ++ l ∷ B → CanBegin (tokens_of F) → (CanBegin (tokens_of (F ++ l ∷ [])) → ⊥) → Least s len (refusal s len (suc (length B)))
  stuck_any [] l B e c cannot = stuck_first l B e c cannot
  stuck_any (x ∷ F) l B e c cannot =
      let p = last_of x F in
      stuck_later p.0 p.1 l B (e ∙ ap (λ L. L ++ l ∷ B) p.2) (subst (λ L. CanBegin (tokens_of L)) p.2 c) (λ d. cannot (subst (λ L. CanBegin (tokens_of (L ++ l ∷ []))) (sym p.2) d)) (p.1).token refl

  -- ---- at the end of the tokens

  refusal_end : refusal s len 0 ≡ end_of s.fault len
  unfolding refusal number_before
  refusal_end = let e : length s.lexemes - 0 ≡ length s.lexemes = omega arith in rw (e, get_end s.lexemes) refl

  end_least : CanBegin (tokens_of s.lexemes) → (f : Option ℕ) → s.fault ≡ f → (f ≡ None → (q : Query) → Spells (tokens_of s.lexemes) q → ⊥) → Least s len (end_of f len)
  end_least c None e cannot = (inr (inr (inr (e, c, cannot refl, refl))), others)
    where
      others : (other : ℕ) → FaultAt s len other → len ≤ other
      others other (inl k) = let z : ⊥ = cc in absurd z
      others other (inr (inl k)) = absurd (none_stuck s.lexemes other c k)
      others other (inr (inr (inl k))) = absurd (none_long s.lexemes other c k)
      others other (inr (inr (inr k))) = omega (arith, k.3)
  end_least c (Some at) e cannot = (inl e, others)
    where
      others : (other : ℕ) → FaultAt s len other → at ≤ other
      others other (inl k) = let z : at ≡ other = cc in omega (arith, z)
      others other (inr (inl k)) = absurd (none_stuck s.lexemes other c k)
      others other (inr (inr (inl k))) = absurd (none_long s.lexemes other c k)
      others other (inr (inr (inr k))) = let w = k.0 in let z : ⊥ = cc in absurd z

  -- ---- all

  left_is : (o : Outcome Query) (f : Option ℕ) (left : ℕ) → attempted f o ≡ Err left → left ≡ length (rest_of o)
  left_is (Err rest) f left h = cc
  left_is (Ok p) f left h = at p.1 f h
    where
      at : (rest : Tokens) (f : Option ℕ) → ended f p.0 rest ≡ Err left → left ≡ length rest
      at [] None h = cc
      at [] (Some a) h = cc
      at (u ∷ r) None h = cc
      at (u ∷ r) (Some a) h = cc

  no_query : (f : Option ℕ) (left : ℕ) (q : Query) → attempted f (query (tokens_of s.lexemes)) ≡ Err left → f ≡ None → Spells (tokens_of s.lexemes) q → ⊥
  no_query f left q h e k =
      let r : query (tokens_of s.lexemes) ≡ Ok (q, []) = query_reader.complete (tokens_of s.lexemes) [] q k refl in
      let w : attempted f (query (tokens_of s.lexemes)) ≡ Ok q = rw (e, r) refl in
      cc

  pub least_refusal : (left : ℕ) → attempt s ≡ Err left → Least s len (refusal s len left)
  unfolding attempt
  least_refusal left h = at (rest_of (query (tokens_of s.lexemes))) refl
    where
      at : (rest : Tokens) → rest_of (query (tokens_of s.lexemes)) ≡ rest → Least s len (refusal s len left)
      at [] e =
          let l : left ≡ 0 = left_is (query (tokens_of s.lexemes)) s.fault left h ∙ ap length e in
          subst (Least s len) (sym (ap (refusal s len) l ∙ refusal_end)) (end_least (begins_nil (tokens_of s.lexemes) e) s.fault refl (λ n q k. no_query s.fault left q h n k))
      at (u ∷ r) e =
          let a = stops_there (tokens_of s.lexemes) u r e in
          let b = split_at s.lexemes a.0 (u ∷ r) a.1 in
          let d = cons_of b.1 u r b.4 in
          let l : left ≡ suc (length d.1) = left_is (query (tokens_of s.lexemes)) s.fault left h ∙ ap length e ∙ lengths r d.1 d.4 in
          subst (Least s len) (sym (ap (refusal s len) l)) (stuck_any b.0 d.0 d.1 (b.2 ∙ ap (λ R. b.0 ++ R) d.2) (subst CanBegin (sym b.3) a.2)
          (λ x. a.3 (subst CanBegin (tokens_last b.0 d.0 u d.3 ∙ ap (λ us. us ++ u ∷ []) b.3) x)))
        where
          lengths : (r : Tokens) (B : List Lexeme) → tokens_of B ≡ r → length (u ∷ r) ≡ suc (length B)
          lengths r B e = let f : length (tokens_of B) ≡ length B = count B in omega (arith, ap length e, f)
            where
              count : (B : List Lexeme) → length (tokens_of B) ≡ length B
              count [] = refl
              count (x ∷ B) = let i = count B in omega (arith, i)

  pub found_spells : (q : Query) → attempt s ≡ Ok q → (s.fault ≡ None) × Spells (tokens_of s.lexemes) q
  unfolding attempt
  found_spells q h = at (query (tokens_of s.lexemes)) s.fault refl refl h
    where
      at : (o : Outcome Query) (f : Option ℕ) → query (tokens_of s.lexemes) ≡ o → s.fault ≡ f → attempted f o ≡ Ok q → (s.fault ≡ None) × Spells (tokens_of s.lexemes) q
      at (Err rest) f e g k = cc
      at (Ok p) f e g k = by p.1 f e g k
        where
          by : (rest : Tokens) (f : Option ℕ) → query (tokens_of s.lexemes) ≡ Ok (p.0, rest) → s.fault ≡ f → ended f p.0 rest ≡ Ok q → (s.fault ≡ None) × Spells (tokens_of s.lexemes) q
          by [] None e g k = let w : p.0 ≡ q = cc in (g, subst (Spells (tokens_of s.lexemes)) w (query_reader.sound (tokens_of s.lexemes) [] p.0 e))
          by [] (Some a) e g k = cc
          by (u ∷ r) None e g k = cc
          by (u ∷ r) (Some a) e g k = cc

  pub spells_found : (q : Query) → s.fault ≡ None → Spells (tokens_of s.lexemes) q → attempt s ≡ Ok q
  unfolding attempt
  spells_found q e h = rw (e, query_reader.complete (tokens_of s.lexemes) [] q h refl) refl

  -- what is a query has no fault
  pub no_fault : (q : Query) (other : ℕ) → attempt s ≡ Ok q → FaultAt s len other → ⊥
  no_fault q other h k = at (found_spells q h) k
    where
      at : (s.fault ≡ None) × Spells (tokens_of s.lexemes) q → FaultAt s len other → ⊥
      at p (inl k) = let w = p.0 in cc
      at p (inr (inl k)) = none_stuck s.lexemes other (spells_begins (tokens_of s.lexemes) q p.1) k
      at p (inr (inr (inl k))) = none_long s.lexemes other (spells_begins (tokens_of s.lexemes) q p.1) k
      at p (inr (inr (inr k))) = k.2 q p.1

-- ---- a text

order_of : (text : Bytes) → InOrder 0 (lexed text).lexemes (lexed text).fault
unfolding lexed
order_of text = scan_order text 0 0

order_until : (text : Bytes) → InOrder 0 (lexed_until most_bytes text).lexemes (lexed_until most_bytes text).fault
unfolding lexed_until
order_until text = cut_order most_bytes 0 (lexed text).lexemes (lexed text).fault (order_of text)

ok_err : (q : Query) (at : ℕ) (o : Result Query ℕ) → o ≡ Ok q → o ≡ Err at → ⊥
ok_err q at o f g = cc

not_before : (n m : ℕ) → nat_lt n m ≡ false → m ≤ n
not_before n m h = grind (arith, nat_tests)

is_before : (n m : ℕ) → nat_lt n m ≡ true → n < m
is_before n m h = grind (arith, nat_tests)

not_long : (n : ℕ) → n ≤ most_bytes → nat_lt most_bytes n ≡ false
not_long n h = grind (arith, nat_tests)

-- a fault among all tokens and one among the first, before the byte at which these end
module _ (text : Bytes) (long : most_bytes < length text) where
  abbrev rest : List Lexeme
  rest = (cut_rest most_bytes (lexed text).lexemes (lexed text).fault).0

  longer : (F B : List Lexeme) (l : Lexeme) → (lexed_until most_bytes text).lexemes ≡ F ++ l ∷ B → (lexed text).lexemes ≡ F ++ l ∷ (B ++ rest)
  unfolding lexed_until
  longer F B l e = (cut_rest most_bytes (lexed text).lexemes (lexed text).fault).1 ∙ ap (λ us. us ++ rest) e ∙ append_assoc F (l ∷ B) rest

  among_all : (at : ℕ) → FaultAt (lexed_until most_bytes text) (length text) at → at < most_bytes → FaultAt (lexed text) (length text) at
  unfolding lexed_until
  among_all at (inl h) k = inl (cut_fault most_bytes (lexed text).lexemes (lexed text).fault at h)
  among_all at (inr (inl h)) k = inr (inl (h.0, h.1, h.2 ++ rest, longer h.0 h.2 h.1 h.3, h.4, h.5, h.6))
  among_all at (inr (inr (inl h))) k = inr (inr (inl (h.0, h.1, h.2, h.3, h.4 ++ rest, longer h.0 (h.3 ∷ h.4) h.2 h.5, h.6, h.7, h.8, h.9, h.10)))
  among_all at (inr (inr (inr h))) k = absurd (omega (arith, h.3, k, long))

  shorter : (F B : List Lexeme) (l : Lexeme) → (lexed text).lexemes ≡ F ++ l ∷ B → l.at < most_bytes → (lexed_until most_bytes text).lexemes ≡ F ++ l ∷ (cut most_bytes B (lexed text).fault).lexemes
  unfolding lexed_until
  shorter F B l e k = ap (λ us. (cut most_bytes us (lexed text).fault).lexemes) e ∙ cut_at most_bytes 0 F l B (lexed text).fault (subst (λ us. InOrder 0 us (lexed text).fault) e (order_of text)) k

  fault_until : (at : ℕ) → (lexed text).fault ≡ Some at → at < most_bytes → (lexed_until most_bytes text).fault ≡ Some at
  unfolding lexed_until
  fault_until at e k = ap (λ f. (cut most_bytes (lexed text).lexemes f).fault) e ∙ fault_cut most_bytes 0 (lexed text).lexemes at (subst (λ f. InOrder 0 (lexed text).lexemes f) e (order_of text)) k

  among_first : (at : ℕ) → FaultAt (lexed text) (length text) at → at < most_bytes → FaultAt (lexed_until most_bytes text) (length text) at
  among_first at (inl h) k = inl (fault_until at h k)
  among_first at (inr (inl h)) k = inr (inl (h.0, h.1, (cut most_bytes h.2 (lexed text).fault).lexemes, shorter h.0 h.2 h.1 h.3 (omega (arith, h.6, k)), h.4, h.5, h.6))
  among_first at (inr (inr (inl h))) k =
      let n = cut_next most_bytes h.3 h.4 (lexed text).fault in
      inr (inr (inl (h.0, h.1, h.2, h.3, n.0, shorter h.0 (h.3 ∷ h.4) h.2 h.5 (omega (arith, h.10, k)) ∙ ap (λ us. h.0 ++ h.2 ∷ us) n.1, h.6, h.7, h.8, h.9, h.10)))
  among_first at (inr (inr (inr h))) k = absurd (omega (arith, h.3, k, long))

module _ (text : Bytes) where
  abbrev size : ℕ
  size = length text

  abbrev first : Scanned
  first = lexed_until most_bytes text

  finished_ok : (o : Result Query ℕ) (q : Query) → attempt first ≡ o → finished first size o ≡ Ok q → attempt first ≡ Ok q
  finished_ok (Ok p) q e h = let w : p ≡ q = cc in e ∙ ap Ok w
  finished_ok (Err left) q e h = cc

  tokens_ok : (q : Query) → read_tokens text ≡ Ok q → attempt first ≡ Ok q
  unfolding read_tokens
  tokens_ok q h = finished_ok (attempt first) q refl h

  finished_err : (o : Result Query ℕ) (at : ℕ) → attempt first ≡ o → finished first size o ≡ Err at → Least first size at
  finished_err (Ok p) at e h = cc
  finished_err (Err left) at e h = let w : refusal first size left ≡ at = cc in subst (Least first size) w (least_refusal first size (order_until text) left e)

  tokens_err : (at : ℕ) → read_tokens text ≡ Err at → Least first size at
  unfolding read_tokens
  tokens_err at h = finished_err (attempt first) at refl h

  pub read_found : (q : Query) → read_of text ≡ Ok q → Is text q
  unfolding read_of
  read_found q h = at (nat_lt most_bytes size) (read_tokens text) refl refl h
    where
      at : (b : Bool) (o : Result Query ℕ) → nat_lt most_bytes size ≡ b → read_tokens text ≡ o → capped b o ≡ Ok q → Is text q
      at true (Ok p) e f k = cc
      at true (Err a) e f k = cc
      at false o e f k =
          let s = not_before most_bytes size e in
          let p = subst (λ t. (t.fault ≡ None) × Spells (tokens_of t.lexemes) q) (until_all most_bytes text s) (found_spells first size (order_until text) q (tokens_ok q (f ∙ k))) in
          (s, p.0, p.1)

  pub read_only : (q : Query) → Is text q → read_of text ≡ Ok q
  unfolding read_of read_tokens
  read_only q h = rw (not_long size h.0, until_all most_bytes text h.0, spells_found (lexed text) size (order_of text) q h.1 h.2) refl

  pub read_refused : (at : ℕ) → read_of text ≡ Err at → IsRefusedAt text at
  unfolding read_of
  read_refused at h = by (nat_lt most_bytes size) (read_tokens text) refl refl h
    where
      by : (b : Bool) (o : Result Query ℕ) → nat_lt most_bytes size ≡ b → read_tokens text ≡ o → capped b o ≡ Err at → IsRefusedAt text at
      by true (Ok q) e f k =
          let w : most_bytes ≡ at = cc in
          (inl (is_before most_bytes size e, sym w), others)
        where
          others : (other : ℕ) → HasFaultAt text other → at ≤ other
          others other (inl p) = let w : most_bytes ≡ at = cc in omega (arith, w, p.1)
          others other (inr p) = pick (nat_lt other most_bytes) refl
            where
              pick : (b : Bool) → nat_lt other most_bytes ≡ b → at ≤ other
              pick true g = absurd (no_fault first size (order_until text) q other (tokens_ok q f) (among_first text (is_before most_bytes size e) other p (is_before other most_bytes g)))
              pick false g = let w : most_bytes ≡ at = cc in let i = not_before other most_bytes g in omega (arith, w, i)
      by true (Err a) e f k =
          let w : min a most_bytes ≡ at = cc in
          let l = tokens_err a f in
          (fault_of l.0, others)
        where
          fault_of : FaultAt first size a → HasFaultAt text at
          fault_of p = pick (nat_lt a most_bytes) refl
            where
              pick : (b : Bool) → nat_lt a most_bytes ≡ b → HasFaultAt text at
              pick true g =
                  let w : min a most_bytes ≡ at = cc in
                  let i = is_before a most_bytes g in
                  let j : a ≡ at = omega (arith, w, i) in
                  inr (subst (FaultAt (lexed text) size) j (among_all text (is_before most_bytes size e) a p i))
              pick false g = let w : min a most_bytes ≡ at = cc in let i = not_before a most_bytes g in inl (is_before most_bytes size e, omega (arith, w, i))

          others : (other : ℕ) → HasFaultAt text other → at ≤ other
          others other (inl p) = let w : min a most_bytes ≡ at = cc in omega (arith, w, p.1)
          others other (inr p) = pick (nat_lt other most_bytes) refl
            where
              pick : (b : Bool) → nat_lt other most_bytes ≡ b → at ≤ other
              pick true g =
                  let w : min a most_bytes ≡ at = cc in
                  let i = (tokens_err a f).1 other (among_first text (is_before most_bytes size e) other p (is_before other most_bytes g)) in
                  omega (arith, w, i)
              pick false g = let w : min a most_bytes ≡ at = cc in let i = not_before other most_bytes g in omega (arith, w, i)
      by false (Ok q) e f k = cc
      by false (Err a) e f k =
          let w : a ≡ at = cc in
          (inr (least w).0, others w)
        where
          least : a ≡ at → Least (lexed text) size at
          least w = subst (λ s. Least s size at) (until_all most_bytes text (not_before most_bytes size e)) (subst (Least first size) w (tokens_err a f))

          others : a ≡ at → (other : ℕ) → HasFaultAt text other → at ≤ other
          others w other (inl p) = let i = not_before most_bytes size e in absurd (omega (arith, p.0, i))
          others w other (inr p) = (least w).1 other p

-- ---- what the reader answers

pub answer_found : (text : Bytes) (r : Result Query ReadError) → Answers (read_of text) r → IfOk r (λ q. Is text q)
answer_found text (Ok p) h = read_found text p h
answer_found text (Err e) h = tt

pub answer_only : (text : Bytes) (r : Result Query ReadError) → Answers (read_of text) r → (q : Query) → Is text q → Reads q r
answer_only text (Ok p) h q k = let e = read_only text q k in cc
answer_only text (Err NoMemory) h q k = tt
answer_only text (Err (BadQuery at)) h q k = ok_err q at (read_of text) (read_only text q k) h

pub answer_refused : (text : Bytes) (r : Result Query ReadError) → Answers (read_of text) r → (at : ℕ) → r ≡ Err (BadQuery at) → IsRefusedAt text at
answer_refused text (Ok p) h at e = cc
answer_refused text (Err NoMemory) h at e = cc
answer_refused text (Err (BadQuery a)) h at e = let w : a ≡ at = cc in read_refused text at (h ∙ ap Err w)
