-- item { operator item } as a reader, whatever the item is. A chain may be the item of another chain.
use Rattle.std.proofs.Common.{◌≡◌, ◌≤◌, ℕ, ◌∷◌, ◌++◌, length, Ok, Err, Option, Some, None, refl, sym, ap, ◌∙◌, append_assoc, length-append, arith, ◌⊎◌, inl, inr}
use Rattle.cql_syntax.specs.declared.token.Token.{Token}
use Rattle.cql_syntax.specs.Tokens.{Tokens}
use Rattle.cql_syntax.specs.Cursor.{Outcome, Parser, at_head}
use Rattle.cql_text.specs.Reading.{and_then, chain, chain_of}
use Rattle.cql_text.specs.Rules.{Rule, ends}
use Rattle.cql_text.specs.Rules as rule
use Rattle.cql_text.proofs.Laws.{IsPlain, plain-append, GoesOnSo, rest_of, with_rest}
use Rattle.cql_text.proofs.ChainLaws.{and_then_ok, and_then_err, looks_through, chain_sound, chain_complete, chain_viable, chain_looks, goes_free, goes_stops}
use Rattle.cql_text.proofs.Readers.{Reader}

module _ {A O : Type 0} (item : Parser A) (Item : Rule A) (operator : Token → Option O) (join : O → A → A → A) (S : Tokens → Type 0) where
  abbrev Whole : Rule A
  Whole = rule.chain Item operator join

  abbrev rest_reads : A → Parser A
  rest_reads first us = chain item operator join (length us) first us

  pub chain_reader : ((x : Token) (op : O) → operator x ≡ Some op → IsPlain x) → Reader item Item S → ((x : Token) (op : O) (ts : Tokens) → operator x ≡ Some op → S (x ∷ ts)) →
      Reader (chain_of item operator join) Whole (λ rest. S rest × (at_head operator rest ≡ None))
  unfolding chain_of
  chain_reader pl r behind = record {
    sound = λ ts rest x h.
        let a = and_then_ok (item ts) rest_reads (x, rest) h in
        (a.0, a.1, r.sound ts a.1 a.0 a.2, chain_sound item Item operator join r.sound (length a.1) a.1 rest a.0 x a.3);
    complete = λ ts rest x h st.
        rw (r.complete ts h.1 h.0 h.2 (goes_stops item Item operator join S behind h.1 rest h.0 x h.3 st.0))
        (chain_complete item Item operator join S behind r.free r.complete h.1 rest h.0 x h.3 st.0 st.1 (length h.1) (omega arith));
    viable = λ ts rest h. viable r ts rest (and_then_err (item ts) rest_reads rest h);
    looks = λ ts t u h. look r ts t u (item ts) refl h;
    free = λ ts rest x h.
        let a = r.free ts h.1 h.0 h.2 in
        let b = goes_free item Item operator join pl r.free h.1 rest h.0 x h.3 in (
          a.0 ++ b.0,
          a.1 ∙ ap (λ l. a.0 ++ l) b.1 ∙ sym (append_assoc a.0 b.0 rest),
          λ after. (h.0, b.0 ++ after, rw (append_assoc a.0 b.0 after) (a.2 (b.0 ++ after)), b.2 after),
          plain-append a.0 b.0 a.3 b.3,
        );
    some = let a = r.some in (a.0, a.1, λ after. (a.1, after, a.2 after, ends after a.1));
  }
    where
      viable : Reader item Item S → (ts rest : Tokens) → (item ts ≡ Err rest) ⊎ ((x : A) × (us : Tokens) × (item ts ≡ Ok (x, us)) × (rest_reads x us ≡ Err rest)) → GoesOnSo Whole ts rest
      viable r ts rest (inl k) = let a = r.viable ts rest k in (a.0, a.1, a.2, a.3, λ after. (a.2, after, a.4 after, ends after a.2))
      viable r ts rest (inr k) =
          let a = r.free ts k.1 k.0 (r.sound ts k.1 k.0 k.2) in
          let b = chain_viable item Item operator join r.viable r.free r.sound (length k.1) k.1 rest k.0 k.3 in (
            a.0 ++ b.0,
            b.1,
            b.2,
            a.1 ∙ ap (λ l. a.0 ++ l) b.3 ∙ sym (append_assoc a.0 b.0 rest),
            λ after. (k.0, b.0 ++ (b.1 ++ after), rw (append_assoc a.0 b.0 (b.1 ++ after)) (a.2 (b.0 ++ (b.1 ++ after))), b.4 after),
          )

      within : Reader item Item S → (ts us : Tokens) (x : A) → item ts ≡ Ok (x, us) → (n : ℕ) → length ts ≤ n → length us ≤ n
      within r ts us x f n b = let a = r.free ts us x (r.sound ts us x f) in omega (arith, ap length a.1, length-append a.0 us)

      look : Reader item Item S → (ts : Tokens) (t : Token) (u : Tokens) (o : Outcome A) → item ts ≡ o → rest_of (and_then o rest_reads) ≡ t ∷ u →
          (front : Tokens) × (ts ≡ front ++ t ∷ u) × ((s : Tokens) → chain_of item operator join (front ++ t ∷ s) ≡ with_rest (and_then o rest_reads) (t ∷ s))
      look r ts t u (Err q) f h = let a = r.looks ts t u (ap rest_of f ∙ h) in (a.0, a.1, λ s. rw (a.2 s, f) refl)
      look r ts t u (Ok y) f h =
          let b = chain_looks item Item operator join (within r) r.looks (length y.1) y.1 y.0 t u (omega arith) h in
          let a = looks_through item r.looks ts y.1 y.0 f b.0 t u b.1 in
          (a.0, a.1, λ s. rw (a.2 s) (b.2 s (length (b.0 ++ t ∷ s)) (omega arith)))
