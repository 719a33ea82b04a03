-- Two rules, told apart by the next token.
use Rattle.std.proofs.Common.{◌≡◌, Bool, true, false, ◌∷◌, ◌++◌, Ok, Err, refl, ◌∙◌, inl, inr, if◌then◌else◌}
use Rattle.cql_syntax.specs.declared.token.Token.{Token}
use Rattle.cql_syntax.specs.Tokens.{Tokens}
use Rattle.cql_syntax.specs.Cursor.{Parser, next_is}
use Rattle.cql_text.specs.Reading.{choice}
use Rattle.cql_text.specs.Rules.{Rule}
use Rattle.cql_text.proofs.Laws.{GoesOnSo, StandsBy, rest_of, with_rest}
use Rattle.cql_text.specs.Rules as rule
use Rattle.cql_text.proofs.Readers.{Reader, same_next}

module _ {A : Type 0} (test : Token → Bool) (p q : Parser A) (R T : Rule A) (S : Tokens → Type 0) where
  abbrev by : Bool → Parser A
  by b ts = if b then p ts else q ts

  pub choice_reader : Reader p R S → Reader q T S → ((ts rest : Tokens) (x : A) → R ts x rest → next_is test ts ≡ true) → ((ts rest : Tokens) (x : A) → T ts x rest → next_is test ts ≡ false) →
      Reader (choice test p q) (rule.either R T) S
  unfolding choice
  choice_reader a b when unless = record {
    sound = λ ts rest x h. sound a b (next_is test ts) ts rest x h;
    complete = λ ts rest x h st. complete a b when unless ts rest x h st;
    viable = λ ts rest h. viable a b (next_is test ts) ts rest h;
    looks = λ ts u r h. look a b ts u r (next_is test ts) refl h;
    free = λ ts rest x h. free a b ts rest x h;
    some = let c = a.some in (c.0, c.1, λ after. inl (c.2 after));
  }
    where
      sound : Reader p R S → Reader q T S → (c : Bool) (ts rest : Tokens) (x : A) → by c ts ≡ Ok (x, rest) → rule.either R T ts x rest
      sound a b true ts rest x h = inl (a.sound ts rest x h)
      sound a b false ts rest x h = inr (b.sound ts rest x h)

      complete : Reader p R S → Reader q T S → ((ts rest : Tokens) (x : A) → R ts x rest → next_is test ts ≡ true) → ((ts rest : Tokens) (x : A) → T ts x rest → next_is test ts ≡ false) →
          (ts rest : Tokens) (x : A) → rule.either R T ts x rest → S rest → by (next_is test ts) ts ≡ Ok (x, rest)
      complete a b when unless ts rest x (inl h) st = rw (when ts rest x h) (a.complete ts rest x h st)
      complete a b when unless ts rest x (inr h) st = rw (unless ts rest x h) (b.complete ts rest x h st)

      viable : Reader p R S → Reader q T S → (c : Bool) (ts rest : Tokens) → by c ts ≡ Err rest → GoesOnSo (rule.either R T) ts rest
      viable a b true ts rest h = let d = a.viable ts rest h in (d.0, d.1, d.2, d.3, λ after. inl (d.4 after))
      viable a b false ts rest h = let d = b.viable ts rest h in (d.0, d.1, d.2, d.3, λ after. inr (d.4 after))

      look : Reader p R S → Reader q T S → (ts : Tokens) (u : Token) (r : Tokens) (c : Bool) → next_is test ts ≡ c → rest_of (by c ts) ≡ u ∷ r →
          (front : Tokens) × (ts ≡ front ++ u ∷ r) × ((s : Tokens) → by (next_is test (front ++ u ∷ s)) (front ++ u ∷ s) ≡ with_rest (by c ts) (u ∷ s))
      look a b ts u r true f h = let d = a.looks ts u r h in (d.0, d.1, λ s. rw (same_next test d.0 u r s ts d.1 ∙ f) (d.2 s))
      look a b ts u r false f h = let d = b.looks ts u r h in (d.0, d.1, λ s. rw (same_next test d.0 u r s ts d.1 ∙ f) (d.2 s))

      free : Reader p R S → Reader q T S → (ts rest : Tokens) (x : A) → rule.either R T ts x rest → StandsBy (rule.either R T) ts x rest
      free a b ts rest x (inl h) = let d = a.free ts rest x h in (d.0, d.1, λ after. inl (d.2 after), d.3)
      free a b ts rest x (inr h) = let d = b.free ts rest x h in (d.0, d.1, λ after. inr (d.2 after), d.3)
