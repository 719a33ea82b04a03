-- A reader and its rule, put together from parts.
use Rattle.std.proofs.Common.{◌≡◌, Bool, true, false, [], ◌∷◌, ◌++◌, Ok, Err, Option, Some, None, refl, sym, ap, ◌∙◌, subst, append_assoc, ◌⊎◌, inl, inr, if◌then◌else◌, rules}
use denote.Enum.Bare.{same_true}
use Rattle.cql_syntax.specs.contracts.token.Fixed.{the_type}
use Rattle.cql_syntax.specs.declared.token.Fixed.{Fixed}
use Rattle.cql_syntax.specs.declared.token.Fixed.TheVariants as k
use Rattle.cql_syntax.specs.declared.token.Token.{Token}
use Rattle.cql_syntax.specs.declared.token.Token.TheVariants as t
use Rattle.cql_syntax.specs.Tokens.{Tokens, is, same, sign}
use Rattle.cql_syntax.specs.Cursor.{Outcome, Parser, next_is, linked, token_by, expect, sees, eat, after}
use Rattle.cql_text.specs.Reading.{and_then, optional}
use Rattle.cql_text.specs.Rules.{Rule}
use Rattle.cql_text.specs.Rules as rule
use Rattle.cql_text.proofs.Laws.{IsPlain, plain-append, IsSound, IsComplete, IsViable, IsFree, Looks, GoesOnSo, StandsBy, rest_of, with_rest}
use Rattle.cql_text.proofs.ChainLaws.{and_then_ok, and_then_err, same_ok, bind_looks}

-- ---- one token

pub token_looks : {A : Type 0} (f : Token → Option A) → Looks (token_by f)
unfolding token_by
token_looks f [] t r h = cc
token_looks {A} f (x ∷ ts) t r h = at (f x) refl h
  where
    at : (o : Option A) → f x ≡ o → rest_of (linked o (Err (x ∷ ts)) (λ a. Ok (a, ts))) ≡ t ∷ r →
        (front : Tokens) × (x ∷ ts ≡ front ++ t ∷ r) × ((s : Tokens) → token_by f (front ++ t ∷ s) ≡ with_rest (linked o (Err (x ∷ ts)) (λ a. Ok (a, ts))) (t ∷ s))
    at None e h = ([], h, λ s. let same : x ≡ t = cc in rw (← same, e) refl)
    at (Some a) e h = (x ∷ [], ap (λ l. x ∷ l) h, λ s. rw e refl)

pub token_sound : {A : Type 0} (f : Token → Option A) (ts rest : Tokens) (a : A) → token_by f ts ≡ Ok (a, rest) → (x : Token) × (ts ≡ x ∷ rest) × (f x ≡ Some a)
unfolding token_by
token_sound f [] rest a h = cc
token_sound {A} f (x ∷ ts) rest a h = at (f x) refl h
  where
    at : (o : Option A) → f x ≡ o → linked o (Err (x ∷ ts)) (λ a. Ok (a, ts)) ≡ Ok (a, rest) → (y : Token) × (x ∷ ts ≡ y ∷ rest) × (f y ≡ Some a)
    at None e h = cc
    at (Some b) e h = let s = same_ok b a ts rest (Ok (b, ts)) refl h in (x, ap (λ l. x ∷ l) s.1, e ∙ ap Some s.0)

pub token_err : {A : Type 0} (f : Token → Option A) (ts rest : Tokens) → token_by f ts ≡ Err rest → ts ≡ rest
unfolding token_by
token_err f [] rest h = cc
token_err {A} f (x ∷ ts) rest h = at (f x) h
  where
    at : (o : Option A) → linked o (Err (x ∷ ts)) (λ a. Ok (a, ts)) ≡ Err rest → x ∷ ts ≡ rest
    at None h = cc
    at (Some b) h = cc

pub pure_looks : {A : Type 0} (a : A) → Looks {A = A} (λ us. Ok (a, us))
pure_looks a ts t r h = ([], h, λ s. refl)

-- ---- words and signs

pub same_is : (a b : Fixed) → same a b ≡ true → a ≡ b
unfolding same
same_is a b h = same_true the_type (search rules) _ _ h

pub same_self : (a : Fixed) → same a a ≡ true
unfolding same
same_self k.Select = refl
same_self _ = refl

pub is_fixed : (j : Fixed) (x : Token) → is j x ≡ true → x ≡ t.Fixed j
is_fixed j (t.Fixed i) h = ap t.Fixed (same_is i j h)
is_fixed j (t.Word s) h = cc
is_fixed j (t.Number n) h = cc
is_fixed j (t.Text s) h = cc

some_then : (b : Bool) (u : Unit {0}) → (if b then Some tt else None) ≡ Some u → b ≡ true
some_then true u h = refl
some_then false u h = cc

pub expect_sound : (j : Fixed) (ts rest : Tokens) (u : Unit {0}) → expect j ts ≡ Ok (u, rest) → ts ≡ t.Fixed j ∷ rest
unfolding sign
expect_sound j ts rest u h =
    let a = token_sound (sign j) ts rest u h in
    a.1 ∙ ap (λ x. x ∷ rest) (is_fixed j a.0 (some_then (is j a.0) u a.2))

pub expect_here : (j : Fixed) (ts : Tokens) → expect j (t.Fixed j ∷ ts) ≡ Ok (tt, ts)
unfolding sign token_by
expect_here j ts = rw (same_self j) refl

pub expect_err : (j : Fixed) (ts rest : Tokens) → expect j ts ≡ Err rest → ts ≡ rest
expect_err j ts rest h = token_err (sign j) ts rest h

pub expect_looks : (j : Fixed) → Looks (expect j)
expect_looks j = token_looks (sign j)

pub same_next : (test : Token → Bool) (front : Tokens) (u : Token) (r s ts : Tokens) → ts ≡ front ++ u ∷ r → next_is test (front ++ u ∷ s) ≡ next_is test ts
same_next test [] u r s ts h = sym (ap (next_is test) h)
same_next test (v ∷ g) u r s ts h = sym (ap (next_is test) h)

-- ---- readers

-- p decides R, where it may stop only before tokens of which Stops holds. There is something of which R holds.
pub record Reader {A : Type 0} (p : Parser A) (R : Rule A) (Stops : Tokens → Type 0) : Type 0 where
  pub sound : IsSound p R
  pub complete : IsComplete p R Stops
  pub viable : IsViable p R
  pub looks : Looks p
  pub free : IsFree R
  pub some : (more : Tokens) × (x : A) × ((after : Tokens) → R (more ++ after) x after)

abbrev pub Always : Tokens → Type 0
Always _ = Unit {0}

pub pure_reader : {A : Type 0} (x : A) → Reader (λ ts. Ok (x, ts)) (rule.pure x) Always
pure_reader {A} x = record {
  sound = λ ts rest y h. same_ok x y ts rest (Ok (x, ts)) refl h;
  complete = λ ts rest y h _. rw (h.0, h.1) refl;
  viable = λ ts rest h. cc;
  looks = pure_looks x;
  free = λ ts rest y h. ([], h.1, λ after. (h.0, refl), tt);
  some = ([], x, λ after. (refl, refl));
}

pub word_reader : (j : Fixed) → Reader (expect j) (rule.word j) Always
word_reader j = record {
  sound = λ ts rest u h. expect_sound j ts rest u h;
  complete = λ ts rest u h _. rw (h, expect_here j rest) refl;
  viable = λ ts rest h. ([], t.Fixed j ∷ [], tt, expect_err j ts rest h, λ after. refl);
  looks = expect_looks j;
  free = λ ts rest u h. (t.Fixed j ∷ [], h, λ after. refl, (tt, tt));
  some = (t.Fixed j ∷ [], tt, λ after. refl);
}

module _ {A B : Type 0} (p : Parser A) (R : Rule A) (S : Tokens → Type 0) (f : A → Parser B) (T : A → Rule B) (S' : Tokens → Type 0) where
  pub then_reader : Reader p R S → ((x : A) → Reader (f x) (T x) S') → ((x : A) (us rest : Tokens) (y : B) → T x us y rest → S' rest → S us) →
      Reader (λ ts. and_then (p ts) f) (rule.◌>>=◌ R T) S'
  then_reader a b follows = record {
    sound = λ ts rest y h.
        let c = and_then_ok (p ts) f (y, rest) h in
        (c.0, c.1, a.sound ts c.1 c.0 c.2, (b c.0).sound c.1 rest y c.3);
    complete = λ ts rest y h st.
        rw (a.complete ts h.1 h.0 h.2 (follows h.0 h.1 rest y h.3 st)) ((b h.0).complete h.1 rest y h.3 st);
    viable = λ ts rest h. then_viable a b ts rest (and_then_err (p ts) f rest h);
    looks = bind_looks p f a.looks (λ x. (b x).looks);
    free = λ ts rest y h.
        let c = a.free ts h.1 h.0 h.2 in
        let d = (b h.0).free h.1 rest y h.3 in (
          c.0 ++ d.0,
          c.1 ∙ ap (λ l. c.0 ++ l) d.1 ∙ sym (append_assoc c.0 d.0 rest),
          λ after. (h.0, d.0 ++ after, rw (append_assoc c.0 d.0 after) (c.2 (d.0 ++ after)), d.2 after),
          plain-append c.0 d.0 c.3 d.3,
        );
    some =
        let c = a.some in
        let d = (b c.1).some in
        (c.0 ++ d.0, d.1, λ after. (c.1, d.0 ++ after, rw (append_assoc c.0 d.0 after) (c.2 (d.0 ++ after)), d.2 after));
  }
    where
      then_viable : Reader p R S → ((x : A) → Reader (f x) (T x) S') → (ts rest : Tokens) → (p ts ≡ Err rest) ⊎ ((x : A) × (us : Tokens) × (p ts ≡ Ok (x, us)) × (f x us ≡ Err rest)) → GoesOnSo (rule.◌>>=◌ R T) ts rest
      then_viable a b ts rest (inl g) =
          let c = a.viable ts rest g in
          let d = (b c.2).some in
          (c.0, c.1 ++ d.0, d.1, c.3, λ after. (c.2, d.0 ++ after, rw (append_assoc c.1 d.0 after) (c.4 (d.0 ++ after)), d.2 after))
      then_viable a b ts rest (inr g) =
          let c = a.free ts g.1 g.0 (a.sound ts g.1 g.0 g.2) in
          let d = (b g.0).viable g.1 rest g.3 in (
            c.0 ++ d.0,
            d.1,
            d.2,
            c.1 ∙ ap (λ l. c.0 ++ l) d.3 ∙ sym (append_assoc c.0 d.0 rest),
            λ after. (g.0, d.0 ++ (d.1 ++ after), rw (append_assoc c.0 d.0 (d.1 ++ after)) (c.2 (d.0 ++ (d.1 ++ after))), d.4 after),
          )

-- one token that means something
pub one_reader : {A : Type 0} (f : Token → Option A) (x : Token) (a : A) → f x ≡ Some a → ((u : Token) (y : A) → f u ≡ Some y → IsPlain u) → Reader (token_by f) (rule.one f) Always
unfolding token_by
one_reader f x a known plain = record {
  sound = λ ts rest y h. token_sound f ts rest y h;
  complete = λ ts rest y h _. rw (h.1, h.2) refl;
  viable = λ ts rest h. ([], x ∷ [], a, token_err f ts rest h, λ after. (x, refl, known));
  looks = token_looks f;
  free = λ ts rest y h. (h.0 ∷ [], h.1, λ after. (h.0, refl, h.2), (plain h.0 y h.2, tt));
  some = (x ∷ [], a, λ after. (x, refl, known));
}

-- ---- what may be left out

module _ {A : Type 0} (test : Token → Bool) (p : Parser A) (R : Rule A) (S : Tokens → Type 0) where
  abbrev Stops : Tokens → Type 0
  Stops rest = S rest × (next_is test rest ≡ false)

  abbrev given : Bool → Parser (Option A)
  given b ts = if b then and_then (p ts) (λ x us. Ok (Some x, us)) else Ok (None, ts)

  pub optional_reader : Reader p R S → ((ts rest : Tokens) (x : A) → R ts x rest → next_is test ts ≡ true) → Reader (optional test p) (rule.optional R) Stops
  unfolding optional
  optional_reader a begins = record {
    sound = λ ts rest x h. sound a (next_is test ts) ts rest x h;
    complete = λ ts rest x h st. complete a begins ts rest x h st;
    viable = λ ts rest h. viable a (next_is test ts) ts rest h;
    looks = λ ts u r h. look a ts u r (next_is test ts) refl h;
    free = λ ts rest x h. free a ts rest x h;
    some = ([], None, λ rest. refl);
  }
    where
      sound : Reader p R S → (b : Bool) (ts rest : Tokens) (x : Option A) → given b ts ≡ Ok (x, rest) → rule.optional R ts x rest
      sound a true ts rest x h =
          let c = and_then_ok (p ts) (λ x us. Ok (Some x, us)) (x, rest) h in
          let d = same_ok (Some c.0) x c.1 rest (Ok (Some c.0, c.1)) refl c.3 in
          subst (λ y. rule.optional R ts y rest) d.0 (subst (λ r. R ts c.0 r) d.1 (a.sound ts c.1 c.0 c.2))
      sound a false ts rest x h = let d = same_ok None x ts rest (Ok (None, ts)) refl h in subst (λ y. rule.optional R ts y rest) d.0 d.1

      complete : Reader p R S → ((ts rest : Tokens) (x : A) → R ts x rest → next_is test ts ≡ true) → (ts rest : Tokens) (x : Option A) → rule.optional R ts x rest → Stops rest → given (next_is test ts) ts ≡ Ok (x, rest)
      complete a begins ts rest None h st = rw (h, st.1) refl
      complete a begins ts rest (Some x) h st = rw (begins ts rest x h, a.complete ts rest x h st.0) refl

      viable : Reader p R S → (b : Bool) (ts rest : Tokens) → given b ts ≡ Err rest → GoesOnSo (rule.optional R) ts rest
      viable a true ts rest h = elim (and_then_err (p ts) (λ x us. Ok (Some x, us)) rest h) [
        | inl f ↦ (let c = a.viable ts rest f in (c.0, c.1, Some c.2, c.3, c.4))
        | inr f ↦ absurd (let z : ⊥ = cc in z)
      ]
      viable a false ts rest h = cc

      look : Reader p R S → (ts : Tokens) (u : Token) (r : Tokens) (b : Bool) → next_is test ts ≡ b → rest_of (given b ts) ≡ u ∷ r →
          (front : Tokens) × (ts ≡ front ++ u ∷ r) × ((s : Tokens) → given (next_is test (front ++ u ∷ s)) (front ++ u ∷ s) ≡ with_rest (given b ts) (u ∷ s))
      look a ts u r true f h =
          let c = bind_looks p (λ x us. Ok (Some x, us)) a.looks (λ x. pure_looks (Some x)) ts u r h in
          (c.0, c.1, λ s. rw (same_next test c.0 u r s ts c.1 ∙ f) (c.2 s))
      look a ts u r false f h = ([], h, λ s. rw (same_next test [] u r s ts h ∙ f) refl)

      free : Reader p R S → (ts rest : Tokens) (x : Option A) → rule.optional R ts x rest → StandsBy (rule.optional R) ts x rest
      free a ts rest None h = ([], h, λ after. refl, tt)
      free a ts rest (Some x) h = a.free ts rest x h

abbrev eaten : Bool → Tokens → Outcome Bool
eaten b ts = Ok (b, ts)

pub may_reader : (j : Fixed) → Reader (eat j) (rule.may j) (λ rest. sees j rest ≡ false)
unfolding after
may_reader j = record {
  sound = sound;
  complete = complete;
  viable = λ ts rest h. cc;
  looks = looks;
  free = free;
  some = ([], false, λ rest. refl);
}
  where
    sound : IsSound (eat j) (rule.may j)
    sound [] rest x h = let d = same_ok false x [] rest (Ok (false, [])) refl h in subst (λ y. rule.may j [] y rest) d.0 d.1
    sound (u ∷ ts) rest x h = at (is j u) refl h
      where
        at : (b : Bool) → is j u ≡ b → eaten b (if b then ts else u ∷ ts) ≡ Ok (x, rest) → rule.may j (u ∷ ts) x rest
        at true f h = let d = same_ok true x ts rest (Ok (true, ts)) refl h in subst (λ y. rule.may j (u ∷ ts) y rest) d.0 (ap (λ w. w ∷ ts) (is_fixed j u f) ∙ ap (λ r. t.Fixed j ∷ r) d.1)
        at false f h = let d = same_ok false x (u ∷ ts) rest (Ok (false, u ∷ ts)) refl h in subst (λ y. rule.may j (u ∷ ts) y rest) d.0 d.1

    complete : IsComplete (eat j) (rule.may j) (λ rest. sees j rest ≡ false)
    complete ts rest true h st = rw (h, same_self j) refl
    complete ts rest false h st = rw (h, st) refl

    looks : Looks (eat j)
    looks [] u r h = cc
    looks (v ∷ ts) u r h = at (is j v) refl h
      where
        at : (b : Bool) → is j v ≡ b → (if b then ts else v ∷ ts) ≡ u ∷ r → (front : Tokens) × (v ∷ ts ≡ front ++ u ∷ r) × ((s : Tokens) → eat j (front ++ u ∷ s) ≡ eaten b (u ∷ s))
        at true f h = (v ∷ [], ap (λ l. v ∷ l) h, λ s. rw f refl)
        at false f h = ([], h, λ s. let w : v ≡ u = cc in rw (← w, f) refl)

    free : IsFree (rule.may j)
    free ts rest true h = (t.Fixed j ∷ [], h, λ after. refl, (tt, tt))
    free ts rest false h = ([], h, λ after. refl, tt)
