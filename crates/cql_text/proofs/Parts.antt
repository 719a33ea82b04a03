-- Readers put together: what may follow, and what begins a rule.
use Rattle.std.proofs.Common.{◌≡◌, Bool, true, false, ◌||◌, [], ◌∷◌, Ok, Option, Some, None, refl, sym, ap, ◌∙◌, subst, inl, inr, if◌then◌else◌, is_some}
use Rattle.cql_syntax.specs.declared.token.Fixed.{Fixed}
use Rattle.cql_syntax.specs.declared.token.Fixed.TheVariants as k
use Rattle.cql_syntax.specs.declared.token.Token.{Token}
use Rattle.cql_syntax.specs.declared.token.Token.TheVariants as t
use Rattle.cql_syntax.specs.Tokens.{Tokens, is, sign, knows, joined}
use Rattle.cql_syntax.specs.Cursor.{Parser, next_is, at_head}
use Rattle.cql_text.specs.Reading.{and_then, optional, chain_of, list_of, single}
use Rattle.cql_text.specs.Rules.{Rule}
use Rattle.cql_text.specs.Rules as rule
use Rattle.cql_text.specs.Grammar as grammar
use Rattle.cql_text.proofs.Laws.{IsPlain}
use Rattle.cql_text.proofs.Readers.{Reader, Always, pure_reader, then_reader, optional_reader, is_fixed}
use Rattle.cql_text.proofs.ChainReader.{chain_reader}

-- the next token fails the test
abbrev pub Stops : (Token → Bool) → Tokens → Type 0
Stops test rest = next_is test rest ≡ false

abbrev pub Narrow : (Token → Bool) → (Token → Bool) → Type 0
Narrow t s = (x : Token) → t x ≡ false → s x ≡ false

pub narrow : (t s : Token → Bool) → Narrow t s → (rest : Tokens) → Stops t rest → Stops s rest
narrow t s h [] e = refl
narrow t s h (x ∷ r) e = h x e

pub or_left : (a b : Bool) → (a || b) ≡ false → a ≡ false
or_left true b h = cc
or_left false b h = refl

pub or_right : (a b : Bool) → (a || b) ≡ false → b ≡ false
or_right true b h = cc
or_right false b h = h

pub same_test : (t : Token → Bool) → Narrow t t
same_test t x h = h

pub left_test : (t s : Token → Bool) → Narrow (λ x. t x || s x) t
left_test t s x h = or_left (t x) (s x) h

pub right_test : (t s : Token → Bool) → Narrow (λ x. t x || s x) s
right_test t s x h = or_right (t x) (s x) h

-- what begins with R, or comes after it, fails the test
abbrev pub Before : {A : Type 0} → Rule A → (Token → Bool) → (Token → Bool) → Type 0
Before {A} R s t = (ts rest : Tokens) (x : A) → R ts x rest → Stops t rest → Stops s ts

-- R begins with a token of which the test is b
abbrev pub Begins : {A : Type 0} → Rule A → (Token → Bool) → Bool → Type 0
Begins {A} R test b = (ts rest : Tokens) (x : A) → R ts x rest → next_is test ts ≡ b

pub weaken : {A : Type 0} {p : Parser A} {R : Rule A} (s t : Token → Bool) → Narrow t s → Reader p R (Stops s) → Reader p R (Stops t)
weaken s t h r = record {
  sound = r.sound;
  complete = λ ts rest x g st. r.complete ts rest x g (narrow t s h rest st);
  viable = r.viable;
  looks = r.looks;
  free = r.free;
  some = r.some;
}

pub anywhere : {A : Type 0} {p : Parser A} {R : Rule A} (t : Token → Bool) → Reader p R Always → Reader p R (Stops t)
anywhere t r = record {
  sound = r.sound;
  complete = λ ts rest x g st. r.complete ts rest x g tt;
  viable = r.viable;
  looks = r.looks;
  free = r.free;
  some = r.some;
}

module _ {A B : Type 0} (p : Parser A) (R : Rule A) (f : A → Parser B) (T : A → Rule B) where
  -- one after another, where the first may stop anywhere
  pub first : (S : Tokens → Type 0) → Reader p R Always → ((x : A) → Reader (f x) (T x) S) → Reader (λ ts. and_then (p ts) f) (rule.◌>>=◌ R T) S
  first S a b = then_reader p R Always f T S a b (λ _ _ _ _ _ _. tt)

  -- one after another
  pub both : (s t : Token → Bool) → Reader p R (Stops s) → ((x : A) → Reader (f x) (T x) (Stops t)) → ((x : A) → Before (T x) s t) → Reader (λ ts. and_then (p ts) f) (rule.◌>>=◌ R T) (Stops t)
  both s t a b follows = then_reader p R (Stops s) f T (Stops t) a b (λ x us rest y h st. follows x us rest y h st)

  pub both_always : (s : Token → Bool) → Reader p R (Stops s) → ((x : A) → Reader (f x) (T x) Always) → ((x : A) → Begins (T x) s false) → Reader (λ ts. and_then (p ts) f) (rule.◌>>=◌ R T) Always
  both_always s a b follows = then_reader p R (Stops s) f T Always a b (λ x us rest y h st. follows x us rest y h)

module _ {A B : Type 0} (p : Parser A) (R : Rule A) (f : A → B) where
  -- what is made of what is read
  pub made : (S : Tokens → Type 0) → Reader p R S → Reader (λ ts. and_then (p ts) (λ x us. Ok (f x, us))) (rule.◌>>=◌ R (λ x. rule.pure (f x))) S
  made S a = then_reader p R S (λ x us. Ok (f x, us)) (λ x. rule.pure (f x)) S a (λ x. pure_in x) (λ x us rest y h st. subst S (sym h.1) st)
    where
      pure_in : (x : A) → Reader (λ ts. Ok (f x, ts)) (rule.pure (f x)) S
      pure_in x = let r = pure_reader (f x) in record {
        sound = r.sound;
        complete = λ ts rest y h st. r.complete ts rest y h tt;
        viable = r.viable;
        looks = r.looks;
        free = r.free;
        some = r.some;
      }

-- what is pure, where it may stop
pub pure_at : {B : Type 0} (t : Token → Bool) (y : B) → Reader (λ ts. Ok (y, ts)) (rule.pure y) (Stops t)
pure_at t y = anywhere t (pure_reader y)

-- ---- what comes before

pub before_pure : {B : Type 0} (y : B) (s t : Token → Bool) → Narrow t s → Before (rule.pure y) s t
before_pure y s t h ts rest x g st = subst (λ us. Stops s us) (sym g.1) (narrow t s h rest st)

pub begins_word : (j : Fixed) (test : Token → Bool) (b : Bool) → test (t.Fixed j) ≡ b → Begins (rule.word j) test b
begins_word j test b e ts rest x h = ap (next_is test) h ∙ e

pub begins_then : {A B : Type 0} (R : Rule A) (T : A → Rule B) (test : Token → Bool) (b : Bool) → Begins R test b → Begins (rule.◌>>=◌ R T) test b
begins_then R T test b g ts rest y h = g ts h.1 h.0 h.2

pub begins_one : {A : Type 0} (f : Token → Option A) (test : Token → Bool) (b : Bool) → ((u : Token) (a : A) → f u ≡ Some a → test u ≡ b) → Begins (rule.one f) test b
begins_one f test b g ts rest x h = ap (next_is test) h.1 ∙ g h.0 x h.2

pub begins_chain : {A O : Type 0} (Item : Rule A) (operator : Token → Option O) (join : O → A → A → A) (test : Token → Bool) (b : Bool) → Begins Item test b → Begins (rule.chain Item operator join) test b
begins_chain Item operator join test b g ts rest x h = g ts h.1 h.0 h.2

pub begins_either : {A : Type 0} (R T : Rule A) (test : Token → Bool) (b : Bool) → Begins R test b → Begins T test b → Begins (rule.either R T) test b
begins_either R T test b f g ts rest x (inl h) = f ts rest x h
begins_either R T test b f g ts rest x (inr h) = g ts rest x h

pub before_begins : {A : Type 0} (R : Rule A) (s t : Token → Bool) → Begins R s false → Before R s t
before_begins R s t g ts rest x h st = g ts rest x h

pub before_then : {A B : Type 0} (R : Rule A) (T : A → Rule B) (s u t : Token → Bool) → Before R s u → ((x : A) → Before (T x) u t) → Before (rule.◌>>=◌ R T) s t
before_then R T s u t f g ts rest y h st = f ts h.1 h.0 h.2 (g h.0 h.1 rest y h.3 st)

pub before_optional : {A : Type 0} (R : Rule A) (s t : Token → Bool) → Begins R s false → Narrow t s → Before (rule.optional R) s t
before_optional R s t g n ts rest None h st = subst (λ us. Stops s us) (sym h) (narrow t s n rest st)
before_optional R s t g n ts rest (Some x) h st = g ts rest x h

pub before_may : (j : Fixed) (s w : Token → Bool) → s (t.Fixed j) ≡ false → Narrow w s → Before (rule.may j) s w
before_may j s w e n ts rest false h st = subst (λ us. Stops s us) (sym h) (narrow w s n rest st)
before_may j s w e n ts rest true h st = ap (next_is s) h ∙ e

-- ---- optional parts, choices and chains

pub optional_part : {A : Type 0} (test : Token → Bool) (p : Parser A) (R : Rule A) (s t : Token → Bool) → Reader p R (Stops s) → Begins R test true → Narrow t s → Narrow t test → Reader (optional test p) (rule.optional R) (Stops t)
optional_part test p R s t a begins m n =
    let r = optional_reader test p R (Stops s) a begins in
    record {
      sound = r.sound;
      complete = λ ts rest x g st. r.complete ts rest x g (narrow t s m rest st, narrow t test n rest st);
      viable = r.viable;
      looks = r.looks;
      free = r.free;
      some = r.some;
    }

pub optional_always : {A : Type 0} (test : Token → Bool) (p : Parser A) (R : Rule A) → Reader p R Always → Begins R test true → Reader (optional test p) (rule.optional R) (Stops test)
optional_always test p R a begins =
    let r = optional_reader test p R Always a begins in
    record {
      sound = r.sound;
      complete = λ ts rest x g st. r.complete ts rest x g (tt, st);
      viable = r.viable;
      looks = r.looks;
      free = r.free;
      some = r.some;
    }

unknown : {O : Type 0} (f : Token → Option O) (x : Token) → knows f x ≡ false → f x ≡ None
unknown {O} f x h = at (f x) h
  where
    at : (o : Option O) → is_some o ≡ false → o ≡ None
    at None e = refl
    at (Some a) e = cc

pub no_operator : {O : Type 0} (f : Token → Option O) (rest : Tokens) → Stops (knows f) rest → at_head f rest ≡ None
no_operator f [] h = refl
no_operator f (x ∷ r) h = unknown f x h

pub chain_part : {A O : Type 0} (item : Parser A) (Item : Rule A) (operator : Token → Option O) (join : O → A → A → A) (s : Token → Bool) →
    ((x : Token) (op : O) → operator x ≡ Some op → IsPlain x × (s x ≡ false)) → Reader item Item (Stops s) → Reader (chain_of item operator join) (rule.chain Item operator join) (Stops (λ x. knows operator x || s x))
chain_part item Item operator join s plain a =
    let r = chain_reader item Item operator join (Stops s) (λ x op e. (plain x op e).0) a (λ x op ts e. (plain x op e).1) in
    record {
      sound = r.sound;
      complete = λ ts rest x g st. r.complete ts rest x g (narrow _ _ (right_test (knows operator) s) rest st, no_operator operator rest (narrow _ _ (left_test (knows operator) s) rest st));
      viable = r.viable;
      looks = r.looks;
      free = r.free;
      some = r.some;
    }

some_sign : (b : Bool) (u : Unit {0}) → (if b then Some tt else None) ≡ Some u → b ≡ true
some_sign true u h = refl
some_sign false u h = cc

-- a token that is one word or sign
pub sign_is : (j : Fixed) (x : Token) (u : Unit {0}) → sign j x ≡ Some u → x ≡ t.Fixed j
unfolding sign
sign_is j x u h = is_fixed j x (some_sign (is j x) u h)

abbrev tested : Bool → Option (Unit {0})
tested b = if b then Some tt else None

knows_sign : (b : Bool) → is_some (tested b) ≡ b
knows_sign true = refl
knows_sign false = refl

pub sign_known : (j : Fixed) (x : Token) → knows (sign j) x ≡ is j x
unfolding sign
sign_known j x = knows_sign (is j x)

pub plain_sign : (j : Fixed) (s : Token → Bool) → s (t.Fixed j) ≡ false → (x : Token) (op : Unit {0}) → sign j x ≡ Some op → IsPlain x × (s x ≡ false)
plain_sign j s e x op h = let f = sign_is j x op h in (subst IsPlain (sym f) tt, ap s f ∙ e)

pub list_part : {A : Type 0} (item : Parser A) (Item : Rule A) (s : Token → Bool) → s (t.Fixed k.Comma) ≡ false → Reader item Item (Stops s) → Reader (list_of item) (grammar.list_of Item) (Stops (λ x. is k.Comma x || s x))
unfolding list_of
list_part {A} item Item s e a =
    weaken (λ x. knows (sign k.Comma) x || s x) (λ x. is k.Comma x || s x) (λ x h. ap (λ b. b || s x) (sign_known k.Comma x) ∙ h)
    (chain_part (single item) (rule.◌>>=◌ Item (λ x. rule.pure (x ∷ []))) (sign k.Comma) joined s (plain_sign k.Comma s e) (made item Item (λ x. x ∷ []) (Stops s) a))
