-- The readers of windows decide their rules.
use Rattle.std.proofs.Common.{◌≡◌, ◌≤◌, ◌<◌, ◌^◌, nat_lt, nat_le, ℕ, Bool, true, false, ◌&&◌, ◌||◌, [], ◌∷◌, ◌++◌, Ok, Err, Option, Some, None, refl, sym, ap, ◌∙◌, subst, inl, inr, if◌then◌else◌, is_some, arith}
use Rattle.std.proofs.lemmas.Bool.Decides.{nat_tests}
use Rattle.cql_value.specs.Name.{is_name}
use Rattle.cql_syntax.specs.declared.token.Fixed.TheVariants as k
use Rattle.cql_syntax.specs.declared.token.Token.{Token}
use Rattle.cql_syntax.specs.declared.token.Token.TheVariants as t
use Rattle.cql_syntax.specs.declared.syntax.WrittenWindow.{WrittenWindow}
use Rattle.cql_syntax.specs.declared.syntax.WrittenWindow.TheVariants as w
use Rattle.cql_syntax.specs.Tokens.{Tokens, is, same, knows}
use Rattle.cql_text.specs.Meaning.{number_from, unit_of, unit_named, times, ticks_of, or_else}
use Rattle.cql_syntax.specs.Cursor.{Parser, expect, token_by, next_is}
use Rattle.cql_text.specs.Reading.{optional, and_then}
use Rattle.cql_text.specs.Rules.{Rule}
use Rattle.cql_text.specs.Rules as rule
use Rattle.cql_text.specs.Grammar as grammar
use Rattle.cql_text.specs.Grammar.{IsName, IsLength, IsRange, IsRows, IsPartition, IsWindow}
use Rattle.cql_text.specs.Readers as read
use Rattle.cql_text.proofs.Laws.{IsPlain, StandsBy, GoesOnSo, rest_of, with_rest}
use Rattle.cql_text.proofs.ChainLaws.{and_then_ok, and_then_err, same_ok, bind_looks}
use Rattle.cql_text.proofs.Readers.{Reader, Always, pure_reader, word_reader, one_reader, token_sound, token_err, token_looks, pure_looks, same_next}
use Rattle.cql_text.proofs.Parts.{Stops, Begins, first, both, both_always, made, weaken, anywhere, optional_part, optional_always, list_part, begins_word, begins_then, begins_one, begins_either, before_then, before_optional, before_pure, left_test, right_test, same_test}
use Rattle.cql_text.proofs.ChoiceReader.{choice_reader}
use Rattle.cql_text.proofs.Follow.{Test, after_length, after_window}
use Rattle.cql_text.proofs.Names.{name_reader}

-- ---- numbers and lengths

pub number_facts : (least : ℕ) (u : Token) (n : ℕ) → number_from least u ≡ Some n → (u ≡ t.Number n) × (least ≤ n) × (n < 2 ^ 62)
number_facts least (t.Number m) n h = at (nat_le least m) (nat_lt m (2 ^ 62)) refl refl h
  where
    at : (b c : Bool) → nat_le least m ≡ b → nat_lt m (2 ^ 62) ≡ c → (if b && c then Some m else None) ≡ Some n → (t.Number m ≡ t.Number n) × (least ≤ n) × (n < 2 ^ 62)
    at true true f g h =
        let e : m ≡ n = cc in
        let low : least ≤ m = grind (arith, nat_tests) in
        let high : m < 2 ^ 62 = grind (arith, nat_tests) in
        (ap t.Number e, subst (λ i. least ≤ i) e low, subst (λ i. i < 2 ^ 62) e high)
    at true false f g h = cc
    at false c f g h = cc
number_facts least (t.Fixed j) n h = cc
number_facts least (t.Word s) n h = cc
number_facts least (t.Text s) n h = cc

plain_number : (least : ℕ) (u : Token) (n : ℕ) → number_from least u ≡ Some n → IsPlain u
plain_number least u n h = let f = number_facts least u n h in subst IsPlain (sym f.0) (let g : n < 2 ^ 64 = omega (arith, f.2) in g)

pub number_known : (least n : ℕ) → least ≤ n → n < 2 ^ 62 → number_from least (t.Number n) ≡ Some n
number_known least n l h =
    let a : nat_le least n ≡ true = grind (arith, nat_tests) in
    let b : nat_lt n (2 ^ 62) ≡ true = grind (arith, nat_tests) in
    rw (a, b) refl

number_reader : (least : ℕ) → least < 2 ^ 62 → Reader (token_by (number_from least)) (rule.one (number_from least)) Always
number_reader least h = one_reader (number_from least) (t.Number least) least (number_known least least (omega arith) h) (plain_number least)

unit_is : (n : ℕ) (u : Token) (m : ℕ) → ticks_of n u ≡ Some m → knows unit_of u ≡ true
unit_is n u m h = at (unit_of u) h
  where
    at : (o : Option ℕ) → times n o ≡ Some m → is_some o ≡ true
    at None h = cc
    at (Some i) h = refl

plain_unit : (n : ℕ) (u : Token) (m : ℕ) → ticks_of n u ≡ Some m → IsPlain u
unfolding unit_of
plain_unit n (t.Word s) m h = at (is_name s) refl h
  where
    at : (b : Bool) → is_name s ≡ b → times n (if b then unit_named s else None) ≡ Some m → is_name s ≡ true
    at true f h = f
    at false f h = cc
plain_unit n (t.Fixed j) m h = cc
plain_unit n (t.Number i) m h = cc
plain_unit n (t.Text s) m h = cc

-- the unit behind a number, which may be left out: no unit may do for a number
module _ (n : ℕ) where
  abbrev Unit_rule : Rule (Option ℕ)
  Unit_rule = rule.optional (rule.one (ticks_of n))

  abbrev given : Bool → Parser (Option ℕ)
  given b ts = if b then and_then (token_by (ticks_of n) ts) (λ x us. Ok (Some x, us)) else Ok (None, ts)

  unit_reader : Reader (optional (knows unit_of) (token_by (ticks_of n))) (rule.optional (rule.one (ticks_of n))) (Stops after_length)
  unfolding optional token_by
  unit_reader = record {
    sound = λ ts rest x h. sound (next_is (knows unit_of) ts) ts rest x h;
    complete = complete;
    viable = λ ts rest h. viable (next_is (knows unit_of) ts) ts rest h;
    looks = λ ts u r h. look ts u r (next_is (knows unit_of) ts) refl h;
    free = free;
    some = ([], None, λ rest. refl);
  }
    where
      sound : (b : Bool) (ts rest : Tokens) (x : Option ℕ) → given b ts ≡ Ok (x, rest) → Unit_rule ts x rest
      sound true ts rest x h =
          let c = and_then_ok (token_by (ticks_of n) ts) (λ x us. Ok (Some x, us)) (x, rest) h in
          let d = same_ok (Some c.0) x c.1 rest (Ok (Some c.0, c.1)) refl c.3 in
          let f = token_sound (ticks_of n) ts c.1 c.0 c.2 in
          subst (λ y. Unit_rule ts y rest) d.0 (subst (λ r. Unit_rule ts (Some c.0) r) d.1 f)
      sound false ts rest x h = let d = same_ok None x ts rest (Ok (None, ts)) refl h in subst (λ y. Unit_rule ts y rest) d.0 d.1

      complete : (ts rest : Tokens) (x : Option ℕ) → Unit_rule ts x rest → Stops after_length rest → given (next_is (knows unit_of) ts) ts ≡ Ok (x, rest)
      complete ts rest None h st = rw (h, st) refl
      complete ts rest (Some x) h st = rw (h.1, unit_is n h.0 x h.2, h.2) refl

      viable : (b : Bool) (ts rest : Tokens) → given b ts ≡ Err rest → GoesOnSo Unit_rule ts rest
      viable true ts rest h = elim (and_then_err (token_by (ticks_of n) ts) (λ x us. Ok (Some x, us)) rest h) [
        | inl g ↦ ([], [], None, token_err (ticks_of n) ts rest g, λ after. refl)
        | inr g ↦ absurd (let z : ⊥ = cc in z)
      ]
      viable false ts rest h = cc

      look : (ts : Tokens) (u : Token) (r : Tokens) (b : Bool) → next_is (knows unit_of) ts ≡ b → rest_of (given b ts) ≡ u ∷ r →
          (front : Tokens) × (ts ≡ front ++ u ∷ r) × ((s : Tokens) → given (next_is (knows unit_of) (front ++ u ∷ s)) (front ++ u ∷ s) ≡ with_rest (given b ts) (u ∷ s))
      look ts u r true g h =
          let c = bind_looks (token_by (ticks_of n)) (λ x us. Ok (Some x, us)) (token_looks (ticks_of n)) (λ x. pure_looks (Some x)) ts u r h in
          (c.0, c.1, λ s. rw (same_next (knows unit_of) c.0 u r s ts c.1 ∙ g) (c.2 s))
      look ts u r false g h = ([], h, λ s. rw (same_next (knows unit_of) [] u r s ts h ∙ g) refl)

      free : (ts rest : Tokens) (x : Option ℕ) → Unit_rule ts x rest → StandsBy Unit_rule ts x rest
      free ts rest None h = ([], h, λ after. refl, tt)
      free ts rest (Some x) h = (h.0 ∷ [], h.1, λ after. (h.0, refl, h.2), (plain_unit n h.0 x h.2, tt))

length_reader : (least : ℕ) → least < 2 ^ 62 → Reader (read.length least) (IsLength least) (Stops after_length)
unfolding read.length
length_reader least h =
    first (token_by (number_from least)) (rule.one (number_from least)) _ _ (Stops after_length) (number_reader least h) (λ n.
    made (optional (knows unit_of) (token_by (ticks_of n))) (rule.optional (rule.one (ticks_of n))) (or_else n) (Stops after_length) (unit_reader n))

-- ---- windows

abbrev Unbounded : Rule WrittenWindow
Unbounded = rule.◌>>◌ (rule.word k.Unbounded) (rule.pure w.Unbounded)

unbounded_reader : Reader read.unbounded Unbounded Always
unfolding read.unbounded
unbounded_reader = first (expect k.Unbounded) (rule.word k.Unbounded) _ _ Always (word_reader k.Unbounded) (λ _. pure_reader w.Unbounded)

begins_unbounded : (test : Test) (b : Bool) → test (t.Fixed k.Unbounded) ≡ b → Begins Unbounded test b
begins_unbounded test b h = begins_then (rule.word k.Unbounded) _ test b (begins_word k.Unbounded test b h)

begins_number : (least : ℕ) (test : Test) (b : Bool) → ((n : ℕ) → test (t.Number n) ≡ b) → Begins (rule.one (number_from least)) test b
begins_number least test b g = begins_one (number_from least) test b (λ u n h. ap test (number_facts least u n h).0 ∙ g n)

abbrev TimeSlide : Rule ℕ
TimeSlide = rule.◌>>◌ (rule.word k.Slide) (IsLength 1)

abbrev RowSlide : Rule ℕ
RowSlide = rule.◌>>◌ (rule.word k.Slide) (rule.one (number_from 1))

time_slide_reader : Reader read.time_slide (rule.optional TimeSlide) (Stops after_window)
unfolding read.time_slide same
time_slide_reader =
    optional_part (is k.Slide) _ TimeSlide after_length after_window
    (first (expect k.Slide) (rule.word k.Slide) _ _ (Stops after_length) (word_reader k.Slide) (λ _. length_reader 1 (omega arith)))
    (begins_then (rule.word k.Slide) _ (is k.Slide) true (begins_word k.Slide (is k.Slide) true refl))
    (right_test (is k.Slide) after_length) (left_test (is k.Slide) after_length)

row_slide_reader : Reader read.row_slide (rule.optional RowSlide) (Stops after_window)
unfolding read.row_slide same
row_slide_reader =
    weaken (is k.Slide) after_window (left_test (is k.Slide) after_length) (optional_always (is k.Slide) _ RowSlide
    (first (expect k.Slide) (rule.word k.Slide) _ _ Always (word_reader k.Slide) (λ _. number_reader 1 (omega arith)))
    (begins_then (rule.word k.Slide) _ (is k.Slide) true (begins_word k.Slide (is k.Slide) true refl)))

abbrev Bounded : Rule WrittenWindow
Bounded = rule.◌>>=◌ (IsLength 0) (λ n. rule.◌>>=◌ (rule.optional TimeSlide) (λ slide. rule.pure (w.Range n (or_else 1 slide))))

abbrev BoundedRows : Rule WrittenWindow
BoundedRows = rule.◌>>=◌ (rule.one (number_from 1)) (λ n. rule.◌>>=◌ (rule.optional RowSlide) (λ slide. rule.pure (w.Rows n (or_else 1 slide))))

no_unit : after_length (t.Fixed k.Slide) ≡ false
unfolding unit_of
no_unit = refl

bounded_range_reader : Reader read.bounded_range Bounded (Stops after_window)
unfolding read.bounded_range
bounded_range_reader =
    both (read.length 0) (IsLength 0) _ _ after_length after_window (length_reader 0 (omega arith)) (λ n.
    made read.time_slide (rule.optional TimeSlide) (λ slide. w.Range n (or_else 1 slide)) (Stops after_window) time_slide_reader)
    (λ n. before_then (rule.optional TimeSlide) (λ slide. rule.pure (w.Range n (or_else 1 slide))) after_length after_window after_window
    (before_optional TimeSlide after_length after_window (begins_then (rule.word k.Slide) (λ _. IsLength 1) after_length false (begins_word k.Slide after_length false no_unit)) (right_test (is k.Slide) after_length))
    (λ slide. before_pure (w.Range n (or_else 1 slide)) after_window after_window (same_test after_window)))

bounded_rows_reader : Reader read.bounded_rows BoundedRows (Stops after_window)
unfolding read.bounded_rows
bounded_rows_reader =
    first (token_by (number_from 1)) (rule.one (number_from 1)) _ _ (Stops after_window) (number_reader 1 (omega arith)) (λ n.
    made read.row_slide (rule.optional RowSlide) (λ slide. w.Rows n (or_else 1 slide)) (Stops after_window) row_slide_reader)

range_reader : Reader read.range IsRange (Stops after_window)
unfolding read.range same
range_reader =
    first (expect k.Range) (rule.word k.Range) _ _ (Stops after_window) (word_reader k.Range) (λ _.
    choice_reader (is k.Unbounded) _ _ Unbounded Bounded (Stops after_window) (anywhere after_window unbounded_reader) bounded_range_reader
    (begins_unbounded (is k.Unbounded) true refl)
    (begins_then (IsLength 0) _ (is k.Unbounded) false (begins_then (rule.one (number_from 0)) _ (is k.Unbounded) false (begins_number 0 (is k.Unbounded) false (λ n. refl)))))

rows_reader : Reader read.rows IsRows (Stops after_window)
unfolding read.rows same
rows_reader =
    first (expect k.Rows) (rule.word k.Rows) _ _ (Stops after_window) (word_reader k.Rows) (λ _.
    choice_reader (is k.Unbounded) _ _ Unbounded BoundedRows (Stops after_window) (anywhere after_window unbounded_reader) bounded_rows_reader
    (begins_unbounded (is k.Unbounded) true refl)
    (begins_then (rule.one (number_from 1)) _ (is k.Unbounded) false (begins_number 1 (is k.Unbounded) false (λ n. refl))))

names_reader : Reader read.names (grammar.list_of IsName) (Stops (is k.Comma))
unfolding read.names
names_reader =
    weaken (λ x. is k.Comma x || false) (is k.Comma) (λ x h. or_false (is k.Comma x) h) (list_part read.name IsName (λ _. false) refl (anywhere (λ _. false) name_reader))
  where
    or_false : (b : Bool) → b ≡ false → (b || false) ≡ false
    or_false true h = h
    or_false false h = refl

partition_reader : Reader read.partition IsPartition Always
unfolding read.partition same
partition_reader =
    first (expect k.Partition) (rule.word k.Partition) _ _ Always (word_reader k.Partition) (λ _.
    first (expect k.By) (rule.word k.By) _ _ Always (word_reader k.By) (λ _.
    both_always read.names (grammar.list_of IsName) _ _ (is k.Comma) names_reader (λ columns.
    first (expect k.Rows) (rule.word k.Rows) _ _ Always (word_reader k.Rows) (λ _.
    made (token_by (number_from 1)) (rule.one (number_from 1)) (w.Partition columns) Always (number_reader 1 (omega arith))))
    (λ columns. begins_then (rule.word k.Rows) _ (is k.Comma) false (begins_word k.Rows (is k.Comma) false refl))))

abbrev Now : Rule WrittenWindow
Now = rule.◌>>◌ (rule.word k.Now) (rule.pure (w.Range 0 1))

now_reader : Reader read.now Now Always
unfolding read.now
now_reader = first (expect k.Now) (rule.word k.Now) _ _ Always (word_reader k.Now) (λ _. pure_reader (w.Range 0 1))

begins_range : (test : Test) (b : Bool) → test (t.Fixed k.Range) ≡ b → Begins IsRange test b
begins_range test b h = begins_then (rule.word k.Range) _ test b (begins_word k.Range test b h)

begins_rows : (test : Test) (b : Bool) → test (t.Fixed k.Rows) ≡ b → Begins IsRows test b
begins_rows test b h = begins_then (rule.word k.Rows) _ test b (begins_word k.Rows test b h)

begins_partition : (test : Test) (b : Bool) → test (t.Fixed k.Partition) ≡ b → Begins IsPartition test b
begins_partition test b h = begins_then (rule.word k.Partition) _ test b (begins_word k.Partition test b h)

pub window_reader : Reader read.window IsWindow (Stops after_window)
unfolding read.window same
window_reader =
    choice_reader (is k.Now) _ _ Now One (Stops after_window) (anywhere after_window now_reader)
    (choice_reader (is k.Unbounded) _ _ Unbounded Two (Stops after_window) (anywhere after_window unbounded_reader)
    (choice_reader (is k.Range) _ _ IsRange Three (Stops after_window) range_reader
    (choice_reader (is k.Rows) _ _ IsRows IsPartition (Stops after_window) rows_reader (anywhere after_window partition_reader)
    (begins_rows (is k.Rows) true refl) (begins_partition (is k.Rows) false refl))
    (begins_range (is k.Range) true refl) (three (is k.Range) refl refl))
    (begins_unbounded (is k.Unbounded) true refl) (two (is k.Unbounded) refl refl refl))
    (begins_then (rule.word k.Now) _ (is k.Now) true (begins_word k.Now (is k.Now) true refl))
    (begins_either Unbounded Two (is k.Now) false (begins_unbounded (is k.Now) false refl) (two (is k.Now) refl refl refl))
  where
    Three : Rule WrittenWindow
    Three = rule.either IsRows IsPartition

    Two : Rule WrittenWindow
    Two = rule.either IsRange Three

    One : Rule WrittenWindow
    One = rule.either Unbounded Two

    three : (test : Test) → test (t.Fixed k.Rows) ≡ false → test (t.Fixed k.Partition) ≡ false → Begins Three test false
    three test g h = begins_either IsRows IsPartition test false (begins_rows test false g) (begins_partition test false h)

    two : (test : Test) → test (t.Fixed k.Range) ≡ false → test (t.Fixed k.Rows) ≡ false → test (t.Fixed k.Partition) ≡ false → Begins Two test false
    two test f g h = begins_either IsRange Three test false (begins_range test false f) (three test g h)
