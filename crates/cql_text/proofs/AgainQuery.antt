-- What some tokens are, its canonical spelling is too: items, windows, blocks and queries.
use Rattle.std.proofs.Common.{◌≡◌, ◌≤◌, ◌<◌, ◌^◌, ◌*◌, ℕ, zero, suc, pos, nat_lt, Bool, true, false, ◌&&◌, ◌==◌, if◌then◌else◌, List, [], ◌∷◌, ◌++◌, Option, Some, None, refl, sym, ap, ◌∙◌, subst, append-nil, inl, inr, arith, codes, mul-suc}
use Rattle.std.proofs.lemmas.Bool.Decides.{nat_tests}
use Rattle.cql_value.specs.Name.{is_name}
use Rattle.cql_syntax.specs.declared.token.Fixed.{Fixed}
use Rattle.cql_syntax.specs.declared.token.Fixed.TheVariants as k
use Rattle.cql_syntax.specs.declared.token.Token.{Token}
use Rattle.cql_syntax.specs.declared.token.Token.TheVariants as t
use Rattle.cql_syntax.specs.declared.syntax.QualifiedName.{QualifiedName}
use Rattle.cql_syntax.specs.declared.syntax.Aggregate.TheVariants as a
use Rattle.cql_syntax.specs.declared.syntax.Selection.{Selection}
use Rattle.cql_syntax.specs.declared.syntax.WrittenWindow.{WrittenWindow}
use Rattle.cql_syntax.specs.declared.syntax.WrittenWindow.TheVariants as w
use Rattle.cql_syntax.specs.declared.syntax.Input.{Input}
use Rattle.cql_syntax.specs.declared.syntax.Condition.{Condition}
use Rattle.cql_syntax.specs.declared.syntax.SelectBlock.{SelectBlock}
use Rattle.cql_syntax.specs.declared.syntax.Second.{Second}
use Rattle.cql_syntax.specs.declared.syntax.StreamOperator.{StreamOperator}
use Rattle.cql_syntax.specs.declared.syntax.Query.{Query}
use Rattle.cql_syntax.specs.Tokens.{Tokens}
use Rattle.cql_syntax.specs.Operators.{function_of, set_operator_of, stream_operator_of}
use Rattle.cql_text.specs.Meaning.{number_from, unit_named, unit_of, times, ticks_of, or_else, or_unbounded, or_empty, to_list, is_either}
use Rattle.cql_text.specs.Rules.{Rule}
use Rattle.cql_text.specs.Rules as rule
use Rattle.cql_text.specs.Grammar as grammar
use Rattle.cql_text.specs.Grammar.{IsName, IsColumn, IsCondition, most_levels, IsCount, IsOver, IsShown, IsItem, IsSelection, IsLength, IsPartition, IsWindow, IsInput, IsInputs, IsRest, IsSelected, IsBlock, IsSecond, IsOuter, IsInner, IsWhole, Spells, query_of}
use Rattle.cql_syntax.specs.Spelling.{symbol, number, Pieces, pieces_tokens, spell_name, function_word, spell_aggregate, spell_shown, spell_alias, spell_item, spell_selection, spell_slide, spell_range, spell_plain, spell_window, spell_input, separated, following, spell_condition, spell_where, spell_groups, spell_distinct, spell_block, set_word, spell_second, stream_word, spell_query}
use Rattle.cql_text.proofs.ItemLaws.{function_is}
use Rattle.cql_text.proofs.WindowLaws.{number_facts, number_known}
use Rattle.cql_text.proofs.BlockLaws.{set_is, stream_is}
use Rattle.cql_text.proofs.Again.{onto, onto-append, onto_tokens, Again, one_again, list_again, list_some, name_again, column_again, expression_again, condition_again}

-- ---- items

over_again : Again IsOver spell_aggregate
over_again ts rest x h after =
    let function = h.0 in
    let column = h.3.3.0 in
    let tail = onto (spell_name column) (t.Fixed k.Close ∷ after) in
    subst (λ y. IsOver (onto (spell_aggregate y) after) y after) h.3.3.3.3.0
    (subst (λ us. IsOver us (a.Over function column) after) (ap (λ us. t.Fixed (function_word function) ∷ t.Fixed k.Open ∷ us) (sym (onto-append (spell_name column) (symbol k.Close ∷ []) after))) (
      function,
      t.Fixed k.Open ∷ tail,
      one_again function_of (λ f. t.Fixed (function_word f)) function_is ts h.1 function h.2 (t.Fixed k.Open ∷ tail),
      (tt, tail, refl, (column, t.Fixed k.Close ∷ after, column_again h.3.1 h.3.3.1 column h.3.3.2 (t.Fixed k.Close ∷ after), (tt, after, refl, (refl, refl)))),
    ))

count_again : Again IsCount spell_aggregate
count_again ts rest x h after =
    subst (λ y. IsCount (onto (spell_aggregate y) after) y after) h.3.3.3.3.0 (tt, _, refl, (tt, _, refl, (tt, _, refl, (tt, _, refl, (refl, refl)))))

aggregate_again : Again (rule.either IsCount IsOver) spell_aggregate
aggregate_again ts rest x (inl h) after = inl (count_again ts rest x h after)
aggregate_again ts rest x (inr h) after = inr (over_again ts rest x h after)

shown_again : Again IsShown spell_shown
shown_again ts rest x (inl h) after = subst (λ y. IsShown (onto (spell_shown y) after) y after) h.3.0 (inl (h.0, after, aggregate_again ts h.1 h.0 h.2 after, (refl, refl)))
shown_again ts rest x (inr h) after = subst (λ y. IsShown (onto (spell_shown y) after) y after) h.3.0 (inr (h.0, after, expression_again most_levels ts h.1 h.0 h.2 after, (refl, refl)))

abbrev Behind : Fixed → Rule (List ℕ)
Behind j = rule.◌>>◌ (rule.word j) IsName

alias_again : (ts rest : Tokens) (x : Option (List ℕ)) → rule.optional (Behind k.As) ts x rest → (after : Tokens) → rule.optional (Behind k.As) (onto (spell_alias x) after) x after
alias_again ts rest None h after = refl
alias_again ts rest (Some s) h after = (tt, t.Word s ∷ after, refl, name_again h.1 rest s h.3 after)

item_again : Again IsItem spell_item
unfolding spell_item
item_again ts rest x h after =
    let shown = h.0 in
    let alias = h.3.0 in
    subst (λ y. IsItem (onto (spell_item y) after) y after) h.3.3.0
    (subst (λ us. IsItem us (record { shown = shown; alias = alias }) after) (sym (onto-append (spell_shown shown) (spell_alias alias) after))
    (shown, onto (spell_alias alias) after, shown_again ts h.1 shown h.2 (onto (spell_alias alias) after), (alias, after, alias_again h.1 h.3.1 alias h.3.2 after, (refl, refl))))

selection_again : Again IsSelection spell_selection
selection_again ts rest x (inl h) after = subst (λ y. IsSelection (onto (spell_selection y) after) y after) h.3.0 (inl (tt, after, refl, (refl, refl)))
selection_again ts rest x (inr h) after =
    subst (λ y. IsSelection (onto (spell_selection y) after) y after) h.3.0 (inr (h.0, after, list_again IsItem spell_item item_again ts h.1 h.0 h.2 after, (refl, refl)))

-- ---- lengths

unit_least : (s : List ℕ) (u : ℕ) → unit_named s ≡ Some u → 1 ≤ u
unfolding unit_named
unit_least s u h = at (is_either s (codes "second") (codes "seconds")) (is_either s (codes "minute") (codes "minutes")) (is_either s (codes "hour") (codes "hours")) (is_either s (codes "day") (codes "days")) h
  where
    at : (p q r v : Bool) → (if p then Some 1 else (if q then Some 60 else (if r then Some 3600 else (if v then Some 86400 else None)))) ≡ Some u → 1 ≤ u
    at true q r v g = let e : 1 ≡ u = cc in omega (arith, e)
    at false true r v g = let e : 60 ≡ u = cc in omega (arith, e)
    at false false true v g = let e : 3600 ≡ u = cc in omega (arith, e)
    at false false false true g = let e : 86400 ≡ u = cc in omega (arith, e)
    at false false false false g = cc

unit_known : (x : Token) (u : ℕ) → unit_of x ≡ Some u → 1 ≤ u
unfolding unit_of
unit_known (t.Word s) u h = at (is_name s) h
  where
    at : (b : Bool) → (if b then unit_named s else None) ≡ Some u → 1 ≤ u
    at true g = unit_least s u g
    at false g = cc
unit_known (t.Fixed j) u h = cc
unit_known (t.Number n) u h = cc
unit_known (t.Text s) u h = cc

abbrev InRange : ℕ → ℕ → Type 0
InRange least n = (least ≤ n) × (n < 2 ^ 62)

grown : (n u : ℕ) → 1 ≤ u → n ≤ n * u
grown n zero h = absurd (omega arith)
grown n (suc u) h = rw mul-suc (omega arith)

ticks_fit : (least n m : ℕ) (x : Token) → least ≤ n → ticks_of n x ≡ Some m → InRange least m
ticks_fit least n m x l h = at (unit_of x) refl h
  where
    by : (u : ℕ) → 1 ≤ u → (b : Bool) → nat_lt (n * u) (2 ^ 62) ≡ b → (if b then Some (n * u) else None) ≡ Some m → InRange least m
    by u p true e g =
        let q : n * u ≡ m = cc in
        let r = grown n u p in
        let v : n * u < 2 ^ 62 = grind (arith, nat_tests) in
        (omega (arith, q, r, l), omega (arith, q, v))
    by u p false e g = cc

    at : (o : Option ℕ) → unit_of x ≡ o → times n o ≡ Some m → InRange least m
    at None e g = cc
    at (Some u) e g = by u (unit_known x u e) (nat_lt (n * u) (2 ^ 62)) refl g

length_fits : (least : ℕ) (ts rest : Tokens) (x : ℕ) → IsLength least ts x rest → InRange least x
length_fits least ts rest x h = at h.3.0 h.3.2 h.3.3.0
  where
    n : ℕ
    n = h.0

    facts : InRange least h.0
    facts = let f = number_facts least h.2.0 h.0 h.2.2 in (f.1, f.2)

    at : (ticks : Option ℕ) → rule.optional (rule.one (ticks_of h.0)) h.1 ticks h.3.1 → or_else h.0 ticks ≡ x → InRange least x
    at None g q = subst (InRange least) q facts
    at (Some m) g q = subst (InRange least) q (ticks_fit least h.0 m g.0 facts.0 g.2)

number_fits : (least : ℕ) (ts rest : Tokens) (x : ℕ) → rule.one (number_from least) ts x rest → InRange least x
number_fits least ts rest x h = let f = number_facts least h.0 x h.2 in (f.1, f.2)

-- a number is a length in ticks
number_here : (least n : ℕ) → InRange least n → (after : Tokens) → rule.one (number_from least) (t.Number n ∷ after) n after
number_here least n h after = (t.Number n, refl, number_known least n h.0 h.1)

length_here : (least n : ℕ) → InRange least n → (after : Tokens) → IsLength least (t.Number n ∷ after) n after
length_here least n h after = (n, after, number_here least n h after, (None, after, refl, (refl, refl)))

-- ---- windows

abbrev TimeSlide : Rule ℕ
TimeSlide = rule.◌>>◌ (rule.word k.Slide) (IsLength 1)

abbrev RowSlide : Rule ℕ
RowSlide = rule.◌>>◌ (rule.word k.Slide) (rule.one (number_from 1))

abbrev SlideOf : Rule ℕ → ℕ → Tokens → Type 0
SlideOf R n after = (slide : Option ℕ) × rule.optional R (onto (spell_slide n) after) slide after × (or_else 1 slide ≡ n)

one_is : (n : ℕ) → (n == 1) ≡ true → 1 ≡ n
one_is n h = grind (arith, nat_tests)

time_slide : (n : ℕ) → InRange 1 n → (after : Tokens) → SlideOf TimeSlide n after
time_slide n h after = at (n == 1) refl
  where
    at : (b : Bool) → (n == 1) ≡ b → (slide : Option ℕ) × rule.optional TimeSlide (onto (if b then [] else symbol k.Slide ∷ number (pos n) ∷ []) after) slide after × (or_else 1 slide ≡ n)
    at true g = (None, refl, one_is n g)
    at false g = (Some n, (tt, t.Number n ∷ after, refl, length_here 1 n h after), refl)

row_slide : (n : ℕ) → InRange 1 n → (after : Tokens) → SlideOf RowSlide n after
row_slide n h after = at (n == 1) refl
  where
    at : (b : Bool) → (n == 1) ≡ b → (slide : Option ℕ) × rule.optional RowSlide (onto (if b then [] else symbol k.Slide ∷ number (pos n) ∷ []) after) slide after × (or_else 1 slide ≡ n)
    at true g = (None, refl, one_is n g)
    at false g = (Some n, (tt, t.Number n ∷ after, refl, number_here 1 n h after), refl)

-- what a window's numbers keep to
abbrev Fits : WrittenWindow → Type 0
Fits (w.Range length slide) = InRange 0 length × InRange 1 slide
Fits (w.Rows count slide) = InRange 1 count × InRange 1 slide
Fits w.Unbounded = Unit {0}
Fits (w.Partition columns count) = Unit {0}

one_fits : InRange 1 1
one_fits = (omega arith, omega arith)

slide_fits : (R : Rule ℕ) → ((ts rest : Tokens) (n : ℕ) → R ts n rest → InRange 1 n) → (ts rest : Tokens) (slide : Option ℕ) → rule.optional R ts slide rest → InRange 1 (or_else 1 slide)
slide_fits R g ts rest None h = one_fits
slide_fits R g ts rest (Some n) h = g ts rest n h

unbounded_again : (after : Tokens) → IsWindow (onto (spell_window w.Unbounded) after) w.Unbounded after
unfolding spell_window
unbounded_again after = inr (inr (inl (tt, t.Fixed k.Unbounded ∷ after, refl, inl (tt, after, refl, (refl, refl)))))

now_is : (length slide : ℕ) → (length == 0 && slide == 1) ≡ true → (0 ≡ length) × (1 ≡ slide)
now_is length slide h = (grind (arith, nat_tests), grind (arith, nat_tests))

range_again : (length slide : ℕ) → InRange 0 length → InRange 1 slide → (after : Tokens) → IsWindow (onto (spell_window (w.Range length slide)) after) (w.Range length slide) after
unfolding spell_window
range_again length slide f g after = at (length == 0 && slide == 1) refl
  where
    at : (b : Bool) → (length == 0 && slide == 1) ≡ b → IsWindow (onto (spell_range b length slide) after) (w.Range length slide) after
    at true h =
        let p = now_is length slide h in
        inl (tt, after, refl, (ap (λ n. w.Range n 1) p.0 ∙ ap (λ n. w.Range length n) p.1, refl))
    at false h =
        let q = time_slide slide g after in
        inr (inr (inl (
          tt,
          t.Number length ∷ onto (spell_slide slide) after,
          refl,
          inr (length, onto (spell_slide slide) after, length_here 0 length f (onto (spell_slide slide) after), (q.0, after, q.1, (ap (λ n. w.Range length n) q.2, refl))),
        )))

rows_again : (count slide : ℕ) → InRange 1 count → InRange 1 slide → (after : Tokens) → IsWindow (onto (spell_window (w.Rows count slide)) after) (w.Rows count slide) after
unfolding spell_window
rows_again count slide f g after =
    let q = row_slide slide g after in
    inr (inr (inr (inl (
      tt,
      t.Number count ∷ onto (spell_slide slide) after,
      refl,
      inr (count, onto (spell_slide slide) after, number_here 1 count f (onto (spell_slide slide) after), (q.0, after, q.1, (ap (λ n. w.Rows count n) q.2, refl))),
    ))))

partition_again : (ts rest : Tokens) (x : WrittenWindow) → IsPartition ts x rest → (after : Tokens) → IsWindow (onto (spell_window x) after) x after
unfolding spell_window
partition_again ts rest x h after =
    let columns = h.3.3.0 in
    let count = h.3.3.3.3.0 in
    let tail = t.Fixed k.Rows ∷ t.Number count ∷ after in
    let facts = number_fits 1 h.3.3.3.1 h.3.3.3.3.1 count h.3.3.3.3.2 in
    subst (λ y. IsWindow (onto (spell_window y) after) y after) h.3.3.3.3.3.0
    (subst (λ us. IsWindow (t.Fixed k.Partition ∷ t.Fixed k.By ∷ us) (w.Partition columns count) after) (sym (onto-append (separated spell_plain columns) (symbol k.Rows ∷ number (pos count) ∷ []) after))
    (inr (inr (inr (inr (
      tt,
      _,
      refl,
      (
        tt,
        _,
        refl,
        (
          columns,
          tail,
          list_again IsName spell_plain names_again h.3.1 h.3.3.1 columns h.3.3.2 tail,
          (tt, t.Number count ∷ after, refl, (count, after, number_here 1 count facts after, (refl, refl))),
        ),
      ),
    ))))))
  where
    names_again : Again IsName spell_plain
    names_again = name_again

window_fits : (ts rest : Tokens) (x : WrittenWindow) → IsWindow ts x rest → (after : Tokens) → IsWindow (onto (spell_window x) after) x after
window_fits ts rest x (inl h) after = subst (λ y. IsWindow (onto (spell_window y) after) y after) h.3.0 (range_again 0 1 (omega arith, omega arith) one_fits after)
window_fits ts rest x (inr (inl h)) after = subst (λ y. IsWindow (onto (spell_window y) after) y after) h.3.0 (unbounded_again after)
window_fits ts rest x (inr (inr (inl h))) after = at h.3
  where
    at : rule.either (rule.◌>>◌ (rule.word k.Unbounded) (rule.pure w.Unbounded)) (rule.◌>>=◌ (IsLength 0) (λ n. rule.◌>>=◌ (rule.optional TimeSlide) (λ slide. rule.pure (w.Range n (or_else 1 slide))))) h.1 x rest → IsWindow (onto (spell_window x) after) x after
    at (inl g) = subst (λ y. IsWindow (onto (spell_window y) after) y after) g.3.0 (unbounded_again after)
    at (inr g) = subst (λ y. IsWindow (onto (spell_window y) after) y after) g.3.3.0
        (range_again g.0 (or_else 1 g.3.0) (length_fits 0 h.1 g.1 g.0 g.2) (slide_fits TimeSlide (λ ts rest n p. length_fits 1 p.1 rest n p.3) g.1 g.3.1 g.3.0 g.3.2) after)
window_fits ts rest x (inr (inr (inr (inl h)))) after = at h.3
  where
    at : rule.either (rule.◌>>◌ (rule.word k.Unbounded) (rule.pure w.Unbounded)) (rule.◌>>=◌ (rule.one (number_from 1)) (λ n. rule.◌>>=◌ (rule.optional RowSlide) (λ slide. rule.pure (w.Rows n (or_else 1 slide))))) h.1 x rest → IsWindow (onto (spell_window x) after) x after
    at (inl g) = subst (λ y. IsWindow (onto (spell_window y) after) y after) g.3.0 (unbounded_again after)
    at (inr g) = subst (λ y. IsWindow (onto (spell_window y) after) y after) g.3.3.0
        (rows_again g.0 (or_else 1 g.3.0) (number_fits 1 h.1 g.1 g.0 g.2) (slide_fits RowSlide (λ ts rest n p. number_fits 1 p.1 rest n p.3) g.1 g.3.1 g.3.0 g.3.2) after)
window_fits ts rest x (inr (inr (inr (inr h)))) after = partition_again ts rest x h after

window_again : Again IsWindow spell_window
window_again = window_fits

-- ---- inputs

abbrev InSquares : Rule WrittenWindow
InSquares = rule.◌>>◌ (rule.word k.OpenSquare) (rule.◌>>=◌ IsWindow (λ v. rule.◌>>◌ (rule.word k.CloseSquare) (rule.pure v)))

abbrev Alias : Rule (List ℕ)
Alias = rule.◌>>◌ (rule.may k.As) IsName

input_alias_again : (ts rest : Tokens) (x : Option (List ℕ)) → rule.optional Alias ts x rest → (after : Tokens) → rule.optional Alias (onto (spell_alias x) after) x after
input_alias_again ts rest None h after = refl
input_alias_again ts rest (Some s) h after = (true, t.Word s ∷ after, refl, name_again h.1 rest s h.3 after)

-- a window that is so, or the unbounded one
or_window_again : (ts rest : Tokens) (x : Option WrittenWindow) → rule.optional InSquares ts x rest → (after : Tokens) → IsWindow (onto (spell_window (or_unbounded x)) after) (or_unbounded x) after
or_window_again ts rest None h after = unbounded_again after
or_window_again ts rest (Some v) h after = subst (λ y. IsWindow (onto (spell_window y) after) y after) h.3.3.3.0 (window_again h.1 h.3.1 h.3.0 h.3.2 after)

input_again : Again IsInput spell_input
unfolding spell_input
input_again ts rest x h after =
    let stream = h.0 in
    let window = or_unbounded h.3.0 in
    let alias = h.3.3.0 in
    let end = onto (spell_alias alias) after in
    let inside = onto (spell_window window) (t.Fixed k.CloseSquare ∷ end) in
    let spelled_so : onto (spell_name stream ++ symbol k.OpenSquare ∷ (spell_window window ++ symbol k.CloseSquare ∷ spell_alias alias)) after ≡ onto (spell_name stream) (t.Fixed k.OpenSquare ∷ inside) =
    onto-append (spell_name stream) (symbol k.OpenSquare ∷ (spell_window window ++ symbol k.CloseSquare ∷ spell_alias alias)) after
    ∙ ap (λ us. onto (spell_name stream) (t.Fixed k.OpenSquare ∷ us)) (onto-append (spell_window window) (symbol k.CloseSquare ∷ spell_alias alias) after) in
    subst (λ y. IsInput (onto (spell_input y) after) y after) h.3.3.3.0
    (subst (λ us. IsInput us (record { stream = stream; window = window; alias = alias }) after) (sym spelled_so) (
      stream,
      t.Fixed k.OpenSquare ∷ inside,
      column_again ts h.1 stream h.2 (t.Fixed k.OpenSquare ∷ inside),
      (
        Some window,
        end,
        (tt, inside, refl, (window, t.Fixed k.CloseSquare ∷ end, or_window_again h.1 h.3.1 h.3.0 h.3.2 (t.Fixed k.CloseSquare ∷ end), (tt, end, refl, (refl, refl)))),
        (alias, after, input_alias_again h.3.1 h.3.3.1 alias h.3.3.2 after, (refl, refl)),
      ),
    ))

abbrev NextInput : Rule Input
NextInput = rule.◌>>◌ (rule.word k.Comma) IsInput

abbrev FurtherInputs : Rule (List Input)
FurtherInputs = rule.◌>>=◌ NextInput (λ second. rule.◌>>=◌ (rule.optional NextInput) (λ third. rule.pure (second ∷ to_list third)))

next_again : (ts rest : Tokens) (x : Input) → NextInput ts x rest → (after : Tokens) → NextInput (t.Fixed k.Comma ∷ onto (spell_input x) after) x after
next_again ts rest x h after = (tt, onto (spell_input x) after, refl, input_again h.1 rest x h.3 after)

third_again : (ts rest : Tokens) (x : Option Input) → rule.optional NextInput ts x rest → (after : Tokens) → rule.optional NextInput (onto (following spell_input (to_list x)) after) x after
third_again ts rest None h after = refl
third_again ts rest (Some i) h after = subst (λ us. NextInput (t.Fixed k.Comma ∷ us) i after) (sym (onto-append (spell_input i) [] after)) (next_again ts rest i h after)

further_again : (ts rest : Tokens) (x : List Input) → FurtherInputs ts x rest → (after : Tokens) → FurtherInputs (onto (following spell_input x) after) x after
further_again ts rest x h after =
    let second = h.0 in
    let third = h.3.0 in
    let end = onto (following spell_input (to_list third)) after in
    subst (λ y. FurtherInputs (onto (following spell_input y) after) y after) h.3.3.0
    (subst (λ us. FurtherInputs (t.Fixed k.Comma ∷ us) (second ∷ to_list third) after) (sym (onto-append (spell_input second) (following spell_input (to_list third)) after))
    (second, end, next_again ts h.1 second h.2 end, (third, after, third_again h.1 h.3.1 third h.3.2 after, (refl, refl))))

inputs_again : Again IsInputs (separated spell_input)
inputs_again ts rest x h after = at h.3.0 h.3.2 h.3.3.0
  where
    at : (further : Option (List Input)) → rule.optional FurtherInputs h.1 further h.3.1 → h.0 ∷ or_empty further ≡ x → IsInputs (onto (separated spell_input x) after) x after
    at None g q = subst (λ y. IsInputs (onto (separated spell_input y) after) y after) q
        (subst (λ us. IsInputs us (h.0 ∷ []) after) (sym (onto-append (spell_input h.0) [] after)) (h.0, after, input_again ts h.1 h.0 h.2 after, (None, after, refl, (refl, refl))))
    at (Some xs) g q = subst (λ y. IsInputs (onto (separated spell_input y) after) y after) q
        (subst (λ us. IsInputs us (h.0 ∷ xs) after) (sym (onto-append (spell_input h.0) (following spell_input xs) after))
        (h.0, onto (following spell_input xs) after, input_again ts h.1 h.0 h.2 (onto (following spell_input xs) after), (Some xs, after, further_again h.1 h.3.1 xs g after, (refl, refl))))

-- ---- blocks

abbrev Where : Rule Condition
Where = rule.◌>>◌ (rule.word k.Where) (IsCondition most_levels)

where_again : (ts rest : Tokens) (x : Option Condition) → rule.optional Where ts x rest → (after : Tokens) → rule.optional Where (onto (spell_where x) after) x after
where_again ts rest None h after = refl
where_again ts rest (Some c) h after = (tt, onto (spell_condition c) after, refl, condition_again most_levels h.1 rest c h.3 after)

abbrev Groups : Rule (List QualifiedName)
Groups = rule.◌>>◌ (rule.word k.Group) (rule.◌>>◌ (rule.word k.By) (grammar.list_of IsColumn))

abbrev GroupsOf : List QualifiedName → Tokens → Type 0
GroupsOf qs after = (x : Option (List QualifiedName)) × rule.optional Groups (onto (spell_groups qs) after) x after × (or_empty x ≡ qs)

groups_again : (ts rest : Tokens) (x : Option (List QualifiedName)) → rule.optional Groups ts x rest → (after : Tokens) → GroupsOf (or_empty x) after
groups_again ts rest None h after = (None, refl, refl)
groups_again ts rest (Some qs) h after =
    let n = list_some IsColumn spell_name column_again h.3.1 rest qs h.3.3 in
    let g = list_again IsColumn spell_name column_again h.3.1 rest qs h.3.3 after in
    subst (λ y. GroupsOf y after) (sym n.2) (
      Some (n.0 ∷ n.1),
      (
        tt,
        t.Fixed k.By ∷ onto (separated spell_name (n.0 ∷ n.1)) after,
        refl,
        (
          tt,
          onto (separated spell_name (n.0 ∷ n.1)) after,
          refl,
          subst (λ y. grammar.list_of IsColumn (onto (separated spell_name y) after) y after) n.2 g,
        ),
      ),
      refl,
    )

abbrev spell_rest : SelectBlock → Pieces
spell_rest b = symbol k.From ∷ (separated spell_input b.inputs ++ (spell_where b.condition ++ spell_groups b.groups))

module _ (distinct : Bool) (selection : Selection) where
  rest_again : (ts rest : Tokens) (x : SelectBlock) → IsRest distinct selection ts x rest → (after : Tokens) → IsRest distinct selection (onto (spell_rest x) after) x after
  rest_again ts rest x h after =
      let inputs = h.3.0 in
      let condition = h.3.3.0 in
      let groups = or_empty h.3.3.3.0 in
      let g = groups_again h.3.3.1 h.3.3.3.1 h.3.3.3.0 h.3.3.3.2 after in
      let three = onto (spell_groups groups) after in
      let two = onto (spell_where condition) three in
      let spelled_so : onto (separated spell_input inputs ++ (spell_where condition ++ spell_groups groups)) after ≡ onto (separated spell_input inputs) two =
      onto-append (separated spell_input inputs) (spell_where condition ++ spell_groups groups) after ∙ ap (onto (separated spell_input inputs)) (onto-append (spell_where condition) (spell_groups groups) after) in
      subst (λ y. IsRest distinct selection (onto (spell_rest y) after) y after) h.3.3.3.3.0
      (subst (λ us. IsRest distinct selection (t.Fixed k.From ∷ us) (block_of inputs condition groups) after) (sym spelled_so) (
        tt,
        onto (separated spell_input inputs) two,
        refl,
        (
          inputs,
          two,
          inputs_again h.1 h.3.1 inputs h.3.2 two,
          (condition, three, where_again h.3.1 h.3.3.1 condition h.3.3.2 three, (g.0, after, g.1, (ap (block_of inputs condition) g.2, refl))),
        ),
      ))
    where
      block_of : List Input → Option Condition → List QualifiedName → SelectBlock
      block_of inputs condition groups = record { distinct = distinct; selection = selection; inputs = inputs; condition = condition; groups = groups }

  rest_keeps : (ts rest : Tokens) (x : SelectBlock) → IsRest distinct selection ts x rest → (distinct ≡ x.distinct) × (selection ≡ x.selection)
  rest_keeps ts rest x h = (ap (λ b. b.distinct) h.3.3.3.3.0, ap (λ b. b.selection) h.3.3.3.3.0)

distinct_again : (b : Bool) (after : Tokens) → rule.may k.Distinct (onto (spell_distinct b) after) b after
distinct_again true after = refl
distinct_again false after = refl

abbrev spell_selected : SelectBlock → Pieces
spell_selected b = spell_distinct b.distinct ++ (spell_selection b.selection ++ spell_rest b)

-- a block of parts that stand somewhere
parts_again : (distinct : Bool) (selection : Selection) (us vs rest : Tokens) (ws : Tokens) (x : SelectBlock) → IsSelection us selection vs → IsRest distinct selection ws x rest → (after : Tokens) → IsSelected (onto (spell_selected x) after) x after
parts_again distinct selection us vs rest ws x p h after =
    let kept = rest_keeps distinct selection ws rest x h in
    let end = onto (spell_rest x) after in
    let two = onto (spell_selection x.selection) end in
    let spelled_so : onto (spell_selected x) after ≡ onto (spell_distinct x.distinct) two =
    onto-append (spell_distinct x.distinct) (spell_selection x.selection ++ spell_rest x) after ∙ ap (onto (spell_distinct x.distinct)) (onto-append (spell_selection x.selection) (spell_rest x) after) in
    subst (λ us. IsSelected us x after) (sym spelled_so) (
      x.distinct,
      two,
      distinct_again x.distinct two,
      (
        x.selection,
        end,
        subst (λ y. IsSelection (onto (spell_selection y) end) y end) kept.1 (selection_again us vs selection p end),
        subst (λ y. IsRest y x.selection end x after) kept.0 (subst (λ y. IsRest distinct y end x after) kept.1 (rest_again distinct selection ws rest x h after)),
      ),
    )

selected_again : (ts rest : Tokens) (x : SelectBlock) → IsSelected ts x rest → (after : Tokens) → IsSelected (onto (spell_selected x) after) x after
selected_again ts rest x h after = parts_again h.0 h.3.0 h.1 h.3.1 rest h.3.1 x h.3.2 h.3.3 after

block_pieces : (x : SelectBlock) → spell_block x ≡ symbol k.Select ∷ spell_selected x
unfolding spell_block
block_pieces x = refl

selected_block : (x : SelectBlock) (after : Tokens) → IsSelected (onto (spell_selected x) after) x after → IsBlock (onto (spell_block x) after) x after
selected_block x after h = subst (λ ps. IsBlock (onto ps after) x after) (sym (block_pieces x)) (tt, onto (spell_selected x) after, refl, h)

block_again : Again IsBlock spell_block
block_again ts rest x h after = selected_block x after (selected_again h.1 rest x h.3 after)

second_again : (ts rest : Tokens) (x : Option Second) → rule.optional IsSecond ts x rest → (after : Tokens) → rule.optional IsSecond (onto (spell_second x) after) x after
second_again ts rest None h after = refl
second_again ts rest (Some s) h after =
    let operator = h.0 in
    let b = h.3.3.0 in
    let end = onto (spell_block b) after in
    subst (λ y. rule.optional IsSecond (onto (spell_second (Some y)) after) (Some y) after) h.3.3.3.0
    (operator, t.Fixed k.All ∷ end, one_again set_operator_of (λ op. t.Fixed (set_word op)) set_is ts h.1 operator h.2 (t.Fixed k.All ∷ end), (tt, end, refl, (b, after, block_again h.3.1 h.3.3.1 b h.3.3.2 after, (refl, refl))))

-- ---- queries

-- the outer form of a stream operator, a block that stands somewhere and a second one
outer_here : (output : StreamOperator) (b : SelectBlock) (second : Option Second) (us vs xs ys : Tokens) → rule.one stream_operator_of us output vs →
    ((after : Tokens) → IsBlock (onto (spell_block b) after) b after) → ((after : Tokens) → rule.optional IsSecond (onto (spell_second second) after) second after) → (after : Tokens) →
    IsOuter (onto (spell_query (query_of (Some output) b second)) after) (query_of (Some output) b second) after
outer_here output b second us vs xs ys o f g after =
    let close = t.Fixed k.Close ∷ after in
    let two = onto (spell_second second) close in
    let one = onto (spell_block b) two in
    let spelled_so : onto ((spell_block b ++ spell_second second) ++ symbol k.Close ∷ []) after ≡ one =
    onto-append (spell_block b ++ spell_second second) (symbol k.Close ∷ []) after ∙ onto-append (spell_block b) (spell_second second) close in
    subst (λ us. IsOuter (t.Fixed (stream_word output) ∷ t.Fixed k.Open ∷ us) (query_of (Some output) b second) after) (sym spelled_so) (
      output,
      t.Fixed k.Open ∷ one,
      one_again stream_operator_of (λ op. t.Fixed (stream_word op)) stream_is us vs output o (t.Fixed k.Open ∷ one),
      (tt, one, refl, (b, two, f two, (second, close, g close, (tt, after, refl, (refl, refl))))),
    )

abbrev Body : Rule Query
Body = rule.either IsOuter (rule.◌>>◌ (rule.word k.Select) (rule.either IsInner IsWhole))

body_again : (ts rest : Tokens) (x : Query) → Body ts x rest → (after : Tokens) → Body (onto (spell_query x) after) x after
body_again ts rest x (inl h) after =
    subst (λ y. Body (onto (spell_query y) after) y after) h.3.3.3.3.3.0
    (inl (outer_here h.0 h.3.3.0 h.3.3.3.0 ts h.1 ts ts h.2 (λ after. block_again h.3.1 h.3.3.1 h.3.3.0 h.3.3.2 after) (λ after. second_again h.3.3.1 h.3.3.3.1 h.3.3.3.0 h.3.3.3.2 after) after))
body_again ts rest x (inr h) after = at h.3
  where
    at : rule.either IsInner IsWhole h.1 x rest → Body (onto (spell_query x) after) x after
    at (inl g) =
        let b = g.3.3.3.3.3.0 in
        subst (λ y. Body (onto (spell_query y) after) y after) g.3.3.3.3.3.3.0
        (inl (outer_here g.0 b None h.1 g.1 ts ts g.2
        (λ after. selected_block b after (parts_again g.3.3.0 g.3.3.3.0 g.3.3.1 g.3.3.3.1 g.3.3.3.3.3.1 g.3.3.3.3.1 b g.3.3.3.2 g.3.3.3.3.3.2 after)) (λ after. refl) after))
    at (inr g) =
        let b = g.0 in
        let second = g.3.0 in
        let two = onto (spell_second second) after in
        let spelled_so : onto (spell_block b ++ spell_second second) after ≡ t.Fixed k.Select ∷ onto (spell_selected b) two =
        onto-append (spell_block b) (spell_second second) after ∙ ap (λ ps. onto ps two) (block_pieces b) in
        subst (λ y. Body (onto (spell_query y) after) y after) g.3.3.0
        (subst (λ us. Body us (query_of None b second) after) (sym spelled_so)
        (inr (tt, onto (spell_selected b) two, refl, inr (b, two, selected_again h.1 g.1 b g.2 two, (second, after, second_again g.1 g.3.1 second g.3.2 after, (refl, refl))))))

-- what some tokens are, its canonical spelling is too
pub query_again : (ts : Tokens) (q : Query) → Spells ts q → Spells (pieces_tokens (spell_query q)) q
query_again ts q h =
    let body = body_again ts h.1 h.0 h.2 [] in
    let so : onto (spell_query h.0) [] ≡ pieces_tokens (spell_query h.0) = onto_tokens (spell_query h.0) [] ∙ append-nil (pieces_tokens (spell_query h.0)) in
    subst (λ p. Spells (pieces_tokens (spell_query p)) p) h.3.3.0 (subst (λ us. Spells us h.0) so (h.0, [], body, (false, [], refl, (refl, refl))))
