-- The numbers of written windows are those that windows may have.
use Rattle.std.proofs.Common.{◌≡◌, ◌≤◌, ◌<◌, ℕ, zero, suc, ◌*◌, ◌^◌, Bool, true, false, nat_lt, List, [], refl, subst, arith, inl, inr}
use Rattle.std.specs.Prelude.{Option, Some, None, IfSome, if◌then◌else◌, codes}
use Rattle.std.specs.List.{AllByRecursion}
use Rattle.std.proofs.lemmas.Bool.Decides.{nat_tests}
use Rattle.std.proofs.lemmas.List.Elements.{All-from_recursion}
use Rattle.cql_value.specs.Name.{is_name}
use Rattle.cql_syntax.specs.declared.token.Token.{Token}
use Rattle.cql_syntax.specs.declared.token.Token.TheVariants as t
use Rattle.cql_syntax.specs.declared.syntax.WrittenWindow.{WrittenWindow}
use Rattle.cql_syntax.specs.declared.syntax.Input.{Input}
use Rattle.cql_syntax.specs.declared.syntax.SelectBlock.{SelectBlock}
use Rattle.cql_syntax.specs.declared.syntax.Second.{Second}
use Rattle.cql_syntax.specs.declared.syntax.Selection.{Selection}
use Rattle.cql_syntax.specs.declared.syntax.Query.{Query}
use Rattle.cql_syntax.specs.Tokens.{Tokens}
use Rattle.cql_text.specs.Meaning.{number_from, unit_of, unit_named, is_either, times}
use Rattle.cql_text.specs.Rules.{optional, one}
use Rattle.cql_text.specs.Grammar.{IsLength, IsRange, IsRows, IsPartition, IsWindow, IsInput, IsInputs, IsRest, IsSelected, IsBlock, IsSecond, IsOuter, IsInner, IsWhole, IsQuery}
use Rattle.cql_text.specs.Read.{IsSyntax}
use Rattle.cql_text.proofs.WindowLaws.{number_facts}
use Rattle.cql_plan.specs.Sources.{HasBounds, AreBounded}

-- ---- numbers

abbrev From : ℕ → ℕ → Type 0
From least n = (least ≤ n) × (n < 2 ^ 62)

-- a unit is of one tick or more
abbrev IsUnit : Option ℕ → Type 0
IsUnit unit = IfSome unit (λ u. 1 ≤ u)

named_unit : (w : List ℕ) → IsUnit (unit_named w)
unfolding unit_named
named_unit w =
    at (is_either w (codes "second") (codes "seconds")) (is_either w (codes "minute") (codes "minutes")) (is_either w (codes "hour") (codes "hours"))
    (is_either w (codes "day") (codes "days"))
  where
    at : (a b c d : Bool) → IsUnit (if a then Some 1 else (if b then Some 60 else (if c then Some 3600 else (if d then Some 86400 else None))))
    at true b c d = omega arith
    at false true c d = omega arith
    at false false true d = omega arith
    at false false false true = omega arith
    at false false false false = tt

token_unit : (u : Token) → IsUnit (unit_of u)
unfolding unit_of
token_unit (t.Word w) = at (is_name w)
  where
    at : (b : Bool) → IsUnit (if b then unit_named w else None)
    at true = named_unit w
    at false = tt
token_unit (t.Fixed j) = tt
token_unit (t.Number n) = tt
token_unit (t.Text s) = tt

at_least : (n u : ℕ) → 1 ≤ u → n ≤ n * u
at_least n zero some = absurd (omega arith)
at_least n (suc u) some = omega arith

times_from : (least n m : ℕ) (unit : Option ℕ) → IsUnit unit → least ≤ 1 → least ≤ n → times n unit ≡ Some m → From least m
times_from least n m None some small le so = absurd cc
times_from least n m (Some u) some small le so = at (nat_lt (n * u) (2 ^ 62)) refl so
  where
    at : (b : Bool) → nat_lt (n * u) (2 ^ 62) ≡ b → (if b then Some (n * u) else None) ≡ Some m → From least m
    at true h same =
        let e : n * u ≡ m = cc in
        let high : n * u < 2 ^ 62 = grind (arith, nat_tests) in
        let low : n ≤ n * u = at_least n u some in
        (omega arith, omega arith)
    at false h same = absurd cc

length_from : (least : ℕ) (ts : Tokens) (n : ℕ) (rest : Tokens) → least ≤ 1 → IsLength least ts n rest → From least n
length_from least ts n rest small (m, us, (u, is, number), (None, vs, none, (same, end))) =
    let facts = number_facts least u m number in
    (omega (arith, facts.1, same), omega (arith, facts.2, same))
length_from least ts n rest small (m, us, (u, is, number), (Some ticks, vs, (v, more, unit), (same, end))) =
    let facts = number_facts least u m number in
    let P : ℕ → Type 0 = From least in
    subst P same (times_from least m ticks (unit_of v) (token_unit v) small facts.1 unit)

number_from_is : (least : ℕ) (ts : Tokens) (n : ℕ) (rest : Tokens) → one (number_from least) ts n rest → From least n
number_from_is least ts n rest (u, is, number) = let facts = number_facts least u n number in (facts.1, facts.2)

-- ---- windows

range_bounded : (ts : Tokens) (w : WrittenWindow) (rest : Tokens) → IsRange ts w rest → HasBounds w
range_bounded ts w rest (x, us, range, inl (y, vs, unbounded, (same, end))) = subst HasBounds same tt
range_bounded ts w rest (x, us, range, inr (length, vs, is, (None, ws, none, (same, end)))) =
    let bound = length_from 0 us length vs (omega arith) is in
    subst HasBounds same (bound.1, omega arith, omega arith)
range_bounded ts w rest (x, us, range, inr (length, vs, is, (Some slide, ws, (y, xs, slides, by), (same, end)))) =
    let bound = length_from 0 us length vs (omega arith) is in
    let slid = length_from 1 xs slide ws (omega arith) by in
    subst HasBounds same (bound.1, slid.0, slid.1)

rows_bounded : (ts : Tokens) (w : WrittenWindow) (rest : Tokens) → IsRows ts w rest → HasBounds w
rows_bounded ts w rest (x, us, rows, inl (y, vs, unbounded, (same, end))) = subst HasBounds same tt
rows_bounded ts w rest (x, us, rows, inr (count, vs, is, (None, ws, none, (same, end)))) =
    let bound = number_from_is 1 us count vs is in
    subst HasBounds same (bound.0, bound.1, omega arith, omega arith)
rows_bounded ts w rest (x, us, rows, inr (count, vs, is, (Some slide, ws, (y, xs, slides, by), (same, end)))) =
    let bound = number_from_is 1 us count vs is in
    let slid = number_from_is 1 xs slide ws by in
    subst HasBounds same (bound.0, bound.1, slid.0, slid.1)

parts_bounded : (ts : Tokens) (w : WrittenWindow) (rest : Tokens) → IsPartition ts w rest → HasBounds w
parts_bounded ts w rest (x, us, partition, (y, vs, by, (columns, ws, names, (z, xs, rows, (count, ys, is, (same, end)))))) =
    let bound = number_from_is 1 xs count ys is in
    subst HasBounds same (bound.0, bound.1)

window_bounded : (ts : Tokens) (w : WrittenWindow) (rest : Tokens) → IsWindow ts w rest → HasBounds w
window_bounded ts w rest (inl (x, us, now, (same, end))) = subst HasBounds same (omega arith, omega arith, omega arith)
window_bounded ts w rest (inr (inl (x, us, unbounded, (same, end)))) = subst HasBounds same tt
window_bounded ts w rest (inr (inr (inl range))) = range_bounded ts w rest range
window_bounded ts w rest (inr (inr (inr (inl rows)))) = rows_bounded ts w rest rows
window_bounded ts w rest (inr (inr (inr (inr parts)))) = parts_bounded ts w rest parts

-- ---- inputs

abbrev Bounded : Input → Type 0
Bounded input = HasBounds input.window

abbrev Each : List Input → Type 0
Each inputs = AllByRecursion Bounded inputs

input_bounded : (ts : Tokens) (input : Input) (rest : Tokens) → IsInput ts input rest → Bounded input
input_bounded ts input rest (stream, us, named, (None, vs, none, (alias, ws, may_be, (same, end)))) = subst Bounded same tt
input_bounded ts input rest (stream, us, named, (Some w, vs, (x, xs, open_, (v, ys, is, (y, zs, close_, (shown, here)))), (alias, ws, may_be, (same, end)))) =
    subst Bounded same (subst HasBounds shown (window_bounded xs v ys is))

inputs_bounded : (ts : Tokens) (inputs : List Input) (rest : Tokens) → IsInputs ts inputs rest → Each inputs
inputs_bounded ts inputs rest (first, us, is, (None, vs, more, (same, end))) = subst Each same (input_bounded ts first us is, tt)
inputs_bounded ts inputs rest (first, us, is, (Some further, vs, (second, ws, (x, xs, comma, also), (None, ys, last, (two, here))), (same, end))) =
    subst Each same (input_bounded ts first us is, subst Each two (input_bounded xs second ws also, tt))
inputs_bounded ts inputs rest (first, us, is, (Some further, vs, (second, ws, (x, xs, comma, also), (Some third, ys, (y, zs, comma', too), (two, here))), (same, end))) =
    subst Each same (input_bounded ts first us is, subst Each two (input_bounded xs second ws also, (input_bounded zs third ys too, tt)))

-- ---- blocks

abbrev InBlock : SelectBlock → Type 0
InBlock block = Each block.inputs

rest_bounded : (distinct : Bool) (selection : Selection) (ts : Tokens) (block : SelectBlock) (rest : Tokens) → IsRest distinct selection ts block rest → InBlock block
rest_bounded distinct selection ts block rest (x, us, from, (inputs, vs, are, (condition, ws, cond, (groups, xs, group, (same, end))))) =
    subst InBlock same (inputs_bounded us inputs vs are)

selected_bounded : (ts : Tokens) (block : SelectBlock) (rest : Tokens) → IsSelected ts block rest → InBlock block
selected_bounded ts block rest (distinct, us, d, (selection, vs, s, r)) = rest_bounded distinct selection vs block rest r

block_bounded : (ts : Tokens) (block : SelectBlock) (rest : Tokens) → IsBlock ts block rest → InBlock block
block_bounded ts block rest (x, us, select, s) = selected_bounded us block rest s

abbrev InSecond : Option Second → Type 0
InSecond second = IfSome second (λ s. InBlock s.block)

second_bounded : (ts : Tokens) (second : Option Second) (rest : Tokens) → optional IsSecond ts second rest → InSecond second
second_bounded ts None rest is = tt
second_bounded ts (Some second) rest (operator, us, o, (x, vs, all, (block, ws, is, (same, end)))) =
    let P : Second → Type 0 = λ s. InBlock s.block in subst P same (block_bounded vs block ws is)

-- ---- queries

abbrev InQuery : Query → Type 0
InQuery query = InBlock query.first × InSecond query.second

outer_bounded : (ts : Tokens) (query : Query) (rest : Tokens) → IsOuter ts query rest → InQuery query
outer_bounded ts query rest (output, us, o, (x, vs, open_, (first, ws, is, (second, xs, may_be, (y, ys, close_, (same, end)))))) =
    subst InQuery same (block_bounded vs first ws is, second_bounded ws second xs may_be)

inner_bounded : (ts : Tokens) (query : Query) (rest : Tokens) → IsInner ts query rest → InQuery query
inner_bounded ts query rest (output, us, o, (x, vs, open_, (distinct, ws, d, (selection, xs, s, (y, ys, close_, (block, zs, is, (same, end))))))) =
    subst InQuery same (rest_bounded distinct selection ys block zs is, tt)

whole_bounded : (ts : Tokens) (query : Query) (rest : Tokens) → IsWhole ts query rest → InQuery query
whole_bounded ts query rest (first, us, is, (second, vs, may_be, (same, end))) =
    subst InQuery same (selected_bounded ts first us is, second_bounded us second vs may_be)

query_bounded : (ts : Tokens) (query : Query) (rest : Tokens) → IsQuery ts query rest → InQuery query
query_bounded ts query rest (q, us, inl outer, (b, vs, semicolon, (same, end))) = subst InQuery same (outer_bounded ts q us outer)
query_bounded ts query rest (q, us, inr (x, ws, select, inl inner), (b, vs, semicolon, (same, end))) = subst InQuery same (inner_bounded ws q us inner)
query_bounded ts query rest (q, us, inr (x, ws, select, inr whole), (b, vs, semicolon, (same, end))) = subst InQuery same (whole_bounded ws q us whole)

syntax_bounded : (query : Query) → IsSyntax query → InQuery query
syntax_bounded query (ts, is) = query_bounded ts query [] is

-- of a query that was read, the windows of the first block have bounds
pub first_bounded : (query : Query) → IsSyntax query → AreBounded query.first.inputs
first_bounded query is = All-from_recursion Bounded query.first.inputs (syntax_bounded query is).0

-- so have those of the second
pub later_bounded : (query : Query) → IsSyntax query → IfSome query.second (λ s. AreBounded s.block.inputs)
later_bounded query is = each_of query.second (syntax_bounded query is).1
  where
    each_of : (second : Option Second) → InSecond second → IfSome second (λ s. AreBounded s.block.inputs)
    each_of None are = tt
    each_of (Some s) are = All-from_recursion Bounded s.block.inputs are
