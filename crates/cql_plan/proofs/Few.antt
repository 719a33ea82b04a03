-- How many inputs a plan has.
use Rattle.std.proofs.Common.{◌≡◌, ◌≤◌, suc, ◌+◌, List, [], ◌∷◌, ◌++◌, length, ap, ◌∙◌, subst, arith, inl, inr}
use Rattle.std.specs.Prelude.{Option, Some, None, IfSome, Ok, Bool}
use Rattle.std.proofs.lemmas.List.{length-append, length-map}
use Rattle.cql_syntax.specs.declared.syntax.Input.{Input}
use Rattle.cql_syntax.specs.declared.syntax.SelectBlock.{SelectBlock}
use Rattle.cql_syntax.specs.declared.syntax.Second.{Second}
use Rattle.cql_syntax.specs.declared.syntax.Selection.{Selection}
use Rattle.cql_syntax.specs.declared.syntax.Query.{Query}
use Rattle.cql_syntax.specs.Tokens.{Tokens}
use Rattle.cql_text.specs.Rules.{optional}
use Rattle.cql_text.specs.Grammar.{IsInputs, IsRest, IsSelected, IsBlock, IsSecond, IsOuter, IsInner, IsWhole, IsQuery}
use Rattle.cql_text.specs.Read.{IsSyntax}
use Rattle.cql_plan.specs.declared.error.PlanFault.TheVariants.{AmbiguousColumn, TypeMismatch}
use Rattle.cql_plan.specs.declared.plan.OutputKind.{OutputKind}
use Rattle.cql_plan.specs.declared.plan.Planned.{Planned}
use Rattle.cql_plan.specs.declared.source.BlockInput.{BlockInput}
use Rattle.cql_plan.specs.declared.block.Checked.{Checked}
use Rattle.cql_plan.specs.Outcome.{Outcome, ◌>>=◌, unless, each}
use Rattle.cql_plan.specs.Plan.{IsFew}
use Rattle.cql_plan.specs.Sources.{SchemaLookup, source_of, are_apart, joined_row, inputs_of}
use Rattle.cql_plan.specs.Typing.{typing, with_second, block_of, body_of, where_of, group_of, items_of, is_grouped, join_of, checked_of, output_of, same_kinds, alone, combined}
use Rattle.cql_plan.proofs.Each.{passes}

-- ---- written inputs

-- a block has 1 to 3 inputs
abbrev pub Few : List Input → Type 0
Few inputs = (1 ≤ length inputs) × (length inputs ≤ 3)

inputs_few : (ts : Tokens) (inputs : List Input) (rest : Tokens) → IsInputs ts inputs rest → Few inputs
inputs_few ts inputs rest (first, us, is, (None, vs, more, (same, end))) =
    let one : 1 ≡ length inputs = ap length same in (omega arith, omega arith)
inputs_few ts inputs rest (first, us, is, (Some further, vs, (second, ws, comma, (None, xs, last, (two, here))), (same, end))) =
    let all : suc (length further) ≡ length inputs = ap length same in
    let rest_two : 1 ≡ length further = ap length two in
    (omega arith, omega arith)
inputs_few ts inputs rest (first, us, is, (Some further, vs, (second, ws, comma, (Some third, xs, last, (two, here))), (same, end))) =
    let all : suc (length further) ≡ length inputs = ap length same in
    let rest_two : 2 ≡ length further = ap length two in
    (omega arith, omega arith)

rest_few : (distinct : Bool) (selection : Selection) (ts : Tokens) (block : SelectBlock) (rest : Tokens) → IsRest distinct selection ts block rest → Few block.inputs
rest_few distinct selection ts block rest (x, us, from, (inputs, vs, are, (condition, ws, cond, (groups, xs, group, (same, end))))) =
    let P : SelectBlock → Type 0 = λ b. Few b.inputs in subst P same (inputs_few us inputs vs are)

selected_few : (ts : Tokens) (block : SelectBlock) (rest : Tokens) → IsSelected ts block rest → Few block.inputs
selected_few ts block rest (distinct, us, d, (selection, vs, s, r)) = rest_few distinct selection vs block rest r

block_few : (ts : Tokens) (block : SelectBlock) (rest : Tokens) → IsBlock ts block rest → Few block.inputs
block_few ts block rest (x, us, select, s) = selected_few us block rest s

abbrev pub SecondFew : Option Second → Type 0
SecondFew second = IfSome second (λ s. Few s.block.inputs)

second_few : (ts : Tokens) (second : Option Second) (rest : Tokens) → optional IsSecond ts second rest → SecondFew second
second_few ts None rest is = tt
second_few ts (Some second) rest (operator, us, o, (x, vs, all, (block, ws, is, (same, end)))) =
    let P : Second → Type 0 = λ s. Few s.block.inputs in subst P same (block_few vs block ws is)

-- each block of a query has
abbrev pub QueryFew : Query → Type 0
QueryFew query = Few query.first.inputs × SecondFew query.second

outer_few : (ts : Tokens) (query : Query) (rest : Tokens) → IsOuter ts query rest → QueryFew query
outer_few ts query rest (output, us, o, (x, vs, open_, (first, ws, is, (second, xs, may_be, (y, ys, close_, (same, end)))))) =
    subst QueryFew same (block_few vs first ws is, second_few ws second xs may_be)

inner_few : (ts : Tokens) (query : Query) (rest : Tokens) → IsInner ts query rest → QueryFew query
inner_few ts query rest (output, us, o, (x, vs, open_, (distinct, ws, d, (selection, xs, s, (y, ys, close_, (block, zs, is, (same, end))))))) =
    subst QueryFew same (rest_few distinct selection ys block zs is, tt)

whole_few : (ts : Tokens) (query : Query) (rest : Tokens) → IsWhole ts query rest → QueryFew query
whole_few ts query rest (first, us, is, (second, vs, may_be, (same, end))) =
    subst QueryFew same (selected_few ts first us is, second_few us second vs may_be)

query_few : (ts : Tokens) (query : Query) (rest : Tokens) → IsQuery ts query rest → QueryFew query
query_few ts query rest (q, us, inl outer, (b, vs, semicolon, (same, end))) = subst QueryFew same (outer_few ts q us outer)
query_few ts query rest (q, us, inr (x, ws, select, inl inner), (b, vs, semicolon, (same, end))) = subst QueryFew same (inner_few ws q us inner)
query_few ts query rest (q, us, inr (x, ws, select, inr whole), (b, vs, semicolon, (same, end))) = subst QueryFew same (whole_few ws q us whole)

syntax_few : (query : Query) → IsSyntax query → QueryFew query
syntax_few query (ts, is) = query_few ts query [] is

-- ---- planned inputs

each_length : {A B : Type 0} (check : A → Outcome B) (xs : List A) (ys : List B) → each check xs ≡ Ok ys → length ys ≡ length xs
unfolding each
each_length check [] ys so = let none : ys ≡ [] = cc in ap length none
each_length {A} {B} check (x ∷ xs) ys so =
    let one = passes (check x) (λ (y : B). each check xs >>= (λ zs. Ok (y ∷ zs))) ys so in
    let two = passes (each check xs) (λ (zs : List B). Ok (one.0 ∷ zs)) ys one.2 in
    let same : ys ≡ one.0 ∷ two.0 = cc (two.2) in
    ap length same ∙ ap (λ n. suc n) (each_length check xs two.0 two.1)

body_length : (sources : List BlockInput) (block : SelectBlock) (checked : Checked) → body_of sources block ≡ Ok checked → length checked.inputs ≡ length sources
unfolding body_of
body_length sources block checked so =
    let one = passes (where_of (joined_row sources) block.condition) _ checked so in
    let two = passes (each (group_of (joined_row sources)) block.groups) _ checked one.2 in
    let three = passes (items_of (joined_row sources) (is_grouped block) two.0 block.selection) _ checked two.2 in
    let same : checked ≡ checked_of block.distinct (inputs_of sources) (join_of sources one.0) (joined_row sources) two.0 three.0 = cc (three.2) in
    ap (λ (c : Checked). length c.inputs) same ∙ length-map sources _

block_length : (readable : SchemaLookup) (block : SelectBlock) (checked : Checked) → block_of readable block ≡ Ok checked → length checked.inputs ≡ length block.inputs
unfolding block_of
block_length readable block checked so =
    let one = passes (each (source_of readable) block.inputs) _ checked so in
    let two = passes (unless (are_apart one.0) AmbiguousColumn) _ checked one.2 in
    body_length one.0 block checked two.2 ∙ each_length (source_of readable) block.inputs one.0 one.1

with_few : (readable : SchemaLookup) (output : OutputKind) (first : Checked) (second : Option Second) (planned : Planned)
    → (1 ≤ length first.inputs) × (length first.inputs ≤ 3) → SecondFew second → with_second readable output first second ≡ Ok planned → IsFew planned
unfolding with_second
with_few readable output first None planned few other so =
    let same : planned ≡ alone output first = cc in
    let inputs : length planned.inputs ≡ length first.inputs = ap (λ (p : Planned). length p.inputs) same in
    (omega arith, omega arith)
with_few readable output first (Some second) planned few other so =
    let one = passes (block_of readable second.block) _ planned so in
    let two = passes (unless (same_kinds first.kinds one.0.kinds) TypeMismatch) _ planned one.2 in
    let same : planned ≡ combined output second.operator first one.0 = cc (two.2) in
    let inputs : length planned.inputs ≡ length (first.inputs ++ one.0.inputs) = ap (λ (p : Planned). length p.inputs) same in
    let sum : length (first.inputs ++ one.0.inputs) ≡ length first.inputs + length one.0.inputs = length-append first.inputs one.0.inputs in
    let later : length one.0.inputs ≡ length second.block.inputs = block_length readable second.block one.0 one.1 in
    (omega arith, omega arith)

-- a plan has 1 to 6 inputs
pub planned_few : (readable : SchemaLookup) (query : Query) (planned : Planned) → IsSyntax query → typing readable query ≡ Ok planned → IsFew planned
unfolding typing
planned_few readable query planned is so =
    let few = syntax_few query is in
    let one = passes (block_of readable query.first) _ planned so in
    let first : length one.0.inputs ≡ length query.first.inputs = block_length readable query.first one.0 one.1 in
    with_few readable (output_of query.output) one.0 query.second planned (omega arith, omega arith) few.1 one.2
