-- A small language, and runs worked by hand: what the definitions say of them. The order of checks, where an interval ends, what a base and a limit
-- are, and what a pin tells stand in words that the machine and the meaning share; a law that both agree doesn't see a wrong one. These runs do.
use Rattle.std.proofs.Common.{◌≡◌, ℕ, zero, suc, ◌+◌, ◌-◌, ◌≤◌, ◌<◌, Bool, true, false, ◌&&◌, ◌==◌, List, [], ◌∷◌, ◌++◌, map, length, inl, inr, refl, ap, ◌∙◌, sym, subst, arith}
use Rattle.std.specs.Prelude.{Option, Some, None, option_map, Result, Ok, Err, is_some, if◌then◌else◌, pos, codes, take}
use Rattle.std.proofs.lemmas.Bool.{and_parts}
use Rattle.cql_value.specs.declared.value.Value.{Value}
use Rattle.cql_value.specs.declared.value.Value.TheVariants.{Number, Text}
use Rattle.cql_value.specs.declared.schema.ColumnType.TheVariants.{Number as Integer, Text as Letters}
use Rattle.cql_value.specs.Element.{Element}
use Rattle.cql_value.specs.Name as words
use Rattle.cql_window.specs.declared.window.Window.{Window}
use Rattle.cql_window.specs.declared.window.Window.TheVariants.{Range, Rows, All as all}
use Rattle.cql_plan.specs.declared.node.Node.TheVariants.{Distinct}
use Rattle.cql_plan.specs.declared.plan.Input.{Input}
use Rattle.cql_plan.specs.declared.plan.Branch.{Branch}
use Rattle.cql_plan.specs.declared.plan.OutputKind.TheVariants.{Rstream}
use Rattle.cql_plan.specs.declared.plan.Planned.{Planned}
use Rattle.cql_window.specs.Through.{wide_window}
use Rattle.cql_plan.specs.VisibleColumns.{VisibleColumns}
use Rattle.cql_plan.specs.Sources.{SchemaLookup}
use Rattle.cql_plan.specs.Projected.{alone, visible_alone, widened_by, widened}
use Rattle.cql_algebra.specs.declared.told.Block.{Block}
use Rattle.cql_algebra.specs.declared.told.Output.TheVariants.{Rows as told_rows}
use Rattle.cql_eval.specs.Pin.{PinModel}
use Rattle.cql_tenants.specs.declared.tenants.Quotas.{Quotas}
use Rattle.cql_tenants.specs.declared.tenants.Tenant.{Tenant}
use Rattle.cql_tenants.specs.Named.{same_name, find_named}
use Rattle.cql_tenants.specs.Namespace.{nothing_made}
use Rattle.cql_core.specs.declared.command.ColumnText.{ColumnText}
use Rattle.cql_core.specs.declared.command.Command.{Command}
use Rattle.cql_core.specs.declared.command.Command.TheVariants.{Stream, Grant, Revoke, Put, Beat, Query, Fetch, Ack, Drop, List as Lists}
use Rattle.cql_core.specs.declared.refusal.Refusal.{Refusal}
use Rattle.cql_core.specs.declared.refusal.Refusal.TheVariants.{StreamExists, BadName, BadColumns, TooManyStreams, UnknownStream, UnknownTenant, AlreadyGranted, SelfGrant, BadGrantColumns}
use Rattle.cql_core.specs.declared.refusal.Refusal.TheVariants.{NotGranted, WrongRow, Late, AtTooLarge, BadQuery, TooManyQueries, QueryExists, UnknownQuery, Overrun, Ahead, Behind, Revoked}
use Rattle.cql_core.specs.declared.refusal.Refusal.TheVariants.{NoMemory}
use Rattle.cql_core.specs.StreamId.{stream_id_of}
use Rattle.cql_core.specs.ReplyModel.{ReplyModel, Done, Based, Blocks, Listed, Refused}
use Rattle.cql_core.specs.Language.{Language, or_widened, contents_at, AreReadable, AreAlike, IsLanguage, plan_over}
use Rattle.cql_core.specs.Machine.{opening}
use Rattle.cql_core.specs.View.{Own, Appears, Gone, Comes, Beats, view}
use Rattle.cql_core.specs.Solo.{SoloQuery, SoloState, solo_opening, solo, limit_to, meaning}
use Rattle.cql_core.specs.Headline.{Event, sent, told_to}
use Rattle.cql_core.specs.Legal.{IsLegal}
use Rattle.cql_core.specs.HeadlineLaw.{replies_to, IsHeadlineLaw}
use Rattle.cql_core.specs.Law.{state_from, without_others, IsMachineLaw}
use Rattle.cql_core.specs.Order.{Tells as TellsInOrder, gone_check, overrun_check, OrderLaw, IsOrderLaw}
use Rattle.cql_core.specs.Binding.{IsBindingLaw}
use Rattle.cql_core.specs.Rows.{rows_held}
use Rattle.cql_core.specs.WithinQuotas.{greatest_hold}
use Rattle.cql_core.specs.Hidden.{HiddenPut, AreHiddenIn, IsHiddenLaw}

-- THE LANGUAGE
-- a text has three numbers for each input: a window, the owner's name (0: the caller's own), and the stream's name
abbrev window_for : ℕ → Window
window_for n = if n == 0 then all else if n == 1 then Rows 1 1 else Range n 1

abbrev owner_for : ℕ → Option (List ℕ)
owner_for n = if n == 0 then None else Some (n ∷ [])

abbrev inputs_for : List ℕ → List Input
inputs_for (w ∷ owner ∷ name ∷ rest) = record { owner = owner_for owner; stream = name ∷ []; window = window_for w; projection = [] } ∷ inputs_for rest
inputs_for (w ∷ owner ∷ []) = []
inputs_for (w ∷ []) = []
inputs_for [] = []

-- the numbers that aren't three, by the first one's index
abbrev bad_from : ℕ → List ℕ → Option ℕ
bad_from at (w ∷ owner ∷ name ∷ rest) = bad_from (at + 3) rest
bad_from at (w ∷ owner ∷ []) = Some at
bad_from at (w ∷ []) = Some at
bad_from at [] = None

abbrev can_read : SchemaLookup → List Input → Bool
can_read readable [] = true
can_read readable (i ∷ is) = is_some (readable i.owner i.stream) && can_read readable is

-- no node is looked at
abbrev branch : Branch
branch = record { join = Distinct []; shape = Distinct []; distinct = None }

abbrev plan_with : List Input → Planned
plan_with inputs = record { inputs = inputs; first = branch; combined = None; output = Rstream }

-- an input with the projection that is seen
abbrev projection_or : Option VisibleColumns → List ℕ
projection_or None = []
projection_or (Some seen) = seen.projection

abbrev with_projection : SchemaLookup → Input → Input
with_projection readable i = record i { projection = projection_or (readable i.owner i.stream) }

abbrev planned : SchemaLookup → List ℕ → Result Planned Refusal
planned readable text = if can_read readable (inputs_for text) then Ok (plan_with (map (with_projection readable) (inputs_for text))) else Err UnknownStream

-- all rows of the windows
abbrev rows_in : List (List Element) → List (List Value)
rows_in [] = []
rows_in (xs ∷ rest) = map (λ x. x.row) xs ++ rows_in rest

abbrev rows_of : Option (List (List Element)) → List (List Value)
rows_of None = []
rows_of (Some contents) = rows_in contents

abbrev block : ℕ → List (List Value) → List Block
block t [] = []
block t (row ∷ rows) = record { from = t; to = t; output = told_rows (row ∷ rows) } ∷ []

-- one block for each instant that tells something
abbrev blocks_for : (ℕ → List (List Value)) → ℕ → ℕ → List Block
blocks_for O from zero = []
blocks_for O from (suc n) = blocks_for O from n ++ block (from + n) (O (from + n))

-- what is told at an instant, by the quota of rows and what the windows hold before it and at it
abbrev Tells : Type 0
Tells = ℕ → Option (List (List Element)) → Option (List (List Element)) → List (List Value)

abbrev told_at : Tells → PinModel → ℕ → List (List Value)
told_at tells p t = tells p.limit (contents_at p t) (contents_at p (t + 1))

abbrev language_of : Tells → Language
language_of tells = record {
  bad_byte = bad_from 0;
  plan_of = planned;
  spelled = λ text. 83 ∷ text;
  blocks_of = λ p. blocks_for (told_at tells p) p.from (p.next - p.from);
}

-- the rows now
abbrev language : Language
language = language_of (λ limit before now. rows_of now)

-- IT IS ONE
block_local : (O P : ℕ → List (List Value)) (from n : ℕ) → ((t : ℕ) → from ≤ t → t < from + n → O t ≡ P t) → blocks_for O from n ≡ blocks_for P from n
block_local O P from zero same = refl
block_local O P from (suc n) same = λ i. block_local O P from n (λ t ge lt. same t ge (omega (arith, lt))) i ++ block (from + n) (same (from + n) (omega arith) (omega arith) i)

module _ (tells : Tells) (p q : PinModel) (alike : AreAlike p q) where
  told_alike : (t : ℕ) → p.from ≤ t → t < p.next → told_at tells p t ≡ told_at tells q t
  told_alike t ge lt = λ i. tells (alike.limit i) (alike.contents t ge (omega (arith, lt)) i) (alike.contents (t + 1) (omega (arith, ge)) (omega (arith, lt)) i)

  pin_local : blocks_for (told_at tells p) p.from (p.next - p.from) ≡ blocks_for (told_at tells q) q.from (q.next - q.from)
  pin_local =
      block_local (told_at tells p) (told_at tells q) p.from (p.next - p.from) (λ t ge lt. told_alike t ge (omega (arith, ge, lt)))
      ∙ (λ i. blocks_for (told_at tells q) (alike.from i) (alike.next i - alike.from i))

inputs_read : (readable : SchemaLookup) (inputs : List Input) → can_read readable inputs ≡ true → AreReadable readable (map (with_projection readable) inputs)
inputs_read readable [] h = tt
inputs_read readable (i ∷ is) h = let both = and_parts (is_some (readable i.owner i.stream)) _ h in (both.0, inputs_read readable is both.1)

abbrev inputs_or : Result Planned Refusal → List Input
inputs_or (Ok plan) = plan.inputs
inputs_or (Err refusal) = []

reads_ok : (readable : SchemaLookup) (text : List ℕ) (plan : Planned) (b : Bool) → can_read readable (inputs_for text) ≡ b
    → ◌≡◌ {A = Result Planned Refusal} (if b then Ok (plan_with (map (with_projection readable) (inputs_for text))) else Err UnknownStream) (Ok plan) → AreReadable readable plan.inputs
reads_ok readable text plan true e h = subst (AreReadable readable) (ap inputs_or h) (inputs_read readable (inputs_for text) e)
reads_ok readable text plan false e h = absurd cc

-- what is seen alone can be read as well
some_alone : (o : Option VisibleColumns) → is_some (option_map alone o) ≡ is_some o
some_alone None = refl
some_alone (Some seen) = refl

can_alone : (readable : SchemaLookup) (inputs : List Input) → can_read (visible_alone readable) inputs ≡ can_read readable inputs
can_alone readable [] = refl
can_alone readable (i ∷ is) = λ j. some_alone (readable i.owner i.stream) j && can_alone readable is j

-- no window has parts
plain : (projection : List ℕ) (n : ℕ) → wide_window projection (window_for n) ≡ window_for n
plain projection n = by (n == 0) (n == 1)
  where
    by : (b c : Bool) → wide_window projection (if b then all else if c then Rows 1 1 else Range n 1) ≡ (if b then all else if c then Rows 1 1 else Range n 1)
    by true c = refl
    by false true = refl
    by false false = refl

sees_one : (o : Option VisibleColumns) (owner : Option (List ℕ)) (stream : List ℕ) (n : ℕ)
    → record { owner = owner; stream = stream; window = window_for n; projection = projection_or o } ≡ widened_by o
    (record { owner = owner; stream = stream; window = window_for n; projection = projection_or (option_map alone o) })
sees_one None owner stream n = refl
sees_one (Some seen) owner stream n = λ j. record { owner = owner; stream = stream; window = sym (plain seen.projection n) j; projection = seen.projection }

sees_inputs : (readable : SchemaLookup) (text : List ℕ) → map (with_projection readable) (inputs_for text) ≡ map (widened readable) (map (with_projection (visible_alone readable)) (inputs_for text))
sees_inputs readable (w ∷ owner ∷ name ∷ rest) = λ j. sees_one (readable (owner_for owner) (name ∷ [])) (owner_for owner) (name ∷ []) w j ∷ sees_inputs readable rest j
sees_inputs readable (w ∷ owner ∷ []) = refl
sees_inputs readable (w ∷ []) = refl
sees_inputs readable [] = refl

abbrev planned_if : Bool → List Input → Result Planned Refusal
planned_if b inputs = if b then Ok (plan_with inputs) else Err UnknownStream

sees_by : (readable : SchemaLookup) (inputs : List Input) (b : Bool) → planned_if b (map (widened readable) inputs) ≡ or_widened readable (planned_if b inputs)
sees_by readable inputs true = refl
sees_by readable inputs false = refl

sees_alone : (readable : SchemaLookup) (text : List ℕ) → planned readable text ≡ or_widened readable (planned (visible_alone readable) text)
sees_alone readable text =
    ap (planned_if (can_read readable (inputs_for text))) (sees_inputs readable text)
    ∙ sees_by readable (map (with_projection (visible_alone readable)) (inputs_for text)) (can_read readable (inputs_for text))
    ∙ (λ j. or_widened readable (planned_if (sym (can_alone readable (inputs_for text)) j) (map (with_projection (visible_alone readable)) (inputs_for text))))

is_language : (tells : Tells) → IsLanguage (language_of tells)
is_language tells = record {
  reads = λ readable text plan h. reads_ok readable text plan _ refl h;
  sees = sees_alone;
  local = pin_local tells;
}

-- THE RUNS
abbrev with_hold : ℕ → Quotas
with_hold hold = record { streams = 8; queries = 8; hold = hold; result = 1000 }

abbrev tenant : ℕ → Quotas → Tenant
tenant name quotas = record { name = name ∷ []; key = 107 ∷ []; quotas = quotas }

-- tenants a and b, whose windows may hold so many rows
abbrev table : ℕ → ℕ → List Tenant
table hold other = tenant 97 (with_hold hold) ∷ tenant 98 (with_hold other) ∷ []

abbrev two : List Tenant
two = table 100 100

-- names
abbrev a : List ℕ
a = 97 ∷ []

abbrev b : List ℕ
b = 98 ∷ []

abbrev c : List ℕ
c = 99 ∷ []

abbrev s : List ℕ
s = 115 ∷ []

abbrev p : List ℕ
p = 112 ∷ []

abbrev q : List ℕ
q = 113 ∷ []

-- one column of numbers
abbrev numbers : List ColumnText
numbers = record { name = 118 ∷ []; kind = 105 ∷ 110 ∷ 116 ∷ [] } ∷ []

abbrev row : ℕ → List Value
row n = Number (pos n) ∷ []

-- all rows of s: as its owner's text has it, and as another's
abbrev own_s : List ℕ
own_s = 0 ∷ 115 ∷ []

abbrev a_s : List ℕ
a_s = 97 ∷ 115 ∷ []

abbrev one : ℕ → ℕ → ℕ → List Block → List Block
one from to n rest = record { from = from; to = to; output = told_rows (row n ∷ []) } ∷ rest

abbrev both : ℕ → ℕ → ℕ → List Block → List Block
both t n m rest = record { from = t; to = t; output = told_rows (row n ∷ row m ∷ []) } ∷ rest

-- above the greatest instant, and the greatest
abbrev too_large : ℕ
too_large = 4611686018427387904

abbrev last_instant : ℕ
last_instant = 4611686018427387903

-- a new query sees no row that another's query has made its store keep
kept_for_another : replies_to language 0 (opening two)
    ((0, Stream s numbers) ∷ (0, Grant s b None) ∷ (1, Query q (0 ∷ a_s)) ∷ (0, Put s 1 (row 7)) ∷ (0, Beat s 1) ∷ (0, Query p (0 ∷ own_s)) ∷ (0, Beat s 3) ∷ (0, Fetch p None) ∷ (1, Fetch q None) ∷ [])
    ≡ Done ∷ Done ∷ Done ∷ Done ∷ Based 2 ∷ Done ∷ Blocks [] 4 ∷ []
unfolding same_name contents_at words.is_reserved
kept_for_another = refl

-- the other's query sees it
seen_by_the_other : replies_to language 1 (opening two)
    ((0, Stream s numbers) ∷ (0, Grant s b None) ∷ (1, Query q (0 ∷ a_s)) ∷ (0, Put s 1 (row 7)) ∷ (0, Beat s 1) ∷ (0, Query p (0 ∷ own_s)) ∷ (0, Beat s 3) ∷ (0, Fetch p None) ∷ (1, Fetch q None) ∷ [])
    ≡ Based 0 ∷ Blocks (one 1 1 7 (one 2 2 7 (one 3 3 7 []))) 4 ∷ []
unfolding same_name contents_at words.is_reserved
seen_by_the_other = refl

-- a stream that isn't granted, one that isn't there, and one of a tenant that isn't there are refused alike; only its owner puts on a stream, and grants it; a tenant's own name before the dot is as good as none
ungranted : replies_to language 1 (opening two)
    ((0, Stream s numbers) ∷ (1, Query q (0 ∷ a_s)) ∷ (1, Query q (0 ∷ 97 ∷ 122 ∷ [])) ∷ (1, Query q (0 ∷ 99 ∷ 115 ∷ [])) ∷ (0, Grant s b None) ∷ (1, Put s 1 (row 7))
    ∷ (1, Beat s 1) ∷ (1, Grant s b None) ∷ (1, Stream s numbers) ∷ (1, Query q (0 ∷ 98 ∷ 115 ∷ [])) ∷ [])
    ≡ Refused UnknownStream ∷ Refused UnknownStream ∷ Refused UnknownStream ∷ Refused UnknownStream ∷ Refused UnknownStream ∷ Refused UnknownStream ∷ Done ∷ Based 0 ∷ []
unfolding same_name contents_at words.is_reserved
ungranted = refl

-- streams of one name and of two owners are two
one_name : replies_to language 0 (opening two)
    ((0, Stream s numbers) ∷ (1, Stream s numbers) ∷ (0, Query q (0 ∷ own_s)) ∷ (1, Put s 1 (row 9)) ∷ (1, Beat s 5) ∷ (0, Beat s 1) ∷ (0, Fetch q None) ∷ [])
    ≡ Done ∷ Based 0 ∷ Done ∷ Blocks [] 2 ∷ []
unfolding same_name contents_at words.is_reserved
one_name = refl

-- a reader that stands before the owner in the table
read_by_the_first : replies_to language 0 (opening two) ((1, Stream s numbers) ∷ (1, Grant s a None) ∷ (0, Query q (0 ∷ 98 ∷ 115 ∷ [])) ∷ (1, Put s 1 (row 9))
    ∷ (1, Beat s 1) ∷ (0, Fetch q None) ∷ []) ≡ Based 0 ∷ Blocks (one 1 1 9 []) 2 ∷ []
unfolding same_name contents_at words.is_reserved
read_by_the_first = refl

-- THE CHECKS IN THEIR ORDER: where two tests hold, the first one's refusal is told
-- 31 before all else
not_in_the_table : replies_to language 2 (opening two)
    ((2, Stream [] []) ∷ (2, Grant p c None) ∷ (2, Put p 1 []) ∷ (2, Beat p 1) ∷ (2, Query [] (0 ∷ [])) ∷ (2, Fetch q None) ∷ (2, Ack q 0) ∷ (2, Drop q) ∷ (2, Lists) ∷ [])
    ≡ Refused UnknownTenant ∷ Refused UnknownTenant ∷ Refused UnknownTenant ∷ Refused UnknownTenant ∷ Refused UnknownTenant ∷ Refused UnknownTenant ∷ Refused
    UnknownTenant ∷ Refused UnknownTenant ∷ Refused UnknownTenant ∷ []
unfolding same_name contents_at words.is_reserved
not_in_the_table = refl

-- 21, 22, 20, 23
streams_in_order : replies_to language 0 (opening (tenant 97 (record { streams = 1; queries = 8; hold = 100; result = 1000 }) ∷ []))
    ((0, Stream s numbers) ∷ (0, Stream [] []) ∷ (0, Stream s []) ∷ (0, Stream s numbers) ∷ (0, Stream p numbers) ∷ [])
    ≡ Done ∷ Refused BadName ∷ Refused BadColumns ∷ Refused StreamExists ∷ Refused TooManyStreams ∷ []
unfolding same_name contents_at words.is_reserved
streams_in_order = refl

abbrev column : List ℕ → List ℕ → ColumnText
column name kind = record { name = name; kind = kind }

abbrev seventeen : List ColumnText
seventeen = map (λ n. column (118 ∷ n ∷ []) (codes "int")) (codes "abcdefghijklmnopq")

-- columns that are no schema: a name that is none, a type that is none, two of one name, and 17; 16 are one, and so are two of two types
columns : replies_to language 0 (opening two)
    ((0, Stream s (column [] (codes "int") ∷ [])) ∷ (0, Stream s (column (codes "select") (codes "int") ∷ [])) ∷ (0, Stream s (column a (codes "real") ∷ []))
    ∷ (0, Stream s (column a (codes "int") ∷ column a (codes "text") ∷ [])) ∷ (0, Stream s seventeen)
    ∷ (0, Stream s (take 16 seventeen)) ∷ (0, Stream p (column a (codes "text") ∷ column b (codes "int") ∷ [])) ∷ (0, Put p 1 (Number (pos 1) ∷ Text (codes "x") ∷ []))
    ∷ (0, Put p 1 (Text (codes "x") ∷ Number (pos 1) ∷ [])) ∷ [])
    ≡ Refused BadColumns ∷ Refused BadColumns ∷ Refused BadColumns ∷ Refused BadColumns ∷ Refused BadColumns ∷ Done ∷ Done ∷ Refused WrongRow ∷ Done ∷ []
unfolding same_name contents_at words.is_reserved
columns = refl

-- 30, 31, 33, 32
grants_in_order : replies_to language 0 (opening two)
    ((0, Stream s numbers) ∷ (0, Grant p c None) ∷ (0, Grant p a None) ∷ (0, Grant s c None) ∷ (0, Grant s a None) ∷ (0, Grant s b None) ∷ (0, Grant s b None) ∷ [])
    ≡ Done ∷ Refused UnknownStream ∷ Refused UnknownStream ∷ Refused UnknownTenant ∷ Refused SelfGrant ∷ Done ∷ Refused AlreadyGranted ∷ []
unfolding same_name contents_at words.is_reserved
grants_in_order = refl

-- 30, 40, then 41 or 42; a time that was taken before is taken again, up to a heartbeat
puts_in_order : replies_to language 0 (opening two)
    ((0, Stream s numbers) ∷ (0, Put p 1 []) ∷ (0, Put s 5 (row 1)) ∷ (0, Put s 4 []) ∷ (0, Put s too_large []) ∷ (0, Put s 4 (row 2)) ∷ (0, Put s too_large (row 2))
    ∷ (0, Put s 5 (row 2)) ∷ (0, Beat p 1) ∷ (0, Beat s 4) ∷ (0, Beat s too_large) ∷ (0, Beat s 5) ∷ (0, Put s 5 (row 3)) ∷ (0, Put s 6 (row 3))
    ∷ (0, Beat s last_instant) ∷ (0, Beat s last_instant) ∷ (0, Beat s too_large) ∷ [])
    ≡ Done ∷ Refused UnknownStream ∷ Done ∷ Refused WrongRow ∷ Refused WrongRow ∷ Refused Late ∷ Refused AtTooLarge ∷ Done ∷ Refused UnknownStream ∷ Refused
    Late ∷ Refused AtTooLarge ∷ Done ∷ Refused Late ∷ Done ∷ Done ∷ Refused Late ∷ Refused AtTooLarge ∷ []
unfolding same_name contents_at words.is_reserved
puts_in_order = refl

-- 21, 50, 56, 55, then the plan's; a drop makes room
queries_in_order : replies_to language 0 (opening (tenant 97 (record { streams = 8; queries = 1; hold = 100; result = 1000 }) ∷ []))
    ((0, Stream s numbers) ∷ (0, Query q (0 ∷ own_s)) ∷ (0, Query [] (0 ∷ [])) ∷ (0, Query q (0 ∷ 0 ∷ 115 ∷ 0 ∷ [])) ∷ (0, Query q (0 ∷ 0 ∷ 122 ∷ []))
    ∷ (0, Query p (0 ∷ 0 ∷ 122 ∷ [])) ∷ (0, Drop p) ∷ (0, Drop q) ∷ (0, Query p (0 ∷ 0 ∷ 122 ∷ [])) ∷ (0, Query p (0 ∷ own_s)) ∷ [])
    ≡ Done ∷ Based 0 ∷ Refused BadName ∷ Refused (BadQuery 3) ∷ Refused QueryExists ∷ Refused TooManyQueries ∷ Refused UnknownQuery ∷ Done ∷ Refused UnknownStream ∷ Based 0 ∷ []
unfolding same_name contents_at words.is_reserved
queries_in_order = refl

abbrev three_rows : List (ℕ × Command)
three_rows = (0, Stream s numbers) ∷ (0, Grant s b None) ∷ (0, Query p (10 ∷ own_s)) ∷ (1, Query q (10 ∷ a_s)) ∷ (0, Put s 1 (row 1)) ∷ (0, Put s 2 (row 2)) ∷ (0, Put s 3 (row 3)) ∷ (0, Beat s 3) ∷ []

-- 57, 60, 62 of a fetch; 57, 60, 61 and 57, 60, 62 of an ack
overrun_in_order : replies_to language 1 (opening (table 100 2))
    ((0, Stream s numbers) ∷ (0, Grant s b None) ∷ (1, Query q (10 ∷ a_s)) ∷ (0, Put s 1 (row 1)) ∷ (0, Beat s 1) ∷ (1, Ack q 2) ∷ (0, Put s 3 (row 2))
    ∷ (0, Put s 3 (row 3)) ∷ (1, Fetch q (Some 1)) ∷ (1, Ack q 99) ∷ (1, Ack q 1) ∷ (1, Fetch p (Some 1)) ∷ (1, Ack p 99) ∷ (1, Ack p 1) ∷ [])
    ≡ Based 0 ∷ Done ∷ Refused Overrun ∷ Refused Overrun ∷ Refused Overrun ∷ Refused UnknownQuery ∷ Refused UnknownQuery ∷ Refused UnknownQuery ∷ []
unfolding same_name contents_at words.is_reserved
overrun_in_order = refl

-- 57, then 61 above the limit and 62 below the cursor, each at its bound; a fetch behind, one that ends at the cursor, one that ends at the limit
acks_in_order : replies_to language 0 (opening two)
    ((0, Stream s numbers) ∷ (0, Query q (2 ∷ own_s)) ∷ (0, Put s 5 (row 1)) ∷ (0, Beat s 8) ∷ (0, Ack q 10) ∷ (0, Ack q 6) ∷ (0, Ack q 6) ∷ (0, Ack q 5)
    ∷ (0, Fetch q (Some 5)) ∷ (0, Fetch q (Some 6)) ∷ (0, Fetch q None) ∷ (0, Fetch q (Some 99)) ∷ (0, Fetch q (Some 7)) ∷ (0, Ack q 9) ∷ (0, Ack q 8)
    ∷ (0, Fetch q None) ∷ [])
    ≡ Done ∷ Based 0 ∷ Done ∷ Done ∷ Refused Ahead ∷ Done ∷ Done ∷ Refused Behind ∷ Refused Behind ∷ Blocks [] 6 ∷ Blocks (one 6 6 1 (one 7 7 1 [])) 9 ∷ Blocks
    (one 6 6 1 (one 7 7 1 [])) 9 ∷ Blocks (one 6 6 1 []) 7 ∷ Done ∷ Refused Behind ∷ Blocks [] 9 ∷ []
unfolding same_name contents_at words.is_reserved
acks_in_order = refl

-- HOLDS
-- a reader that is overrun is told so until it drops the query, also after a further row
overrun_reader : replies_to language 1 (opening (table 100 2))
    (three_rows ++ (0, Put s 4 (row 4)) ∷ (1, Fetch q (Some 2)) ∷ (1, Fetch q None) ∷ (1, Drop q) ∷ (1, Fetch q None) ∷ (1, Query q (10 ∷ a_s)) ∷ (1, Fetch q None) ∷ [])
    ≡ Based 0 ∷ Refused Overrun ∷ Refused Overrun ∷ Done ∷ Refused UnknownQuery ∷ Based 4 ∷ Blocks [] 4 ∷ []
unfolding same_name contents_at words.is_reserved
overrun_reader = refl

-- its owner's query, of the same rows
overrun_owner : replies_to language 0 (opening (table 100 2))
    (three_rows ++ (1, Fetch q None) ∷ (0, Fetch p (Some 2)) ∷ [])
    ≡ Done ∷ Done ∷ Based 0 ∷ Done ∷ Done ∷ Done ∷ Done ∷ Blocks (one 1 1 1 []) 2 ∷ []
unfolding same_name contents_at words.is_reserved
overrun_owner = refl

-- three rows are not above three
at_the_hold : replies_to language 1 (opening (table 100 3))
    (three_rows ++ (1, Fetch q (Some 2)) ∷ [])
    ≡ Based 0 ∷ Blocks (one 1 1 1 []) 2 ∷ []
unfolding same_name contents_at words.is_reserved
at_the_hold = refl

abbrev shared : List (ℕ × Command)
shared = (0, Stream s numbers) ∷ (0, Grant s b None) ∷ (0, Query p (2 ∷ own_s)) ∷ (1, Query q (2 ∷ a_s)) ∷ (0, Put s 1 (row 1)) ∷ (0, Put s 5 (row 5)) ∷ (0, Put s 8 (row 8)) ∷ (0, Beat s 9) ∷ []

abbrev held_after : List Tenant → List (ℕ × Command) → Option ℕ
held_after table calls = rows_held (state_from language (opening table) calls) (stream_id_of 0 s)

-- what a stream's store has to keep: as much as its slowest reader needs, nothing for one that is overrun
held : (held_after two [] ≡ None) × (held_after two shared ≡ Some 3) × (held_after two (shared ++ (0, Ack p 9) ∷ []) ≡ Some 3) × (held_after two (shared ++ (0, Ack p 9) ∷ (1, Ack q 9) ∷ []) ≡ Some 1)
    × (held_after two (shared ++ (0, Drop p) ∷ (1, Drop q) ∷ []) ≡ Some 0) × (held_after (table 100 2) (shared ++ (0, Ack p 9) ∷ []) ≡ Some 1)
unfolding same_name contents_at words.is_reserved
held = (refl, refl, refl, refl, refl, refl)

abbrev greatest_after : List Tenant → List (ℕ × Command) → ℕ
greatest_after table calls = greatest_hold (stream_id_of 0 s) table (state_from language (opening table) calls).queries

-- as many rows are held as the quotas allow where a query has as many as its tenant's hold; a query that is overrun or gone allows none
bounds : (greatest_after (table 3 2) shared ≡ 3) × (held_after (table 3 2) shared ≡ Some 3) × (greatest_after (table 2 3) shared ≡ 3) × (held_after (table 2 3) shared ≡ Some 3)
    × (greatest_after (table 2 3) (shared ++ (1, Drop q) ∷ []) ≡ 0) × (held_after (table 2 3) (shared ++ (1, Drop q) ∷ []) ≡ Some 0) × (greatest_after (table 100 100) (shared ++ (0, Drop p) ∷ (1, Drop q) ∷ []) ≡ 0)
unfolding same_name contents_at words.is_reserved
bounds = (refl, refl, refl, refl, refl, refl, refl)

-- BASES AND LIMITS
-- a fetch moves nothing; a query that is registered again begins anew
anew : replies_to language 0 (opening two)
    ((0, Stream s numbers) ∷ (0, Query q (0 ∷ own_s)) ∷ (0, Put s 1 (row 1)) ∷ (0, Beat s 2) ∷ (0, Fetch q None) ∷ (0, Fetch q None) ∷ (0, Drop q) ∷ (0, Query q (0 ∷ own_s)) ∷ (0, Fetch q None) ∷ [])
    ≡ Done ∷ Based 0 ∷ Done ∷ Done ∷ Blocks (one 1 1 1 (one 2 2 1 [])) 3 ∷ Blocks (one 1 1 1 (one 2 2 1 [])) 3 ∷ Done ∷ Based 3 ∷ Blocks [] 3 ∷ []
unfolding same_name contents_at words.is_reserved
anew = refl

-- a query over two streams begins at the slower one and goes as far as the slower one, whichever stands first; its windows are in the order of its inputs
two_inputs : replies_to language 0 (opening two)
    ((0, Stream s numbers) ∷ (0, Stream p numbers) ∷ (0, Put s 3 (row 1)) ∷ (0, Beat p 4) ∷ (0, Query q (0 ∷ 0 ∷ 115 ∷ 0 ∷ 0 ∷ 112 ∷ []))
    ∷ (0, Query c (0 ∷ 0 ∷ 112 ∷ 0 ∷ 0 ∷ 115 ∷ [])) ∷ (0, Put s 9 (row 2)) ∷ (0, Beat s 20) ∷ (0, Fetch q None) ∷ (0, Fetch c None) ∷ (0, Ack q 6)
    ∷ (0, Put p 9 (row 3)) ∷ (0, Beat p 10) ∷ (0, Fetch q None) ∷ (0, Fetch c None) ∷ [])
    ≡ Done ∷ Done ∷ Done ∷ Done ∷ Based 3 ∷ Based 3 ∷ Done ∷ Done ∷ Blocks [] 5 ∷ Blocks [] 5 ∷ Refused Ahead ∷ Done ∷ Done ∷ Blocks (both 9 2 3 (both 10 2 3 [])) 11 ∷ Blocks (both 9 3 2 (both 10 3 2 [])) 11 ∷ []
unfolding same_name contents_at words.is_reserved
two_inputs = refl

-- how many rows, where there is a content
abbrev counted : Option (List (List Element)) → List (List Value)
counted None = []
counted (Some contents) = row (length (rows_in contents)) ∷ []

abbrev counting : Language
counting = language_of (λ limit before now. row limit ∷ counted before ++ counted now)

abbrev told_counts : ℕ → List ℕ → List Block → List Block
told_counts t ns rest = record { from = t; to = t; output = told_rows (map row ns) } ∷ rest

-- nothing is held before the base, also where the cursor has left it; a pin has the quota of rows
before_the_base : replies_to counting 0 (opening two)
    ((0, Stream s numbers) ∷ (0, Beat s 1) ∷ (0, Query q (0 ∷ own_s)) ∷ (0, Put s 2 (row 7)) ∷ (0, Beat s 3) ∷ (0, Fetch q None) ∷ (0, Ack q 3) ∷ (0, Fetch q None) ∷ [])
    ≡ Done ∷ Done ∷ Based 2 ∷ Done ∷ Done ∷ Blocks (told_counts 2 (1000 ∷ 1 ∷ []) (told_counts 3 (1000 ∷ 1 ∷ 1 ∷ []) [])) 4 ∷ Done ∷ Blocks (told_counts 3 (1000 ∷ 1 ∷ 1 ∷ []) []) 4 ∷ []
unfolding same_name contents_at words.is_reserved
before_the_base = refl

-- LISTS AND VIEWS
abbrev listed : List (ℕ × Command)
listed =
    (0, Stream s numbers) ∷ (0, Stream p numbers) ∷ (0, Beat p 4) ∷ (0, Grant p b None) ∷ (0, Query q (0 ∷ own_s)) ∷ (0, Put s 6 (row 1)) ∷ (0, Ack q 3)
    ∷ (1, Query c (0 ∷ 97 ∷ 112 ∷ [])) ∷ (0, Put p 8 (row 2)) ∷ (0, Lists) ∷ (1, Lists) ∷ []

-- a list: streams in order of making, queries in their canonical text with base and cursor
own_list : replies_to language 0 (opening two) listed
    ≡ Done ∷ Done ∷ Done ∷ Done ∷ Based 0 ∷ Done ∷ Done ∷ Done ∷ Listed (record {
      streams = record { name = s; opened = 6 } ∷ record { name = p; opened = 8 } ∷ [];
      readable = [];
      queries = record { name = q; text = 83 ∷ 0 ∷ own_s; base = 0; next = 3 } ∷ [];
    }) ∷ []
unfolding same_name contents_at words.is_reserved
own_list = refl

-- and a reader's: what was granted, with the owner's name and the least time that it takes
readers_list : replies_to language 1 (opening two) listed
    ≡ Based 5 ∷ Listed (record {
      streams = [];
      readable = record { owner = a; stream = p; columns = None; opened = 8 } ∷ [];
      queries = record { name = c; text = 83 ∷ 0 ∷ 97 ∷ 112 ∷ []; base = 5; next = 5 } ∷ [];
    }) ∷ []
unfolding same_name contents_at words.is_reserved
readers_list = refl

-- a reader's view: nothing before the grant, nothing of what is refused, nothing of another's queries
readers_view : view 1 (nothing_made two)
    ((0, Stream s numbers) ∷ (0, Stream p numbers) ∷ (0, Put s 1 (row 7)) ∷ (0, Beat s 1) ∷ (0, Grant s b None) ∷ (0, Grant s b None) ∷ (0, Query p (0 ∷ own_s))
    ∷ (1, Fetch q None) ∷ (0, Put s 1 (row 7)) ∷ (0, Put s 2 (row 7)) ∷ (0, Put p 9 (row 8)) ∷ (0, Beat s 3) ∷ (0, Beat s 3) ∷ (2, Lists) ∷ [])
    ≡ Appears s (record { owner = 0; schema = record { name = 118 ∷ []; kind = Integer } ∷ []; named = false; opened = 2 }) ∷ Own (Fetch q None) ∷ Comes
    (stream_id_of 0 s) (record { at = 2; row = row 7 }) ∷ Beats (stream_id_of 0 s) 3 ∷ []
unfolding same_name contents_at words.is_reserved
readers_view = refl

-- CHOSEN COLUMNS, AND REVOKE
-- k a text and v a number
abbrev two_columns : List ColumnText
two_columns = record { name = 107 ∷ []; kind = codes "text" } ∷ record { name = 118 ∷ []; kind = codes "int" } ∷ []

abbrev k : List ℕ
k = 107 ∷ []

abbrev v : List ℕ
v = 118 ∷ []

abbrev two_row : List ℕ → ℕ → List Value
two_row word n = Text word ∷ Number (pos n) ∷ []

-- b sees v alone
chosen_columns : replies_to language 1 (opening two) ((0, Stream p two_columns) ∷ (0, Grant p b (Some (v ∷ []))) ∷ (1, Query q (2 ∷ 97 ∷ 112 ∷ []))
    ∷ (0, Put p 1 (two_row (codes "x") 1)) ∷ (0, Put p 1 (two_row (codes "y") 1)) ∷ (0, Beat p 1) ∷ (1, Fetch q None) ∷ (1, Lists) ∷ [])
    ≡ Based 0 ∷ Blocks (both 1 1 1 []) 2 ∷ Listed (record {
      streams = [];
      readable = record { owner = a; stream = p; columns = Some (v ∷ []); opened = 2 } ∷ [];
      queries = record { name = q; text = 83 ∷ 2 ∷ 97 ∷ 112 ∷ []; base = 0; next = 0 } ∷ [];
    }) ∷ []
unfolding same_name contents_at words.is_reserved
chosen_columns = refl

-- what b sees of it: no hidden column
chosen_view : view 1 (nothing_made two) ((0, Stream p two_columns) ∷ (0, Grant p b (Some (v ∷ []))) ∷ (0, Put p 1 (two_row (codes "x") 1)) ∷ (0, Revoke p b) ∷ (0, Put p 2 (two_row (codes "x") 2)) ∷ (0, Beat p 3) ∷ [])
    ≡ Appears p (record { owner = 0; schema = record { name = v; kind = Integer } ∷ []; named = true; opened = 0 }) ∷ Comes (stream_id_of 0 p) (record { at = 1; row = row 1 }) ∷ Gone (stream_id_of 0 p) ∷ []
unfolding same_name contents_at words.is_reserved
chosen_view = refl

-- the columns are in the order of the grant, and not in the stream's
chosen_order : view 1 (nothing_made two) ((0, Stream p two_columns) ∷ (0, Grant p b (Some (v ∷ k ∷ []))) ∷ (0, Put p 1 (two_row (codes "x") 1)) ∷ [])
    ≡ Appears p (record { owner = 0; schema = record { name = v; kind = Integer } ∷ record { name = k; kind = Letters } ∷ []; named = true; opened = 0 }) ∷ Comes
    (stream_id_of 0 p) (record { at = 1; row = Number (pos 1) ∷ Text (codes "x") ∷ [] }) ∷ []
unfolding same_name contents_at words.is_reserved
chosen_order = refl

-- 30, 31, 33, 34, 32
chosen_in_order : replies_to language 0 (opening two)
    ((0, Stream p two_columns) ∷ (0, Grant s c (Some [])) ∷ (0, Grant p c (Some [])) ∷ (0, Grant p a (Some [])) ∷ (0, Grant p b (Some []))
    ∷ (0, Grant p b (Some (v ∷ v ∷ []))) ∷ (0, Grant p b (Some (q ∷ []))) ∷ (0, Grant p b (Some (v ∷ k ∷ []))) ∷ (0, Grant p b (Some []))
    ∷ (0, Grant p b (Some (k ∷ []))) ∷ [])
    ≡ Done ∷ Refused UnknownStream ∷ Refused UnknownTenant ∷ Refused SelfGrant ∷ Refused BadGrantColumns ∷ Refused BadGrantColumns ∷ Refused BadGrantColumns ∷ Done ∷ Refused BadGrantColumns ∷ Refused AlreadyGranted ∷ []
unfolding same_name contents_at words.is_reserved
chosen_in_order = refl

-- 30, 31, 35, for the owner too, and again once it is taken back; a new grant is taken
revokes_in_order : replies_to language 0 (opening two)
    ((0, Stream s numbers) ∷ (0, Revoke p c) ∷ (0, Revoke s c) ∷ (0, Revoke s a) ∷ (0, Revoke s b) ∷ (0, Grant s b None) ∷ (1, Query q (0 ∷ a_s)) ∷ (0, Revoke s b) ∷ (0, Revoke s b) ∷ (0, Grant s b None) ∷ [])
    ≡ Done ∷ Refused UnknownStream ∷ Refused UnknownTenant ∷ Refused NotGranted ∷ Refused NotGranted ∷ Done ∷ Done ∷ Refused NotGranted ∷ Done ∷ []
unfolding same_name contents_at words.is_reserved
revokes_in_order = refl

abbrev revoked : List (ℕ × Command)
revoked = (0, Stream s numbers) ∷ (0, Grant s b None) ∷ (1, Query q (0 ∷ a_s)) ∷ (0, Put s 1 (row 1)) ∷ (0, Beat s 1) ∷ (0, Revoke s b) ∷ []

-- a query whose stream is revoked holds no row
revoked_holds : rows_held (state_from language (opening two) revoked) (stream_id_of 0 s) ≡ Some 0
unfolding same_name contents_at words.is_reserved
revoked_holds = refl

-- 63 of a fetch and of an ack until it is dropped; it stays in the list, and a new grant wakes it not
revoked_query : replies_to language 1 (opening two)
    ((0, Stream s numbers) ∷ (0, Grant s b None) ∷ (1, Query q (0 ∷ a_s)) ∷ (0, Put s 1 (row 1)) ∷ (0, Beat s 1) ∷ (0, Revoke s b) ∷ (1, Fetch q None) ∷ (1, Ack q 1)
    ∷ (1, Lists) ∷ (0, Grant s b None) ∷ (1, Fetch q None) ∷ (1, Drop q) ∷ (1, Query q (0 ∷ a_s)) ∷ [])
    ≡ Based 0 ∷ Refused Revoked ∷ Refused Revoked ∷ Listed (record { streams = []; readable = []; queries = record { name = q; text = 83 ∷ 0 ∷ a_s; base = 0; next = 0 } ∷ [] })
    ∷ Refused Revoked ∷ Done ∷ Based 2 ∷ []
unfolding same_name contents_at words.is_reserved
revoked_query = refl

-- an overrun query whose stream is revoked
revoked_overrun : replies_to language 1 (opening (table 100 2))
    ((0, Stream s numbers) ∷ (0, Grant s b None) ∷ (1, Query q (10 ∷ a_s)) ∷ (0, Put s 1 (row 1)) ∷ (0, Put s 2 (row 2)) ∷ (0, Put s 3 (row 3)) ∷ (1, Fetch q None) ∷ (0, Revoke s b) ∷ (1, Fetch q None) ∷ [])
    ≡ Based 0 ∷ Refused Overrun ∷ Refused Revoked ∷ []
unfolding same_name contents_at words.is_reserved
revoked_overrun = refl

-- THE LAWS AT SUCH RUNS: a premise that they don't meet is refused here
is_that_language : IsLanguage language
is_that_language = is_language (λ limit before now. rows_of now)

abbrev made : ℕ → Command → ReplyModel → Event
made tenant command told = record { tenant = tenant; command = command; told = told }

-- b reads one of two columns; what stands in the other is the word
abbrev with_word : List ℕ → List Event
with_word word = made 0 (Stream p two_columns) Done ∷ made 0 (Grant p b (Some (v ∷ []))) Done ∷ made 1 (Query q (2 ∷ 97 ∷ 112 ∷ [])) (Based 0) ∷ made 0
    (Put p 1 (two_row word 1)) Done ∷ made 0 (Beat p 1) Done ∷ made 1 (Fetch q None) (Blocks (one 1 1 1 []) 2) ∷ made 1 (Drop q) (Refused NoMemory) ∷ []

abbrev word : List ℕ
word = codes "x"

abbrev other_word : List ℕ
other_word = codes "zz"

legal : IsLegal language (opening two) (with_word word)
unfolding same_name contents_at words.is_reserved
legal = (λ e. refl, (λ e. refl, (λ e. refl, (λ e. refl, (λ e. refl, (λ e. refl, (λ e. absurd cc, tt)))))))

other_legal : IsLegal language (opening two) (with_word other_word)
unfolding same_name contents_at words.is_reserved
other_legal = (λ e. refl, (λ e. refl, (λ e. refl, (λ e. refl, (λ e. refl, (λ e. refl, (λ e. absurd cc, tt)))))))

hidden_put : HiddenPut 1 (state_from language (opening two) (take 3 (sent (with_word word)))).namespaces 0 (Put p 1 (two_row word 1)) (Put p 1 (two_row other_word 1))
unfolding same_name contents_at words.is_reserved
hidden_put = record { stream = p; at = 1; row = two_row word 1; other = two_row other_word 1; first = refl; second = refl; away = refl; told = refl; seen = refl }

hidden : AreHiddenIn 1 (nothing_made two) (sent (with_word word)) (sent (with_word other_word))
unfolding same_name contents_at words.is_reserved
hidden = ((refl, inl refl), ((refl, inl refl), ((refl, inl refl), ((refl, inr hidden_put), ((refl, inl refl), ((refl, inl refl), tt))))))

hidden_law_at : IsHiddenLaw → replies_to language 1 (opening two) (sent (with_word word)) ≡ replies_to language 1 (opening two) (sent (with_word other_word))
hidden_law_at law = (law language is_that_language).runs two 1 (sent (with_word word)) (sent (with_word other_word)) hidden

hidden_histories_at : IsHiddenLaw → told_to 1 (with_word word) ≡ told_to 1 (with_word other_word)
hidden_histories_at law = (law language is_that_language).histories two 1 (with_word word) (with_word other_word) legal other_legal hidden

headline_law_at : IsHeadlineLaw → told_to 1 (with_word word) ≡ solo language 1 (solo_opening two 1) (view 1 (nothing_made two) (sent (with_word word)))
headline_law_at law = (law language is_that_language).history two (with_word word) legal 1

machine_law_at : IsMachineLaw → replies_to language 0 (opening two) (without_others 0 (sent (with_word word))) ≡ replies_to language 0 (opening two) (sent (with_word word))
machine_law_at law = (law language is_that_language).alone two 0 (sent (with_word word))

-- no fault is there: that of the table, the name, the columns, another of the name, and how many there are
order_law_at : IsOrderLaw → meaning language 0 (solo_opening two 0) (Stream s numbers) ≡ Done
unfolding same_name words.is_reserved
order_law_at law = ((((((law language is_that_language 0 (solo_opening two 0)).make s numbers).1 refl).1 refl).1 refl).1 refl).1 refl

-- a fetch of a query that is there, by the pin of which the law itself says that it shows the query whole
fetch_law_at : IsOrderLaw → (k : SoloState) (name : List ℕ) (q : SoloQuery) → find_named k.queries name ≡ Some q
    → (p : PinModel) × TellsInOrder 1 k (gone_check q ∷ overrun_check k q ∷ []) (Blocks (language.blocks_of p) (limit_to 1 k q.plan)) (meaning language 1 k (Fetch name None))
fetch_law_at law k name q there =
    let laws : OrderLaw language 1 k = law language is_that_language 1 k in
    let (p, whole) = laws.pin q k.quotas.result (limit_to 1 k q.plan) in
    (p, laws.fetch name q p there whole)

-- where no stream is found
binding_law_at : IsBindingLaw → plan_over language (λ owner stream. None) (0 ∷ own_s) ≡ Err UnknownStream
binding_law_at law = (law language is_that_language (λ owner stream. None) (0 ∷ own_s)).refused UnknownStream refl
