-- The checks of the commands on queries, in their order, over what was looked up. The first refusal is told.
use Rattle.std.specs.Prelude.{ℕ, Bool, false, List, [], ◌∷◌, map, min, Option, Some, None, Result, Ok, Err, nat_lt, if◌then◌else◌, option_map}
use Rattle.cql_core.specs.declared.refusal.Refusal.{Refusal}
use Rattle.cql_core.specs.declared.refusal.Refusal.TheVariants.{BadName, BadQuery, TooManyQueries, QueryExists, UnknownQuery, Overrun, Ahead, Behind, Revoked}
use Rattle.cql_core.specs.StreamId.{StreamId}
use Rattle.cql_core.specs.Bound.{BoundInput, BoundPlan}
use Rattle.cql_core.specs.ReplyModel.{ReplyModel, Done, Based, Refused}

-- a plan is told its base
abbrev pub check_plan : Result BoundPlan Refusal → (BoundPlan → ℕ) → ReplyModel
check_plan (Err refusal) base_of = Refused refusal
check_plan (Ok plan) base_of = Based (base_of plan)

-- a refusal, or what is told else
abbrev pub reply_unless : Option Refusal → ReplyModel → ReplyModel
reply_unless None told = told
reply_unless (Some refusal) told = Refused refusal

-- whether the name is one, at which byte the text is refused, whether there is a query of the name, and room for one more
abbrev pub check_query : (named : Bool) → (bad : Option ℕ) → (exists room : Bool) → Result BoundPlan Refusal → (BoundPlan → ℕ) → ReplyModel
check_query named bad exists room planned base_of =
    if named then reply_unless (option_map BadQuery bad) (if exists then Refused QueryExists else (if room then check_plan planned base_of else Refused TooManyQueries)) else Refused BadName

-- why a query that is there is not fetched
abbrev pub check_fetch : (revoked overrun behind : Bool) → Option Refusal
check_fetch revoked overrun behind = if revoked then Some Revoked else if overrun then Some Overrun else (if behind then Some Behind else None)

abbrev pub check_ack : (revoked overrun ahead behind : Bool) → ReplyModel
check_ack revoked overrun ahead behind = if revoked then Refused Revoked else if overrun then Refused Overrun else (if ahead then Refused Ahead else (if behind then Refused Behind else Done))

abbrev pub check_drop : (exists : Bool) → ReplyModel
check_drop exists = if exists then Done else Refused UnknownQuery

-- LIMITS
-- the least of the numbers
abbrev pub least : List ℕ → ℕ
least [] = 0
least (n ∷ []) = n
least (n ∷ m ∷ ns) = min n (least (m ∷ ns))

-- the least time that the inputs' streams still take
abbrev pub limit_over : (StreamId → ℕ) → List BoundInput → ℕ
limit_over opened inputs = least (map (λ i. opened i.stream_id) inputs)

-- where a fetch ends: the limit, or `until` where that is less
abbrev pub next_of : ℕ → Option ℕ → ℕ
next_of limit None = limit
next_of limit (Some until) = min limit until

abbrev pub is_behind : ℕ → Option ℕ → Bool
is_behind cursor None = false
is_behind cursor (Some until) = nat_lt until cursor
