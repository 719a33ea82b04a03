-- The order of checks: of each command, the refusal that is told is that of the first check in the order whose fault is there.
use Rattle.std.specs.Prelude.{◌≡◌, ◌≤◌, ◌<◌, ℕ, ◌-◌, ◌^◌, Bool, true, false, ◌==◌, not, List, [], ◌∷◌, map, length, min, Option, Some, None, option_map, Ok, Err, is_some, is_none, unwrap_or, nat_lt}
use Rattle.cql_value.specs.declared.value.Value.{Value}
use Rattle.cql_value.specs.Name.{is_name}
use Rattle.cql_value.specs.Schema.{is_row_of}
use Rattle.cql_window.specs.Window.{content}
use Rattle.cql_eval.specs.Pin.{PinModel}
use Rattle.cql_tenants.specs.declared.stream.Stream.{Stream as Clocked}
use Rattle.cql_value.specs.declared.schema.Column.{Column}
use Rattle.cql_tenants.specs.Named.{find_named}
use Rattle.cql_window.specs.Chosen.{is_shown}
use Rattle.cql_core.specs.declared.command.ColumnText.{ColumnText}
use Rattle.cql_core.specs.declared.command.Command.TheVariants.{Stream, Grant, Revoke, Put, Beat, Query, Fetch, Ack, Drop, List as Lists}
use Rattle.cql_core.specs.declared.refusal.Refusal.{Refusal}
use Rattle.cql_core.specs.declared.refusal.Refusal.TheVariants.{StreamExists, BadName, BadColumns, TooManyStreams, UnknownStream, UnknownTenant, AlreadyGranted, SelfGrant, BadGrantColumns, NotGranted}
use Rattle.cql_core.specs.declared.refusal.Refusal.TheVariants.{WrongRow, Late, AtTooLarge, BadQuery, TooManyQueries, QueryExists, UnknownQuery, Overrun, Ahead, Behind, Revoked}
use Rattle.cql_core.specs.Columns.{schema_of}
use Rattle.cql_core.specs.Bound.{BoundPlan}
use Rattle.cql_core.specs.ReplyModel.{ReplyModel, Done, Based, Blocks, Refused}
use Rattle.cql_core.specs.Language.{Language, bare, through_projections, contents_at, IsLanguage}
use Rattle.cql_core.specs.Solo.{SoloQuery, SoloState, tenant_in, is_given, plan_in, limit_to, passes, rows_on, meaning_of_list, meaning}

-- a check: whether its fault is there, and the refusal for it
pub record Check : Type 0 where
  pub fault : Bool
  pub refusal : Refusal

abbrev pub check : Bool → Refusal → Check
check fault refusal = record { fault = fault; refusal = refusal }

-- the first of these whose fault is there is told; where there is none, what the command is told otherwise
abbrev pub TellsFirst : List Check → ReplyModel → ReplyModel → Type 0
TellsFirst [] otherwise told = told ≡ otherwise
TellsFirst (c ∷ cs) otherwise told = (c.fault ≡ true → told ≡ Refused c.refusal) × (c.fault ≡ false → TellsFirst cs otherwise told)

-- that the tenant is in the table comes before the command's own checks
abbrev pub Tells : ℕ → SoloState → List Check → ReplyModel → ReplyModel → Type 0
Tells tenant k checks otherwise told = TellsFirst (check (not (nat_lt tenant (length k.names))) UnknownTenant ∷ checks) otherwise told

abbrev pub stream_checks : SoloState → List ℕ → List ColumnText → List Check
stream_checks k name columns =
    check (not (is_name name)) BadName ∷ check (is_none (schema_of columns)) BadColumns ∷ check (is_some (find_named k.streams name)) StreamExists
    ∷ check (not (nat_lt (length k.streams) k.quotas.streams)) TooManyStreams ∷ []

-- a tenant of that name is the tenant itself
abbrev pub is_itself : ℕ → Option ℕ → Bool
is_itself tenant None = false
is_itself tenant (Some index) = index == tenant

-- the stream was given to the tenant of that name
abbrev pub is_given_to : SoloState → List ℕ → Option ℕ → Bool
is_given_to k stream None = false
is_given_to k stream (Some index) = is_given k stream index

-- the columns of a stream of the tenant's own
abbrev pub schema_in : SoloState → List ℕ → List Column
schema_in k stream = unwrap_or (option_map (λ s. s.schema) (find_named k.streams stream)) []

-- over the index of the tenant of the name
abbrev pub grant_checks : ℕ → SoloState → List ℕ → Option (List (List ℕ)) → Option ℕ → List Check
grant_checks tenant k stream columns index =
    check (is_none (find_named k.streams stream)) UnknownStream ∷ check (is_none index) UnknownTenant ∷ check (is_itself tenant index) SelfGrant
    ∷ check (not (is_shown (schema_in k stream) columns)) BadGrantColumns ∷ check (is_given_to k stream index) AlreadyGranted ∷ []

-- a revoke, over the index of the tenant of the name
abbrev pub revoke_checks : ℕ → SoloState → List ℕ → Option ℕ → List Check
revoke_checks tenant k stream index =
    check (is_none (find_named k.streams stream)) UnknownStream ∷ check (is_none index) UnknownTenant ∷ check (is_itself tenant index) NotGranted ∷ check (not (is_given_to k stream index)) NotGranted ∷ []

abbrev pub no_stream : List Check
no_stream = check true UnknownStream ∷ []

-- a time is at most 2^62 - 1, and not below the least that the stream still takes
abbrev pub time_checks : Clocked → ℕ → List Check
time_checks s at = check (nat_lt (2 ^ 62 - 1) at) AtTooLarge ∷ check (nat_lt at s.clock) Late ∷ []

abbrev pub row_checks : Clocked → ℕ → List Value → List Check
row_checks s at row = check (not (is_row_of s.schema row)) WrongRow ∷ time_checks s at

-- 50 tells the byte
abbrev pub query_checks : Language → SoloState → List ℕ → List ℕ → List Check
query_checks language k name text =
    check (not (is_name name)) BadName ∷ check (is_some (language.bad_byte text)) (BadQuery (unwrap_or (language.bad_byte text) 0)) ∷ check (is_some (find_named k.queries name)) QueryExists
    ∷ check (not (nat_lt (length k.queries) k.quotas.queries)) TooManyQueries ∷ []

abbrev pub no_query : List Check
no_query = check true UnknownQuery ∷ []

abbrev pub gone_check : SoloQuery → Check
gone_check q = check q.gone Revoked

abbrev pub overrun_check : SoloState → SoloQuery → Check
overrun_check k q = check (passes k.quotas.hold q) Overrun

abbrev pub behind_check : SoloQuery → ℕ → Check
behind_check q at = check (nat_lt at q.cursor) Behind

-- A pin of a query on the instants from its cursor to before another: nothing is held up to the base, and after it what the windows hold of all rows that came since the registration, each through its input's projection.
pub record ShowsWhole (q : SoloQuery) (result end : ℕ) (p : PinModel) : Type 0 where
  pub plan : bare p.plan ≡ bare q.plan.plan
  pub limit : p.limit ≡ result
  pub from : p.from ≡ q.cursor
  pub next : p.next ≡ end
  pub before : (c : ℕ) → c ≤ q.base → contents_at p c ≡ None
  pub since : (c : ℕ) → q.base < c → contents_at p c ≡ Some (through_projections q.plan.plan.inputs (map (λ i. content i.window c [] (rows_on i.stream_id q.came)) q.plan.inputs))

-- Of each command its checks in their order, and what it is told where no fault is there. Of a fetch that is the blocks
-- of any pin that shows the query whole up to the limit, or up to `until` where that is less; there is such a pin.
pub record OrderLaw (language : Language) (tenant : ℕ) (k : SoloState) : Type 0 where
  pub make : (name : List ℕ) (columns : List ColumnText) → Tells tenant k (stream_checks k name columns) Done (meaning language tenant k (Stream name columns))
  pub grant : (stream to : List ℕ) (columns : Option (List (List ℕ))) → Tells tenant k (grant_checks tenant k stream columns (tenant_in tenant k to)) Done (meaning language tenant k (Grant stream to columns))
  pub revoke : (stream to : List ℕ) → Tells tenant k (revoke_checks tenant k stream (tenant_in tenant k to)) Done (meaning language tenant k (Revoke stream to))
  pub put_nowhere : (name : List ℕ) (at : ℕ) (row : List Value) → find_named k.streams name ≡ None → Tells tenant k no_stream Done (meaning language tenant k (Put name at row))
  pub put : (name : List ℕ) (at : ℕ) (row : List Value) (s : Clocked) → find_named k.streams name ≡ Some s → Tells tenant k (row_checks s at row) Done (meaning language tenant k (Put name at row))
  pub beat_nowhere : (name : List ℕ) (at : ℕ) → find_named k.streams name ≡ None → Tells tenant k no_stream Done (meaning language tenant k (Beat name at))
  pub beat : (name : List ℕ) (at : ℕ) (s : Clocked) → find_named k.streams name ≡ Some s → Tells tenant k (time_checks s at) Done (meaning language tenant k (Beat name at))
  pub query_refused : (name text : List ℕ) (refusal : Refusal) → plan_in language tenant k text ≡ Err refusal
      → Tells tenant k (query_checks language k name text) (Refused refusal) (meaning language tenant k (Query name text))
  pub query : (name text : List ℕ) (plan : BoundPlan) → plan_in language tenant k text ≡ Ok plan
      → Tells tenant k (query_checks language k name text) (Based (limit_to tenant k plan)) (meaning language tenant k (Query name text))
  pub fetch_nothing : (name : List ℕ) (until : Option ℕ) → find_named k.queries name ≡ None → Tells tenant k no_query Done (meaning language tenant k (Fetch name until))
  pub fetch : (name : List ℕ) (q : SoloQuery) (p : PinModel) → find_named k.queries name ≡ Some q → ShowsWhole q k.quotas.result (limit_to tenant k q.plan) p
      → Tells tenant k (gone_check q ∷ overrun_check k q ∷ []) (Blocks (language.blocks_of p) (limit_to tenant k q.plan)) (meaning language tenant k (Fetch name None))
  pub fetch_until : (name : List ℕ) (until : ℕ) (q : SoloQuery) (p : PinModel) → find_named k.queries name ≡ Some q → ShowsWhole q k.quotas.result (min (limit_to tenant k q.plan) until) p
      → Tells tenant k (gone_check q ∷ overrun_check k q ∷ behind_check q until ∷ []) (Blocks (language.blocks_of p) (min (limit_to tenant k q.plan) until)) (meaning language tenant k (Fetch name (Some until)))
  pub ack_nothing : (name : List ℕ) (to : ℕ) → find_named k.queries name ≡ None → Tells tenant k no_query Done (meaning language tenant k (Ack name to))
  pub ack : (name : List ℕ) (to : ℕ) (q : SoloQuery) → find_named k.queries name ≡ Some q
      → Tells tenant k (gone_check q ∷ overrun_check k q ∷ check (nat_lt (limit_to tenant k q.plan) to) Ahead ∷ behind_check q to ∷ []) Done (meaning language tenant k (Ack name to))
  pub drop : (name : List ℕ) → Tells tenant k (check (is_none (find_named k.queries name)) UnknownQuery ∷ []) Done (meaning language tenant k (Drop name))
  pub pin : (q : SoloQuery) (result end : ℕ) → (p : PinModel) × ShowsWhole q result end p
  pub list : Tells tenant k [] (meaning_of_list k) (meaning language tenant k Lists)

abbrev pub IsOrderLaw : Type 0
IsOrderLaw = (language : Language) → IsLanguage language → (tenant : ℕ) (k : SoloState) → OrderLaw language tenant k
