-- How many rows a stream's store has to keep.
use Rattle.std.specs.Prelude.{◌≡◌, ◌⊎◌, ℕ, ◌≤◌, List, [], ◌∷◌, ◌++◌, max, Option, Some, option_map, unwrap_or, if◌then◌else◌}
use Rattle.std.specs.List.{AllByRecursion}
use Rattle.cql_store.specs.Held.{need}
use Rattle.cql_tenants.specs.Named.{Named}
use Rattle.cql_tenants.specs.Namespace.{stream_at}
use Rattle.cql_core.specs.StreamId.{StreamId, same_stream_id}
use Rattle.cql_core.specs.Machine.{Stub, Live, State}

-- the stubs of a query on a stream that aren't overrun
abbrev pub live_on : StreamId → List Stub → List Stub
live_on stream_id [] = []
live_on stream_id (stub ∷ stubs) = if stub.held.overrun then live_on stream_id stubs else (if same_stream_id stub.stream_id stream_id then stub ∷ live_on stream_id stubs else live_on stream_id stubs)

abbrev pub stubs_of : StreamId → List (Named Live) → List Stub
stubs_of stream_id [] = []
stubs_of stream_id (q ∷ qs) = live_on stream_id (unwrap_or q.item.stubs []) ++ stubs_of stream_id qs

-- those of all tenants' queries
abbrev pub stubs_on : StreamId → List (List (Named Live)) → List Stub
stubs_on stream_id [] = []
stubs_on stream_id (qs ∷ rest) = stubs_of stream_id qs ++ stubs_on stream_id rest

abbrev pub greatest_need : List Stub → ℕ
greatest_need [] = 0
greatest_need (stub ∷ stubs) = max (need stub.held) (greatest_need stubs)

-- the greatest need of a stub on the stream, 0 where there is none; none without such a stream
abbrev pub rows_held : State → StreamId → Option ℕ
rows_held s stream_id = option_map (λ v. greatest_need (stubs_on stream_id s.queries)) (stream_at s.namespaces stream_id.owner stream_id.name)

-- a stub with this need is among these
abbrev pub IsNeeded : ℕ → List Stub → Type 0
IsNeeded n [] = ⊥
IsNeeded n (stub ∷ stubs) = (need stub.held ≡ n) ⊎ IsNeeded n stubs

-- the rows that a stream holds are as many as some stub needs, or none, and no stub needs more
abbrev pub IsRowsHeldLaw : Type 0
IsRowsHeldLaw = (s : State) (stream_id : StreamId) (n : ℕ) → rows_held s stream_id ≡ Some n
    → AllByRecursion (λ stub. need stub.held ≤ n) (stubs_on stream_id s.queries) × ((n ≡ 0) ⊎ IsNeeded n (stubs_on stream_id s.queries))
