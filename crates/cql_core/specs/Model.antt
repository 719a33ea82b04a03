-- The machine's queries, by the stubs that are kept for them: what a stub holds is looked up.
use Rattle.std.specs.Prelude.{List, [], ◌∷◌, map, Option, Some, None, unwrap_or, if◌then◌else◌}
use Rattle.cql_store.specs.Held.{Held, opened}
use Rattle.cql_plan.specs.declared.plan.Input.{Input}
use Rattle.cql_tenants.specs.Named.{Named, each}
use Rattle.cql_store.specs.declared.stub_ref.StubRef.{StubRef}
use Rattle.cql_core.specs.StreamId.{StreamId, stream_id_of}
use Rattle.cql_core.specs.Bound.{BoundInput}
use Rattle.cql_core.specs.Machine.{Stub, Live}
use Rattle.cql_core.specs.declared.query_state.QueryState.{QueryState}

-- what each stub holds
abbrev pub Holding : Type 0
Holding = StubRef → Option Held

-- the stream of an input, whose owner its stub tells
abbrev pub stream_id_at : Input → StubRef → StreamId
stream_id_at i p = stream_id_of p.owner i.stream

-- each input with the stream that its stub stands on
abbrev pub bound_inputs : List Input → List StubRef → List BoundInput
bound_inputs [] stub_refs = []
bound_inputs (i ∷ is) [] = []
bound_inputs (i ∷ is) (p ∷ ps) = record { stream_id = stream_id_at i p; window = i.window; projection = i.projection } ∷ bound_inputs is ps

-- a stub that isn't there is as a new one
abbrev pub stub_model : Holding → Input → StubRef → Stub
stub_model held i p = record { stream_id = stream_id_at i p; held = unwrap_or (held p) (opened i.window 0 0) }

-- each input with its stub
abbrev pub stub_models : Holding → List Input → List StubRef → List Stub
stub_models held [] stub_refs = []
stub_models held (i ∷ is) [] = []
stub_models held (i ∷ is) (p ∷ ps) = stub_model held i p ∷ stub_models held is ps

-- a query whose stubs stand
abbrev pub live_model : Holding → QueryState → Live
live_model held q = record {
  plan = record { plan = q.plan; inputs = bound_inputs q.plan.inputs q.stub_refs };
  text = q.text;
  base = q.base;
  cursor = q.cursor;
  stubs = Some (stub_models held q.plan.inputs q.stub_refs);
}

-- one that was revoked has no stubs; its stub references tell whose its inputs' streams are
abbrev pub query_model : Holding → QueryState → Live
query_model held q = record (live_model held q) { stubs = if q.revoked then None else Some (stub_models held q.plan.inputs q.stub_refs) }

abbrev pub queries_model : Holding → List (List (Named QueryState)) → List (List (Named Live))
queries_model held queries = map (each (query_model held)) queries
