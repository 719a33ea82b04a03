-- Beside each query of the machine stands the query that simulates it: the plan as it was typed over the columns that are seen, the indices of these
-- in whole rows, and of each stub its window over them. The machine's query is what is left of it over whole rows.
use Rattle.std.proofs.Common.{◌≡◌, ℕ, Bool, true, false, ◌||◌, List, [], ◌∷◌, ◌++◌, map, refl, ap, ◌∙◌, sym}
use Rattle.std.specs.Prelude.{Option, Some, None, option_map, Result, Ok, Err, is_some, if◌then◌else◌}
use Rattle.std.specs.List.{list_any}
use Rattle.cql_value.specs.Element.{Element}
use Rattle.cql_window.specs.declared.window.Window.{Window}
use Rattle.cql_window.specs.Through.{wide_window}
use Rattle.cql_store.specs.Held.{Held, opened, fed, advanced}
use Rattle.cql_plan.specs.declared.plan.Input.{Input}
use Rattle.cql_plan.specs.declared.plan.Planned.{Planned}
use Rattle.cql_plan.specs.Projected.{alone, visible_alone, widened_by, widened, widened_plan}
use Rattle.cql_tenants.specs.declared.namespace.Namespace.{Namespace}
use Rattle.cql_tenants.specs.Named.{Named, same_name, change_named, each}
use Rattle.cql_tenants.specs.Readable.{StreamView}
use Rattle.cql_core.specs.declared.refusal.Refusal.{Refusal}
use Rattle.cql_core.specs.StreamId.{StreamId, stream_id_of, same_stream_id, projection_in}
use Rattle.cql_core.specs.Bound.{StreamLookup, visible_alone_of, schemas, BoundInput, BoundPlan, owner_of, bound_input, bound}
use Rattle.cql_core.specs.Language.{Language, IsLanguage, AreReadable, bound_or, plan_over, or_widened, bare_input, bare}
use Rattle.cql_core.specs.Checks.{limit_over, least}
use Rattle.cql_core.specs.Lookup.{found_by, visible_at, columns_at}
use Rattle.cql_core.specs.Machine.{Stub, Live, new_stub, new_live, plan_for, put_on, put_live, ack_stub, ack_live, is_over, revoke_live}
use Rattle.cql_core.specs.Solo.{SoloQuery, rows_on}
use Rattle.cql_core.specs.Trimmed.{narrow_held, wide_input, held_over}

-- SHADES
pub record SimStub : Type 0 where
  pub stream_id : StreamId
  pub window : Window
  pub projection : List ℕ
  pub held : Held

pub record SimQuery : Type 0 where
  pub plan : BoundPlan
  pub projection_of : StreamId → List ℕ
  pub text : List ℕ
  pub base : ℕ
  pub cursor : ℕ
  pub stubs : Option (List SimStub)

abbrev pub stub_of : SimStub → Stub
stub_of s = record { stream_id = s.stream_id; held = s.held }

abbrev pub wide_at : (StreamId → List ℕ) → BoundInput → BoundInput
wide_at f i = wide_input (f i.stream_id) i

-- a plan's inputs over whole rows, by the streams of its inputs
abbrev pub wide_inputs : (StreamId → List ℕ) → List Input → List BoundInput → List Input
wide_inputs f [] js = []
wide_inputs f (i ∷ is) [] = i ∷ is
wide_inputs f (i ∷ is) (j ∷ js) = record i { window = wide_window (f j.stream_id) i.window; projection = f j.stream_id } ∷ wide_inputs f is js

abbrev pub wide_plan : (StreamId → List ℕ) → BoundPlan → BoundPlan
wide_plan f p = record { plan = record p.plan { inputs = wide_inputs f p.plan.inputs p.inputs }; inputs = map (wide_at f) p.inputs }

abbrev pub live_of : SimQuery → Live
live_of q = record { plan = wide_plan q.projection_of q.plan; text = q.text; base = q.base; cursor = q.cursor; stubs = option_map (map stub_of) q.stubs }

-- what commands do to them
abbrev pub new_sim_stub : ℕ → ℕ → (StreamId → List ℕ) → BoundInput → SimStub
new_sim_stub hold base f i = record { stream_id = i.stream_id; window = i.window; projection = f i.stream_id; held = opened (wide_window (f i.stream_id) i.window) base hold }

abbrev pub new_sim : ℕ → ℕ → (StreamId → List ℕ) → List ℕ → BoundPlan → SimQuery
new_sim hold base f text plan = record { plan = plan; projection_of = f; text = text; base = base; cursor = base; stubs = Some (map (new_sim_stub hold base f) plan.inputs) }

abbrev pub with_sim : ℕ → (BoundPlan → ℕ) → (StreamId → List ℕ) → List ℕ → List ℕ → Result BoundPlan Refusal → List (Named SimQuery) → List (Named SimQuery)
with_sim hold base_of f name text (Err refusal) queries = queries
with_sim hold base_of f name text (Ok plan) queries = queries ++ record { name = name; item = new_sim hold (base_of plan) f text plan } ∷ []

abbrev pub put_sim_on : StreamId → Element → SimStub → SimStub
put_sim_on stream_id x stub = if same_stream_id stub.stream_id stream_id then record stub { held = fed x stub.held } else stub

abbrev pub put_sim : StreamId → Element → SimQuery → SimQuery
put_sim stream_id x q = record q { stubs = option_map (map (put_sim_on stream_id x)) q.stubs }

abbrev pub ack_sim_stub : ℕ → SimStub → SimStub
ack_sim_stub to stub = record stub { held = advanced to stub.held }

abbrev pub ack_sim : ℕ → SimQuery → SimQuery
ack_sim to q = record q { cursor = to; stubs = option_map (map (ack_sim_stub to)) q.stubs }

abbrev pub revoke_sim : StreamId → SimQuery → SimQuery
revoke_sim stream_id q = if is_over stream_id q.plan then record q { stubs = None } else q

-- AS THEY ARE SEEN
-- a stub and a query by the columns that are seen
pub record ProjectedStub : Type 0 where
  pub stream_id : StreamId
  pub held : Held

pub record ProjectedLive : Type 0 where
  pub plan : BoundPlan
  pub text : List ℕ
  pub base : ℕ
  pub cursor : ℕ
  pub stubs : Option (List ProjectedStub)

abbrev pub projected_stub : SimStub → ProjectedStub
projected_stub stub = record { stream_id = stub.stream_id; held = narrow_held stub.projection stub.window stub.held }

abbrev pub projected_live : SimQuery → ProjectedLive
projected_live q = record { plan = q.plan; text = q.text; base = q.base; cursor = q.cursor; stubs = option_map (map projected_stub) q.stubs }

abbrev pub stub_over : ℕ → ℕ → BoundInput → List Element → ProjectedStub
stub_over hold c i rows = record { stream_id = i.stream_id; held = held_over hold c i rows }

-- one that is gone has no stubs
abbrev pub trimmed : ℕ → SoloQuery → ProjectedLive
trimmed hold q = record { plan = q.plan; text = q.text; base = q.base; cursor = q.cursor; stubs = if q.gone then None else Some (map (λ i. stub_over hold q.cursor i (rows_on i.stream_id q.came)) q.plan.inputs) }

-- THE SAME STREAMS
pub over_wide : (f : StreamId → List ℕ) (p : StreamId) (is : List BoundInput) → list_any (λ i. same_stream_id i.stream_id p) (map (wide_at f) is) ≡ list_any (λ i. same_stream_id i.stream_id p) is
over_wide f p [] = refl
over_wide f p (i ∷ is) = ap (λ b. same_stream_id i.stream_id p || b) (over_wide f p is)

opened_wide : (f : StreamId → List ℕ) (opened : StreamId → ℕ) (is : List BoundInput) → map (λ i. opened i.stream_id) (map (wide_at f) is) ≡ map (λ i. opened i.stream_id) is
opened_wide f opened [] = refl
opened_wide f opened (i ∷ is) = ap (λ l. opened i.stream_id ∷ l) (opened_wide f opened is)

pub limit_wide : (f : StreamId → List ℕ) (opened : StreamId → ℕ) (is : List BoundInput) → limit_over opened (map (wide_at f) is) ≡ limit_over opened is
limit_wide f opened is = ap least (opened_wide f opened is)

bare_inputs : (f : StreamId → List ℕ) (is : List Input) (js : List BoundInput) → map bare_input (wide_inputs f is js) ≡ map bare_input is
bare_inputs f [] js = refl
bare_inputs f (i ∷ is) [] = refl
bare_inputs f (i ∷ is) (j ∷ js) = ap (λ l. bare_input i ∷ l) (bare_inputs f is js)

pub bare_wide : (f : StreamId → List ℕ) (p : BoundPlan) → bare (wide_plan f p).plan ≡ bare p.plan
bare_wide f p = λ i. record p.plan { inputs = bare_inputs f p.plan.inputs p.inputs i }

-- THE MACHINE'S QUERIES ARE WHAT IS LEFT OF THEIR SHADES
stub_put : (p : StreamId) (x : Element) (s : SimStub) (b : Bool) → stub_of (if b then record s { held = fed x s.held } else s) ≡ (if b then record (stub_of s) { held = fed x s.held } else stub_of s)
stub_put p x s true = refl
stub_put p x s false = refl

stubs_put : (p : StreamId) (x : Element) (ss : List SimStub) → map stub_of (map (put_sim_on p x) ss) ≡ map (put_on p x) (map stub_of ss)
stubs_put p x [] = refl
stubs_put p x (s ∷ ss) = λ i. stub_put p x s (same_stream_id s.stream_id p) i ∷ stubs_put p x ss i

or_put : (p : StreamId) (x : Element) (o : Option (List SimStub)) → option_map (map stub_of) (option_map (map (put_sim_on p x)) o) ≡ option_map (map (put_on p x)) (option_map (map stub_of) o)
or_put p x None = refl
or_put p x (Some ss) = ap (λ l. Some l) (stubs_put p x ss)

pub put_left : (p : StreamId) (x : Element) (qs : List (Named SimQuery)) → each (put_live p x) (each live_of qs) ≡ each live_of (each (put_sim p x) qs)
put_left p x [] = refl
put_left p x (q ∷ qs) = λ i. record {
  name = q.name;
  item = record {
    plan = wide_plan q.item.projection_of q.item.plan;
    text = q.item.text;
    base = q.item.base;
    cursor =
        q.item.cursor;
    stubs = sym (or_put p x q.item.stubs) i;
  };
} ∷ put_left p x qs i

stubs_ack : (to : ℕ) (ss : List SimStub) → map stub_of (map (ack_sim_stub to) ss) ≡ map (ack_stub to) (map stub_of ss)
stubs_ack to [] = refl
stubs_ack to (s ∷ ss) = ap (λ l. stub_of (ack_sim_stub to s) ∷ l) (stubs_ack to ss)

or_ack : (to : ℕ) (o : Option (List SimStub)) → option_map (map stub_of) (option_map (map (ack_sim_stub to)) o) ≡ option_map (map (ack_stub to)) (option_map (map stub_of) o)
or_ack to None = refl
or_ack to (Some ss) = ap (λ l. Some l) (stubs_ack to ss)

one_ack : (to : ℕ) (q : SimQuery) → ack_live to (live_of q) ≡ live_of (ack_sim to q)
one_ack to q = λ i. record { plan = wide_plan q.projection_of q.plan; text = q.text; base = q.base; cursor = to; stubs = sym (or_ack to q.stubs) i }

pub ack_left : (to : ℕ) (n : List ℕ) (qs : List (Named SimQuery)) → change_named (ack_live to) n (each live_of qs) ≡ each live_of (change_named (ack_sim to) n qs)
ack_left to n [] = refl
ack_left to n (q ∷ qs) = by (ack_left to n qs) (same_name n q.name)
  where
    by : change_named (ack_live to) n (each live_of qs) ≡ each live_of (change_named (ack_sim to) n qs) → (b : Bool)
        → (if b then record { name = q.name; item = ack_live to (live_of q.item) } ∷ each live_of qs else record { name = q.name; item = live_of q.item } ∷ change_named (ack_live to) n (each live_of qs))
        ≡ each live_of (if b then record q { item = ack_sim to q.item } ∷ qs else q ∷ change_named (ack_sim to) n qs)
    by rest true = ap (λ l. record { name = q.name; item = l } ∷ each live_of qs) (one_ack to q.item)
    by rest false = ap (λ l. record { name = q.name; item = live_of q.item } ∷ l) rest

revoke_if : (q : SimQuery) (b : Bool) → (if b then record (live_of q) { stubs = None } else live_of q) ≡ live_of (if b then record q { stubs = None } else q)
revoke_if q true = refl
revoke_if q false = refl

pub revoke_left : (p : StreamId) (qs : List (Named SimQuery)) → each (revoke_live p) (each live_of qs) ≡ each live_of (each (revoke_sim p) qs)
revoke_left p [] = refl
revoke_left p (q ∷ qs) =
    λ i. record {
      name = q.name;
      item = ((λ i. if over_wide q.item.projection_of p q.item.plan.inputs i then record (live_of q.item) { stubs = None } else live_of q.item)
          ∙ revoke_if q.item (is_over p q.item.plan)) i;
    } ∷ revoke_left p qs i

new_left : (hold base : ℕ) (f : StreamId → List ℕ) (is : List BoundInput) → map (new_stub hold base) (map (wide_at f) is) ≡ map stub_of (map (new_sim_stub hold base f) is)
new_left hold base f [] = refl
new_left hold base f (i ∷ is) = ap (λ l. new_stub hold base (wide_at f i) ∷ l) (new_left hold base f is)

pub new_live_left : (hold base : ℕ) (f : StreamId → List ℕ) (text : List ℕ) (plan : BoundPlan) → new_live hold base text (wide_plan f plan) ≡ live_of (new_sim hold base f text plan)
new_live_left hold base f text plan = λ i. record { plan = wide_plan f plan; text = text; base = base; cursor = base; stubs = Some (new_left hold base f plan.inputs i) }

-- PLANS
abbrev pub wide_or : (StreamId → List ℕ) → Result BoundPlan Refusal → Result BoundPlan Refusal
wide_or f (Err refusal) = Err refusal
wide_or f (Ok plan) = Ok (wide_plan f plan)

-- the plan over the columns that a tenant sees
abbrev pub plan_seen : Language → List Namespace → ℕ → List ℕ → Result BoundPlan Refusal
plan_seen language d t text = plan_over language (found_by d t) text

module _ (f : StreamId → List ℕ) (found : StreamLookup) where
  alone_by : (n : List ℕ) (o : Option StreamView) → option_map alone (option_map (visible_at f n) o) ≡ option_map visible_alone_of o
  alone_by n None = refl
  alone_by n (Some s) = refl

  alone_is : visible_alone (columns_at f found) ≡ schemas found
  alone_is = λ i owner name. alone_by name (found owner name) i

  wide_one : (i : Input) (o : Option StreamView) → is_some (option_map visible_alone_of o) ≡ true
      → widened_by (option_map (visible_at f i.stream) o) i ≡ record i { window = wide_window (f (stream_id_of (owner_of o) i.stream)) i.window; projection = f (stream_id_of (owner_of o) i.stream) }
  wide_one i None h = absurd cc
  wide_one i (Some s) h = refl

  wide_all : (is : List Input) → AreReadable (schemas found) is → map (widened (columns_at f found)) is ≡ wide_inputs f is (map (bound_input found) is)
  wide_all [] h = refl
  wide_all (i ∷ is) h = λ j. wide_one i (found i.owner i.stream) h.0 j ∷ wide_all is h.1 j

  bound_wide : (is : List Input) → map (bound_input found) (wide_inputs f is (map (bound_input found) is)) ≡ map (wide_at f) (map (bound_input found) is)
  bound_wide [] = refl
  bound_wide (i ∷ is) = ap (λ l. wide_at f (bound_input found i) ∷ l) (bound_wide is)

  plan_wide : (p : Planned) → AreReadable (schemas found) p.inputs → bound found (widened_plan (columns_at f found) p) ≡ wide_plan f (bound found p)
  plan_wide p h =
      (λ i. bound found (record p { inputs = wide_all p.inputs h i }))
      ∙ (λ i. record { plan = record p { inputs = wide_inputs f p.inputs (map (bound_input found) p.inputs) }; inputs = bound_wide p.inputs i })

  wide_by : (r : Result Planned Refusal) → ((p : Planned) → r ≡ Ok p → AreReadable (schemas found) p.inputs) → bound_or found (or_widened (columns_at f found) r) ≡ wide_or f (bound_or found r)
  wide_by (Err refusal) h = refl
  wide_by (Ok p) h = ap (λ l. Ok l) (plan_wide p (h p refl))

  -- the plan over whole rows is that over the columns that are seen, widened
  pub plan_at_is : (language : Language) → IsLanguage language → (text : List ℕ) → bound_or found (language.plan_of (columns_at f found) text) ≡ wide_or f (plan_over language found text)
  plan_at_is language is text =
      ap (bound_or found) (is.sees (columns_at f found) text ∙ (λ i. or_widened (columns_at f found) (language.plan_of (alone_is i) text)))
      ∙ wide_by (language.plan_of (schemas found) text) (λ p e. is.reads (schemas found) text p e)

pub plan_for_is : (language : Language) → IsLanguage language → (d : List Namespace) (t : ℕ) (text : List ℕ) → plan_for language d t text ≡ wide_or (projection_in d t) (plan_seen language d t text)
plan_for_is language is d t text = plan_at_is (projection_in d t) (found_by d t) language is text
