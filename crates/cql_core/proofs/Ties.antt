-- How the machine's state and what a tenant knows hang together.
use Rattle.std.proofs.Common.{◌≡◌, ℕ, ◌≤◌, Bool, true, false, ◌||◌, List, [], ◌∷◌, map, length, refl, ap, subst, ◌∙◌, sym}
use Rattle.std.specs.Prelude.{Option, Some, None, option_map, Result, Ok, Err, unwrap_or, is_none, is_some, nat_lt, if◌then◌else◌}
use Rattle.std.specs.List.{list_any}
use Rattle.cql_value.specs.Name.{is_name}
use Rattle.cql_store.specs.Held.{pinned}
use Rattle.cql_core.specs.declared.listing.OwnQuery.{OwnQuery}
use Rattle.cql_tenants.specs.Named.{Named, same_name, find_named, each}
use Rattle.cql_tenants.specs.declared.namespace.Namespace.{Namespace}
use Rattle.cql_tenants.specs.Namespace.{namespace_at}
use Rattle.cql_tenants.specs.Listed.{own_stream}
use Rattle.cql_eval.specs.Pin.{PinModel}
use Rattle.cql_core.specs.declared.command.Command.{Command}
use Rattle.cql_core.specs.declared.command.Command.TheVariants.{Stream, Grant as Share, Revoke, Put, Beat, Query, Fetch, Ack, Drop, List as Lists}
use Rattle.cql_core.specs.declared.refusal.Refusal.{Refusal}
use Rattle.cql_core.specs.declared.refusal.Refusal.TheVariants.{BadName, QueryExists, TooManyQueries, BadQuery}
use Rattle.cql_core.specs.StreamId.{StreamId, projection_in}
use Rattle.cql_core.specs.Bound.{BoundInput, BoundPlan}
use Rattle.cql_core.specs.ReplyModel.{Based, Refused, Blocks, Listed}
use Rattle.cql_core.specs.Language.{Language, IsLanguage, plan_over, reply_to_pin, content_of, through_projections, bare, contents_at}
use Rattle.cql_core.specs.Checks.{check_plan, check_fetch, check_ack, check_drop, limit_over, next_of, is_behind, reply_unless}
use Rattle.cql_core.specs.Lookup.{readable_to, opened_in}
use Rattle.cql_core.specs.Machine.{Live, State, is_revoked, is_overrun, limit_in, queries_at, plan_for, reply_to_query, reply_to_ack, pin_of, reads, pin_unless, step_of_fetch, own_query, reply_to_list, step_at}
use Rattle.cql_core.specs.Solo.{SoloQuery, SoloState, rows_on, limit_to, stream_in, opened_to, passes, whole, blocks_over, plan_in, meaning_of_query, meaning_of_fetch, meaning_of_ack}
use Rattle.cql_core.specs.Solo.{shown_query, meaning_of_list, own_meaning}
use Rattle.cql_core.proofs.Look.{find_each, length_each, some_map}
use Rattle.cql_core.proofs.Simulation.{SimStub, SimQuery, ProjectedStub, ProjectedLive, stub_of, live_of, projected_stub, projected_live, stub_over, trimmed, wide_inputs, limit_wide}
use Rattle.cql_core.proofs.Simulation.{bare_wide, wide_or, plan_seen, plan_for_is}
use Rattle.cql_core.proofs.Stubs.{overrun_shown, overrun_same, contents_same}
use Rattle.cql_core.proofs.Shown.{FullOr, AllFull, contents_projected}
use Rattle.cql_core.proofs.Keeps.{Reached}
use Rattle.cql_core.proofs.Namespaces.{TiedNamespaces, same_reads, same_readable, same_found, same_stream, same_grant, same_revoke, same_put, same_beat}
use Rattle.cql_core.proofs.Reach.{AllReach, InputsReach, find_reach, limit_same, plan_reach}

-- the queries of a tenant, beside a directory: what is left of the queries that simulate them
pub record TiedQueries (t : ℕ) (d : List Namespace) (qs : List (List (Named Live))) (k : SoloState) : Type 0 where
  pub beside : length qs ≡ length d
  pub sims : List (Named SimQuery)
  pub left : queries_at qs t ≡ each live_of sims
  pub queries : each projected_live sims ≡ each (trimmed k.quotas.hold) k.queries
  pub full : AllFull t d sims
  pub reach : AllReach (readable_to d t) k.queries

pub record Tied (t : ℕ) (s : State) (k : SoloState) : Type 0 where
  pub namespaces : TiedNamespaces t s.namespaces k
  pub queries_tied : TiedQueries t s.namespaces s.queries k
  pub reached : Reached s.namespaces

-- a query that is found has its stubs full
pub find_full : (t : ℕ) (d : List Namespace) (n : List ℕ) (q : SimQuery) (qs : List (Named SimQuery)) → AllFull t d qs → find_named qs n ≡ Some q → FullOr t d q.projection_of q.plan q.stubs
find_full t d n q [] full is = absurd cc
find_full t d n q (x ∷ qs) full is = by (find_full t d n q qs full.1) (same_name n x.name) is
  where
    same : Some x.item ≡ Some q → x.item ≡ q
    same e = cc

    by : (find_named qs n ≡ Some q → FullOr t d q.projection_of q.plan q.stubs) → (b : Bool) → (if b then Some x.item else find_named qs n) ≡ Some q → FullOr t d q.projection_of q.plan q.stubs
    by rest true is = subst (λ (q : SimQuery). FullOr t d q.projection_of q.plan q.stubs) (same is) full.0
    by rest false is = rest is

-- a query against what is seen of it
revoked_left : (o : Option (List SimStub)) → is_none (option_map (map stub_of) o) ≡ is_none (option_map (map projected_stub) o)
revoked_left None = refl
revoked_left (Some ss) = refl

gone_is : (gone : Bool) (l : List ProjectedStub) → is_none (if gone then None else Some l) ≡ gone
gone_is true l = refl
gone_is false l = refl

overrun_stubs : (ss : List SimStub) → list_any (λ stub. stub.held.overrun) (map stub_of ss) ≡ list_any (λ stub. stub.held.overrun) (map projected_stub ss)
overrun_stubs [] = refl
overrun_stubs (s ∷ ss) = ap (λ b. s.held.overrun || b) (overrun_stubs ss)

overrun_left : (o : Option (List SimStub)) → list_any (λ stub. stub.held.overrun) (unwrap_or (option_map (map stub_of) o) []) ≡ list_any (λ stub. stub.held.overrun) (unwrap_or (option_map (map projected_stub) o) [])
overrun_left None = refl
overrun_left (Some ss) = overrun_stubs ss

some_shown : (a b : ProjectedLive) → Some a ≡ Some b → a ≡ b
some_shown a b e = cc

abbrev own_shown : Named ProjectedLive → OwnQuery
own_shown q = record { name = q.name; text = q.item.text; base = q.item.base; next = q.item.cursor }

listed_projected : (qs : List (Named SimQuery)) → map own_query (each live_of qs) ≡ map own_shown (each projected_live qs)
listed_projected [] = refl
listed_projected (q ∷ qs) = ap (λ l. own_query (record { name = q.name; item = live_of q.item }) ∷ l) (listed_projected qs)

module _ (language : Language) (is : IsLanguage language) (t : ℕ) (s : State) (k : SoloState) (tied : Tied t s k) where
  pub found : (n : List ℕ) → option_map projected_live (find_named tied.queries_tied.sims n) ≡ option_map (trimmed k.quotas.hold) (find_named k.queries n)
  found n = sym (find_each projected_live tied.queries_tied.sims n) ∙ ap (λ qs. find_named qs n) tied.queries_tied.queries ∙ find_each (trimmed k.quotas.hold) k.queries n

  -- a query of the machine is what is left of the simulating query of its name
  pub found_left : (n : List ℕ) → find_named (queries_at s.queries t) n ≡ option_map live_of (find_named tied.queries_tied.sims n)
  found_left n = ap (λ qs. find_named qs n) tied.queries_tied.left ∙ find_each live_of tied.queries_tied.sims n

  pub exists : (n : List ℕ) → is_some (find_named (queries_at s.queries t) n) ≡ is_some (find_named k.queries n)
  exists n =
      ap is_some (found_left n) ∙ some_map live_of (find_named tied.queries_tied.sims n)
      ∙ sym (some_map projected_live (find_named tied.queries_tied.sims n)) ∙ ap is_some (found n) ∙ some_map (trimmed k.quotas.hold) (find_named k.queries n)

  many : length (queries_at s.queries t) ≡ length k.queries
  many =
      ap length tied.queries_tied.left ∙ length_each live_of tied.queries_tied.sims
      ∙ sym (length_each projected_live tied.queries_tied.sims) ∙ ap length tied.queries_tied.queries ∙ length_each (trimmed k.quotas.hold) k.queries

  pub all_read : (p : StreamId) → readable_to s.namespaces t p ≡ stream_in t k p
  all_read = same_readable t s.namespaces k tied.namespaces

  pub same_plan : (text : List ℕ) → plan_seen language s.namespaces t text ≡ plan_in language t k text
  same_plan text = λ i. plan_over language (λ owner name. same_found t s.namespaces k tied.namespaces owner name i) text

  -- the inputs of a plan are read
  pub plan_some : (text : List ℕ) (plan : BoundPlan) → plan_seen language s.namespaces t text ≡ Ok plan → InputsReach (readable_to s.namespaces t) 0 plan.inputs
  plan_some text plan e = plan_reach language is s.namespaces t text plan e

  pub limit_is : (n : ℕ) (inputs : List BoundInput) → InputsReach (readable_to s.namespaces t) n inputs → limit_over (opened_in s.namespaces) inputs ≡ limit_over (opened_to t k) inputs
  limit_is n inputs h = limit_same s.namespaces t (stream_in t k) all_read n inputs h

  told_plan : (text : List ℕ) (r : Result BoundPlan Refusal) → plan_seen language s.namespaces t text ≡ r → check_plan (wide_or (projection_in s.namespaces t) r) (limit_in s.namespaces) ≡ check_plan r (limit_to t k)
  told_plan text (Err refusal) e = refl
  told_plan text (Ok plan) e = ap (λ n. Based n) (limit_wide (projection_in s.namespaces t) (opened_in s.namespaces) plan.inputs ∙ limit_is 0 plan.inputs (plan_some text plan e))

  told : (text : List ℕ) → check_plan (plan_for language s.namespaces t text) (limit_in s.namespaces) ≡ check_plan (plan_in language t k text) (limit_to t k)
  told text = ap (λ r. check_plan r (limit_in s.namespaces)) (plan_for_is language is s.namespaces t text) ∙ told_plan text _ refl ∙ ap (λ r. check_plan r (limit_to t k)) (same_plan text)

  pub same_query : (name text : List ℕ) → reply_to_query language s t name text ≡ meaning_of_query language t k name text
  same_query name text =
      λ i. if is_name name
      then reply_unless (option_map BadQuery (language.bad_byte text)) (if exists name i then Refused QueryExists else (if nat_lt (many i) (tied.namespaces.quotas i).queries then told text i else Refused TooManyQueries))
      else Refused BadName

  -- all rows of a query, from its cursor up to an instant
  abbrev untrimmed_pin : ℕ → SoloQuery → ℕ → PinModel
  untrimmed_pin result q next = record { plan = q.plan.plan; base = q.base; from = q.cursor; next = next; limit = result; windows = map (whole q) q.plan.inputs }

  -- a simulating query and a query that is known, where they are the same as they are seen
  module _ (q : SimQuery) (a : SoloQuery) (e : projected_live q ≡ trimmed k.quotas.hold a) (full : FullOr t s.namespaces q.projection_of q.plan q.stubs) where
    plan_is : q.plan ≡ a.plan
    plan_is = ap (λ (l : ProjectedLive). l.plan) e

    cursor_is : q.cursor ≡ a.cursor
    cursor_is = ap (λ (l : ProjectedLive). l.cursor) e

    pub revoked_is : is_revoked (live_of q) ≡ a.gone
    revoked_is = revoked_left q.stubs ∙ ap (λ (l : ProjectedLive). is_none l.stubs) e ∙ gone_is a.gone _

    module _ (live : a.gone ≡ false) where
      over_is : is_overrun (live_of q) ≡ passes k.quotas.hold a
      over_is = overrun_left q.stubs ∙ ap overrun_shown e ∙ overrun_same k.quotas.hold a live

      limit_of : InputsReach (readable_to s.namespaces t) a.cursor a.plan.inputs → limit_in s.namespaces (live_of q).plan ≡ limit_to t k a.plan
      limit_of reach =
          limit_wide q.projection_of (opened_in s.namespaces) q.plan.inputs
          ∙ ap (λ (p : BoundPlan). limit_over (opened_in s.namespaces) p.inputs) plan_is ∙ limit_is a.cursor a.plan.inputs reach

      abbrev over : BoundInput → ProjectedStub
      over i = stub_over k.quotas.hold a.cursor i (rows_on i.stream_id a.came)

      kept_is : option_map (map projected_stub) q.stubs ≡ Some (map over a.plan.inputs)
      kept_is = ap (λ (l : ProjectedLive). l.stubs) e ∙ (λ i. if live i then None else Some (map over a.plan.inputs))

      -- what the stubs hold through the projections is what those of all rows hold
      contents_by : (next c : ℕ) (o : Option (List SimStub)) → FullOr t s.namespaces q.projection_of q.plan o → option_map (map projected_stub) o ≡ Some (map over a.plan.inputs)
          → through_projections (wide_inputs q.projection_of q.plan.plan.inputs q.plan.inputs) (map (content_of c) (map (λ stub. pinned next stub.held) (unwrap_or (option_map (map stub_of) o) [])))
          ≡ through_projections q.plan.plan.inputs (map (content_of c) (map (λ stub. pinned next stub.held) (map over a.plan.inputs)))
      contents_by next c None full e = absurd cc
      contents_by next c (Some ss) full e =
          let same : map projected_stub ss ≡ map over a.plan.inputs = cc in
          contents_projected t s.namespaces q.projection_of q.plan.inputs next c q.plan.plan.inputs q.plan.inputs ss full.0 full.1
          ∙ ap (λ (l : List ProjectedStub). through_projections q.plan.plan.inputs (map (content_of c) (map (λ stub. pinned next stub.held) l))) same

      -- the pin of what is kept has the contents of all rows
      same_contents : (result next c : ℕ) → q.cursor ≤ c → c ≤ next → passes k.quotas.hold a ≡ false → contents_at (pin_of result (live_of q) next) c ≡ contents_at (untrimmed_pin result a next) c
      unfolding contents_at
      same_contents result next c ge le fits =
          ap (λ cs. if nat_lt q.base c then Some cs else None) (contents_by next c q.stubs full kept_is)
          ∙ (λ i. if nat_lt (ap (λ (l : ProjectedLive). l.base) e i) c then Some
          (through_projections (plan_is i).plan.inputs (map (content_of c) (map (λ stub. pinned next stub.held) (map over a.plan.inputs)))) else None)
          ∙ ap (λ cs. if nat_lt a.base c then Some (through_projections a.plan.plan.inputs cs) else None) (contents_same k.quotas.hold c next a (subst (λ n. n ≤ c) cursor_is ge) le fits)

      same_pin : (result next : ℕ) → passes k.quotas.hold a ≡ false → reply_to_pin language (pin_of result (live_of q) next) ≡ blocks_over language result a next
      same_pin result next fits =
          ap (λ bs. Blocks bs next)
          (is.local (pin_of result (live_of q) next) (untrimmed_pin result a next)
          (record { plan = bare_wide q.projection_of q.plan ∙ ap (λ (p : BoundPlan). bare p.plan) plan_is; limit = refl; from = cursor_is; next = refl; contents = λ c ge le. same_contents result next c ge le fits }))

      fetch_fits : (result next : ℕ) (passed behind : Bool) → passes k.quotas.hold a ≡ passed
          → reads language (pin_unless (check_fetch false passed behind) (pin_of result (live_of q) next)) ≡ reply_unless (check_fetch false passed behind) (blocks_over language result a next)
      fetch_fits result next true behind fits = refl
      fetch_fits result next false true fits = refl
      fetch_fits result next false false fits = same_pin result next fits

    fetch_by : (until : Option ℕ) (gone : Bool) → a.gone ≡ gone → (a.gone ≡ false → InputsReach (readable_to s.namespaces t) a.cursor a.plan.inputs)
        → reads language (pin_unless (check_fetch gone (is_overrun (live_of q)) (is_behind a.cursor until)) (pin_of k.quotas.result (live_of q) (next_of (limit_in s.namespaces (live_of q).plan) until)))
        ≡ reply_unless (check_fetch gone (passes k.quotas.hold a) (is_behind a.cursor until)) (blocks_over language k.quotas.result a (next_of (limit_to t k a.plan) until))
    fetch_by until true is reach = refl
    fetch_by until false is reach =
        (λ i. reads language (pin_unless (check_fetch false (over_is is i) (is_behind a.cursor until)) (pin_of k.quotas.result (live_of q) (next_of (limit_of is (reach is) i) until))))
        ∙ fetch_fits is k.quotas.result (next_of (limit_to t k a.plan) until) (passes k.quotas.hold a) (is_behind a.cursor until) refl

    fetch_one : (until : Option ℕ) → (a.gone ≡ false → InputsReach (readable_to s.namespaces t) a.cursor a.plan.inputs)
        → reads language (step_of_fetch s.namespaces k.quotas.result (Some (live_of q)) until) ≡ meaning_of_fetch language t k (Some a) until
    fetch_one until reach =
        (λ i. reads language (pin_unless (check_fetch (revoked_is i) (is_overrun (live_of q)) (is_behind (cursor_is i) until))
        (pin_of k.quotas.result (live_of q) (next_of (limit_in s.namespaces (live_of q).plan) until))))
        ∙ fetch_by until a.gone refl reach

    ack_by : (to : ℕ) (gone : Bool) → a.gone ≡ gone → (a.gone ≡ false → InputsReach (readable_to s.namespaces t) a.cursor a.plan.inputs)
        → check_ack gone (is_overrun (live_of q)) (nat_lt (limit_in s.namespaces (live_of q).plan) to) (nat_lt to a.cursor) ≡ check_ack gone (passes k.quotas.hold a) (nat_lt (limit_to t k a.plan) to) (nat_lt to a.cursor)
    ack_by to true is reach = refl
    ack_by to false is reach = λ i. check_ack false (over_is is i) (nat_lt (limit_of is (reach is) i) to) (nat_lt to a.cursor)

    ack_one : (to : ℕ) → (a.gone ≡ false → InputsReach (readable_to s.namespaces t) a.cursor a.plan.inputs) → reply_to_ack s.namespaces (Some (live_of q)) to ≡ meaning_of_ack t k (Some a) to
    ack_one to reach = (λ i. check_ack (revoked_is i) (is_overrun (live_of q)) (nat_lt (limit_in s.namespaces (live_of q).plan) to) (nat_lt to (cursor_is i))) ∙ ack_by to a.gone refl reach

  fetch_found : (n : List ℕ) (until : Option ℕ) (l : Option SimQuery) (o : Option SoloQuery) → find_named tied.queries_tied.sims n ≡ l → find_named k.queries n ≡ o
      → option_map projected_live l ≡ option_map (trimmed k.quotas.hold) o
      → reads language (step_of_fetch s.namespaces k.quotas.result (option_map live_of l) until) ≡ meaning_of_fetch language t k o until
  fetch_found n until None None at e same = refl
  fetch_found n until None (Some a) at e same = absurd cc
  fetch_found n until (Some q) None at e same = absurd cc
  fetch_found n until (Some q) (Some a) at e same =
      fetch_one q a (some_shown _ _ same) (find_full t s.namespaces n q tied.queries_tied.sims tied.queries_tied.full at) until (find_reach (readable_to s.namespaces t) n a k.queries tied.queries_tied.reach e)

  same_fetch : (n : List ℕ) (until : Option ℕ) → reads language (step_of_fetch s.namespaces (namespace_at s.namespaces t).quotas.result
      (find_named (queries_at s.queries t) n) until) ≡ meaning_of_fetch language t k (find_named k.queries n) until
  same_fetch n until = (λ i. reads language (step_of_fetch s.namespaces (tied.namespaces.quotas i).result (found_left n i) until)) ∙ fetch_found n until _ _ refl refl (found n)

  ack_found : (n : List ℕ) (to : ℕ) (l : Option SimQuery) (o : Option SoloQuery) → find_named tied.queries_tied.sims n ≡ l → find_named k.queries n ≡ o → option_map projected_live l ≡ option_map (trimmed k.quotas.hold) o
      → reply_to_ack s.namespaces (option_map live_of l) to ≡ meaning_of_ack t k o to
  ack_found n to None None at e same = refl
  ack_found n to None (Some a) at e same = absurd cc
  ack_found n to (Some q) None at e same = absurd cc
  ack_found n to (Some q) (Some a) at e same =
      ack_one q a (some_shown _ _ same) (find_full t s.namespaces n q tied.queries_tied.sims tied.queries_tied.full at) to (find_reach (readable_to s.namespaces t) n a k.queries tied.queries_tied.reach e)

  pub same_ack : (n : List ℕ) (to : ℕ) → reply_to_ack s.namespaces (find_named (queries_at s.queries t) n) to ≡ meaning_of_ack t k (find_named k.queries n) to
  same_ack n to = ap (λ l. reply_to_ack s.namespaces l to) (found_left n) ∙ ack_found n to _ _ refl refl (found n)

  shown_queries : (hold : ℕ) (qs : List (Named SoloQuery)) → map own_shown (each (trimmed hold) qs) ≡ map shown_query qs
  shown_queries hold [] = refl
  shown_queries hold (q ∷ qs) = ap (λ l. shown_query q ∷ l) (shown_queries hold qs)

  same_list : reply_to_list s t ≡ meaning_of_list k
  same_list = λ i. Listed (record {
    streams = map own_stream (tied.namespaces.streams i);
    readable = same_reads t s.namespaces k tied.namespaces i;
    queries = (ap (map own_query) tied.queries_tied.left ∙ listed_projected tied.queries_tied.sims ∙ ap (map own_shown) tied.queries_tied.queries ∙ shown_queries k.quotas.hold k.queries) i;
  })

  -- the machine tells what the command means
  pub same_told : (c : Command) → reads language (step_at language s t c) ≡ own_meaning language t k c
  same_told (Stream name columns) = same_stream t s.namespaces k tied.namespaces name columns
  same_told (Share stream to columns) = same_grant t s.namespaces k tied.namespaces stream to columns
  same_told (Revoke stream to) = same_revoke t s.namespaces k tied.namespaces stream to
  same_told (Put stream at row) = same_put t s.namespaces k tied.namespaces stream at row
  same_told (Beat stream at) = same_beat t s.namespaces k tied.namespaces stream at
  same_told (Query name text) = same_query name text
  same_told (Fetch name until) = same_fetch name until
  same_told (Ack name to) = same_ack name to
  same_told (Drop name) = ap check_drop (exists name)
  same_told Lists = same_list
