-- What the machine keeps is, through the projections, what the windows need of all rows.
use Rattle.std.proofs.Common.{◌≡◌, ℕ, Bool, true, false, List, [], ◌∷◌, map, refl, ap, subst, ◌∙◌, sym}
use Rattle.std.specs.Prelude.{Option, Some, None, option_map, unwrap_or, nat_lt, if◌then◌else◌}
use Rattle.cql_value.specs.Element.{Element}
use Rattle.cql_window.specs.Window.{charge}
use Rattle.cql_window.specs.Through.{wide_window}
use Rattle.cql_plan.specs.declared.plan.Input.{Input}
use Rattle.cql_tenants.specs.declared.namespace.Namespace.{Namespace}
use Rattle.cql_tenants.specs.Named.{Named, each}
use Rattle.cql_core.specs.StreamId.{StreamId}
use Rattle.cql_core.specs.Bound.{BoundInput, BoundPlan}
use Rattle.cql_core.specs.Language.{Language, IsLanguage, bare}
use Rattle.cql_core.specs.Machine.{Live, State, queries_at}
use Rattle.cql_core.specs.Solo.{Came, SoloQuery, SoloState, rows_on}
use Rattle.cql_core.specs.Trimmed.{lost, kept, held_over, narrow_held, IsHeld, AreHeld, IsKept, AreKept}
use Rattle.cql_core.proofs.Simulation.{SimStub, SimQuery, ProjectedStub, ProjectedLive, stub_of, live_of, wide_at, projected_stub, projected_live, stub_over, trimmed, bare_wide}
use Rattle.cql_core.proofs.Shown.{FullStub, FullStubs, AreSet, FullOr, AllFull}
use Rattle.cql_core.proofs.Ties.{Tied, revoked_is}

over_window : (hold c : ℕ) (i : BoundInput) (rows : List Element) → (held_over hold c i rows).window ≡ i.window
over_window hold c i rows = by (nat_lt hold (charge i.window c [] rows))
  where
    by : (b : Bool) → (if b then lost hold c i else kept hold c i rows).window ≡ i.window
    by true = refl
    by false = refl

module _ (t : ℕ) (d : List Namespace) (f : StreamId → List ℕ) (hold c : ℕ) (came : List Came) where
  abbrev over : BoundInput → ProjectedStub
  over i = stub_over hold c i (rows_on i.stream_id came)

  one_held : (inputs : List BoundInput) (j : BoundInput) (s : SimStub) → FullStub t d inputs s → f j.stream_id ≡ s.projection → projected_stub s ≡ over j
      → IsHeld hold c j (rows_on j.stream_id came) (wide_at f j) (stub_of s)
  one_held inputs j s full projection e =
      let window : s.window ≡ j.window = ap (λ (x : ProjectedStub). x.held.window) e ∙ over_window hold c j (rows_on j.stream_id came) in
      record {
        input = refl;
        stream_id = ap (λ (x : ProjectedStub). x.stream_id) e;
        window = full.window ∙ (λ i. wide_window (sym projection i) (window i));
        held = (λ i. narrow_held (projection i) (sym window i) s.held) ∙ ap (λ (x : ProjectedStub). x.held) e;
      }

  are_held : (inputs : List BoundInput) (is : List Input) (js : List BoundInput) (ss : List SimStub) → FullStubs t d inputs ss → AreSet f is js ss → map projected_stub ss ≡ map over js
      → AreHeld hold c came js (map (wide_at f) js) (map stub_of ss)
  are_held inputs [] [] [] full set e = tt
  are_held inputs [] [] (s ∷ ss) full set e = absurd set
  are_held inputs [] (j ∷ js) ss full set e = absurd set
  are_held inputs (i ∷ is) [] ss full set e = absurd set
  are_held inputs (i ∷ is) (j ∷ js) [] full set e = absurd set
  are_held inputs (i ∷ is) (j ∷ js) (s ∷ ss) full set e =
      let head : projected_stub s ≡ over j = cc in
      let tail : map projected_stub ss ≡ map over js = cc in
      (one_held inputs j s full.0 set.0.1 head, are_held inputs is js ss full.1 set.1 tail)

  or_held : (plan : BoundPlan) (o : Option (List SimStub)) → FullOr t d f plan o → option_map (map projected_stub) o ≡ Some (map over plan.inputs)
      → AreHeld hold c came plan.inputs (map (wide_at f) plan.inputs) (unwrap_or (option_map (map stub_of) o) [])
  or_held plan None full e = absurd cc
  or_held plan (Some ss) full e = let same : map projected_stub ss ≡ map over plan.inputs = cc in are_held plan.inputs plan.plan.inputs plan.inputs ss full.0 full.1 same

module _ (language : Language) (is : IsLanguage language) (t : ℕ) (s : State) (k : SoloState) (tied : Tied t s k) where
  one_kept : (q : SimQuery) (a : SoloQuery) → projected_live q ≡ trimmed k.quotas.hold a → FullOr t s.namespaces q.projection_of q.plan q.stubs → IsKept k.quotas.hold (live_of q) a
  one_kept q a e full = record {
    plan = bare_wide q.projection_of q.plan ∙ ap (λ (l : ProjectedLive). bare l.plan.plan) e;
    text = ap (λ (l : ProjectedLive). l.text) e;
    base = ap (λ (l : ProjectedLive). l.base) e;
    cursor = ap (λ (l : ProjectedLive). l.cursor) e;
    gone = revoked_is language is t s k tied q a e full;
    stubs = λ live.
        let plan : q.plan ≡ a.plan = ap (λ (l : ProjectedLive). l.plan) e in
        let there : option_map (map projected_stub) q.stubs ≡ Some (map (over t s.namespaces q.projection_of k.quotas.hold a.cursor a.came) q.plan.inputs) =
        ap (λ (l : ProjectedLive). l.stubs) e ∙ (λ i. if live i then None else Some (map (over t s.namespaces q.projection_of k.quotas.hold a.cursor a.came) (sym plan i).inputs)) in
        subst (λ (p : BoundPlan). AreHeld k.quotas.hold a.cursor a.came p.inputs (map (wide_at q.projection_of) q.plan.inputs) (unwrap_or (option_map (map stub_of) q.stubs) [])) plan
        (or_held t s.namespaces q.projection_of k.quotas.hold a.cursor a.came q.plan q.stubs full there);
  }

  abbrev first_or : Named ProjectedLive → List (Named ProjectedLive) → Named ProjectedLive
  first_or other [] = other
  first_or other (x ∷ xs) = x

  kept_along : (qs : List (Named SimQuery)) (queries_tied : List (Named SoloQuery)) → AllFull t s.namespaces qs
      → each projected_live qs ≡ each (trimmed k.quotas.hold) queries_tied → AreKept k.quotas.hold (each live_of qs) queries_tied
  kept_along [] [] full e = tt
  kept_along [] (a ∷ rest) full e = absurd cc
  kept_along (q ∷ qs) [] full e = absurd cc
  kept_along (q ∷ qs) (a ∷ rest) full e =
      let first : Named ProjectedLive = record { name = q.name; item = projected_live q.item } in
      let name : q.name ≡ a.name = ap (λ (l : List (Named ProjectedLive)). (first_or first l).name) e in
      let item : projected_live q.item ≡ trimmed k.quotas.hold a.item = ap (λ (l : List (Named ProjectedLive)). (first_or first l).item) e in
      let tail : each projected_live qs ≡ each (trimmed k.quotas.hold) rest = cc in
      ((name, one_kept q.item a.item item full.0), kept_along qs rest full.1 tail)

  pub all_kept : AreKept k.quotas.hold (queries_at s.queries t) k.queries
  all_kept = subst (λ (qs : List (Named Live)). AreKept k.quotas.hold qs k.queries) (sym tied.queries_tied.left) (kept_along tied.queries_tied.sims k.queries tied.queries_tied.full tied.queries_tied.queries)
