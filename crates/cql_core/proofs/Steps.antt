-- Each command keeps the machine's state and what the tenant knows together.
use Rattle.std.proofs.Common.{◌≡◌, ℕ, ◌≤◌, ◌<◌, Bool, true, false, ◌&&◌, eqb, List, [], ◌∷◌, ◌++◌, map, length, set, refl, ap, subst, ◌∙◌, sym, arith, length-set}
use Rattle.std.specs.Prelude.{Option, Some, None, Result, Ok, Err, nat_lt, if◌then◌else◌}
use Rattle.std.proofs.lemmas.Bool.Decides.{nat_tests}
use Rattle.std.proofs.lemmas.List.{length-map}
use Rattle.cql_value.specs.Element.{Element}
use Rattle.cql_tenants.specs.declared.stream.Stream.{Stream as stream}
use Rattle.cql_tenants.specs.Named.{Named, find_named, change_named, remove_named, each}
use Rattle.cql_tenants.specs.declared.namespace.Namespace.{Namespace}
use Rattle.cql_tenants.specs.Namespace.{has_tenant, namespace_at, stream_at, tenant_named, has_grant}
use Rattle.cql_tenants.specs.Checks.{taken_refused}
use Rattle.cql_tenants.specs.Directory.{revoke_from, Revoke as revoke, Put as put}
use Rattle.cql_window.specs.Through.{narrowed, HasProjection}
use Rattle.cql_core.specs.declared.command.Command.{Command}
use Rattle.cql_core.specs.declared.command.Command.TheVariants.{Stream, Grant, Revoke, Put, Beat, Query, Fetch, Ack, Drop, List as Lists}
use Rattle.cql_core.specs.declared.refusal.Refusal.{Refusal}
use Rattle.cql_core.specs.declared.refusal.Refusal.TheVariants.{UnknownTenant}
use Rattle.cql_core.specs.StreamId.{StreamId, stream_id_of, same_stream_id, projection_in}
use Rattle.cql_core.specs.Bound.{BoundPlan}
use Rattle.cql_core.specs.ReplyModel.{done_unless, Refused, is_accepted}
use Rattle.cql_core.specs.Language.{Language, IsLanguage}
use Rattle.cql_core.specs.Checks.{check_ack, check_drop}
use Rattle.cql_core.specs.Directory.{directory_after, reply_on_streams}
use Rattle.cql_core.specs.Lookup.{readable_to, opened_in}
use Rattle.cql_core.specs.Machine.{Live, State, queries_at, limit_in, new_live, with_live, put_live, ack_live, revoke_live, queries_revoked, queries_after, state_after}
use Rattle.cql_core.specs.View.{Own, Gone, Comes, Beats, appears, is_tenant, seen_of_other, seen}
use Rattle.cql_core.specs.Solo.{SoloQuery, SoloState, stream_in, passes, limit_to, meaning_of_ack, own_meaning, with_came, with_gone, without_granted, new_solo_query, with_solo_query, moved}
use Rattle.cql_core.specs.Solo.{solo_done, solo_from, meaning}
use Rattle.cql_core.proofs.Keys.{turned, same_nat}
use Rattle.cql_core.proofs.Look.{queries_map, queries_same, queries_other, each_push, change_each, remove_each}
use Rattle.cql_core.proofs.Simulation.{SimQuery, live_of, projected_live, trimmed, wide_plan, wide_or, new_sim, with_sim, put_sim, ack_sim, revoke_sim, limit_wide, put_left, ack_left}
use Rattle.cql_core.proofs.Simulation.{revoke_left, new_live_left, plan_seen, plan_for_is}
use Rattle.cql_core.proofs.Stubs.{put_live_shown, ack_live_shown, acked_same, new_inputs}
use Rattle.cql_core.proofs.Shown.{AllFull, Keeps, put_projected_queries, put_full_queries, ack_projected_queries, ack_full_queries, revoke_shown, revoke_projected_queries, gone_queries}
use Rattle.cql_core.proofs.Shown.{full_along, full_revoked, new_full_inputs, full_push, full_remove, unput_queries}
use Rattle.cql_core.proofs.Keeps.{keeps_after, keeps_revoke, reached_after, put_has, put_whole}
use Rattle.cql_core.proofs.Sets.{new_set}
use Rattle.cql_core.proofs.Grows.{Reaches, Grows, is_revoke, is_lost, revoke_grow, put_takes, namespaces_grow, reach_takes}
use Rattle.cql_core.proofs.Namespaces.{is_done, revoke_parts, loser_parts, same_revoke, named_within, in_place, same_put, tenant_within, names_of_all, namespaces_length, directory_absent}
use Rattle.cql_core.proofs.Namespaces.{own_namespaces, other_namespaces, unread}
use Rattle.cql_core.proofs.Reach.{all_gone, AllReach, InputsReach, all_grow, all_push, all_joined, all_remove, all_moved, inputs_some, inputs_along, least_reach, fed_all}
use Rattle.cql_core.proofs.Ties.{TiedQueries, Tied, exists, all_read, same_plan, plan_some, limit_is, same_query, same_ack}

abbrev pub state_with : List Namespace → List (List (Named Live)) → State
state_with namespaces queries = record { namespaces = namespaces; queries = queries }

-- both sides ask the same
choose_queries : (t : ℕ) (b c : Bool) → b ≡ c → (d : List Namespace) (q q' : List (List (Named Live))) (k k' : SoloState) → (b ≡ true → TiedQueries t d q k)
    → TiedQueries t d q' k' → TiedQueries t d (if b then q else q') (if c then k else k')
choose_queries t true true e d q q' k k' then_it else_it = then_it refl
choose_queries t true false e d q q' k k' then_it else_it = absurd cc
choose_queries t false true e d q q' k k' then_it else_it = absurd cc
choose_queries t false false e d q q' k k' then_it else_it = else_it

either_queries : (t : ℕ) (b : Bool) (d : List Namespace) (q : List (List (Named Live))) (k k' : SoloState) → TiedQueries t d q k → TiedQueries t d q k' → TiedQueries t d q (if b then k else k')
either_queries t true d q k k' h h' = h
either_queries t false d q k k' h h' = h'

-- what an accepted ack says
ack_parts : (revoked over ahead behind : Bool) → is_accepted (check_ack revoked over ahead behind) ≡ true → (revoked ≡ false) × (over ≡ false) × (ahead ≡ false) × (behind ≡ false)
ack_parts false false false false h = (refl, refl, refl, refl)
ack_parts false false false true h = absurd cc
ack_parts false false true behind h = absurd cc
ack_parts false true ahead behind h = absurd cc
ack_parts true over ahead behind h = absurd cc

-- a registration leaves what it leaves of the simulating query
with_left : (hold : ℕ) (d : List Namespace) (f : StreamId → List ℕ) (name text : List ℕ) (r : Result BoundPlan Refusal) (qs : List (Named SimQuery))
    → with_live hold (limit_in d) name text (wide_or f r) (each live_of qs) ≡ each live_of (with_sim hold (limit_in d) f name text r qs)
with_left hold d f name text (Err refusal) qs = refl
with_left hold d f name text (Ok plan) qs =
    (λ i. each live_of qs ++ record { name = name; item = new_live hold (limit_wide f (opened_in d) plan.inputs i) text (wide_plan f plan) } ∷ [])
    ∙ (λ i. each live_of qs ++ record { name = name; item = new_live_left hold (limit_in d plan) f text plan i } ∷ [])
    ∙ sym (each_push live_of qs (record { name = name; item = new_sim hold (limit_in d plan) f text plan }))

not_below : (n m : ℕ) → nat_lt n m ≡ false → m ≤ n
not_below n m h = grind (arith, nat_tests)

some_eq : (a b : SoloQuery) → Some a ≡ Some b → a ≡ b
some_eq a b e = cc

module _ (language : Language) (is : IsLanguage language) (t : ℕ) (s : State) (k : SoloState) (tied : Tied t s k) where
  -- an accepted ack
  record Acks (q : SoloQuery) (to : ℕ) : Type 0 where
    live : q.gone ≡ false
    over : passes k.quotas.hold q ≡ false
    limit : to ≤ limit_to t k q.plan
    cursor : q.cursor ≤ to

  acks : (to : ℕ) (o : Option SoloQuery) (q : SoloQuery) → is_accepted (meaning_of_ack t k o to) ≡ true → o ≡ Some q → Acks q to
  acks to None q fine e = absurd cc
  acks to (Some p) q fine e = subst (λ (q : SoloQuery). Acks q to) (some_eq p q e)
      (let parts = ack_parts _ _ _ _ fine in record { live = parts.0; over = parts.1; limit = not_below _ to parts.2; cursor = not_below to _ parts.3 })

  -- a registration
  new_same : (text : List ℕ) (plan : BoundPlan) → limit_in s.namespaces plan ≡ limit_to t k plan
      → projected_live (new_sim (namespace_at s.namespaces t).quotas.hold (limit_in s.namespaces plan) (projection_in s.namespaces t) text plan) ≡ trimmed k.quotas.hold (new_solo_query (limit_to t k) text plan)
  new_same text plan e =
      (λ i. projected_live (new_sim (tied.namespaces.quotas i).hold (e i) (projection_in s.namespaces t) text plan))
      ∙ (λ i. record { plan = plan; text = text; base = limit_to t k plan; cursor = limit_to t k plan; stubs = Some (new_inputs k.quotas.hold (limit_to t k plan) (projection_in s.namespaces t) plan.inputs i) })

  with_same : (name text spelled : List ℕ) (r : Result BoundPlan Refusal) → plan_seen language s.namespaces t text ≡ r
      → each projected_live (with_sim (namespace_at s.namespaces t).quotas.hold (limit_in s.namespaces) (projection_in s.namespaces t) name spelled r
      tied.queries_tied.sims) ≡ each (trimmed k.quotas.hold) (with_solo_query (limit_to t k) name spelled r k.queries)
  with_same name text spelled (Err refusal) e = tied.queries_tied.queries
  with_same name text spelled (Ok plan) e =
      let base = limit_is language is t s k tied 0 plan.inputs (plan_some language is t s k tied text plan e) in
      each_push projected_live tied.queries_tied.sims (record { name = name; item = new_sim (namespace_at s.namespaces t).quotas.hold (limit_in s.namespaces plan) (projection_in s.namespaces t) spelled plan })
      ∙ (λ i. tied.queries_tied.queries i ++ record { name = name; item = new_same spelled plan base i } ∷ [])
      ∙ sym (each_push (trimmed k.quotas.hold) k.queries (record { name = name; item = new_solo_query (limit_to t k) spelled plan }))

  with_full : (name text spelled : List ℕ) (r : Result BoundPlan Refusal) → plan_seen language s.namespaces t text ≡ r
      → AllFull t s.namespaces (with_sim (namespace_at s.namespaces t).quotas.hold (limit_in s.namespaces) (projection_in s.namespaces t) name spelled r tied.queries_tied.sims)
  with_full name text spelled (Err refusal) e = tied.queries_tied.full
  with_full name text spelled (Ok plan) e =
      full_push t s.namespaces (record {
        name = name;
        item = new_sim (namespace_at s.namespaces t).quotas.hold (limit_in s.namespaces plan) (projection_in s.namespaces t)
            spelled plan;
      }) tied.queries_tied.sims tied.queries_tied.full (
        new_full_inputs t s.namespaces (namespace_at s.namespaces t).quotas.hold (limit_in s.namespaces plan) plan.inputs (plan_some language is t s k tied text plan e),
        new_set s.namespaces tied.reached t (namespace_at s.namespaces t).quotas.hold (limit_in s.namespaces plan) language is text plan e,
      )

  with_reach : (name text spelled : List ℕ) (r : Result BoundPlan Refusal) → plan_seen language s.namespaces t text ≡ r → AllReach (readable_to s.namespaces t) (with_solo_query (limit_to t k) name spelled r k.queries)
  with_reach name text spelled (Err refusal) e = tied.queries_tied.reach
  with_reach name text spelled (Ok plan) e =
      let some = plan_some language is t s k tied text plan e in
      let same = all_read language is t s k tied in
      let reach : InputsReach (stream_in t k) (limit_to t k plan) plan.inputs =
      least_reach (stream_in t k) (limit_to t k plan) plan.inputs (inputs_along (readable_to s.namespaces t) (stream_in t k) same 0 plan.inputs some)
      (omega arith) in
      all_push (readable_to s.namespaces t) (record { name = name; item = new_solo_query (limit_to t k) spelled plan })
      (inputs_along (stream_in t k) (readable_to s.namespaces t) (λ p. sym (same p)) (limit_to t k plan) plan.inputs reach) k.queries tied.queries_tied.reach

  -- beside a directory in which the tenant reads no less
  module _ (d : List Namespace) (long : length d ≡ length s.namespaces) (keeps : Keeps t s.namespaces d (λ p. false)) (grow : Grows (readable_to s.namespaces t) (readable_to d t)) where
    stay : TiedQueries t d s.queries k
    stay = record {
      beside = tied.queries_tied.beside ∙ sym long;
      sims = tied.queries_tied.sims;
      left = tied.queries_tied.left;
      queries = tied.queries_tied.queries;
      full = full_along t s.namespaces d keeps tied.queries_tied.sims tied.queries_tied.full;
      reach = all_grow _ _ grow k.queries tied.queries_tied.reach;
    }

    -- the same queries, where something else is known too
    alike : (q : List (List (Named Live))) (k' : SoloState) → TiedQueries t d q k → k'.quotas ≡ k.quotas → k'.queries ≡ k.queries → TiedQueries t d q k'
    alike q k' h quotas queries = record {
      beside = h.beside;
      sims = h.sims;
      left = h.left;
      full = h.full;
      queries = h.queries ∙ (λ i. each (trimmed (sym quotas i).hold) (sym queries i));
      reach = subst (AllReach (readable_to d t)) (sym queries) h.reach;
    }

    -- an accepted put
    module _ (u : ℕ) (name : List ℕ) (x : Element) where
      abbrev feeds : List (List (Named Live)) → List (List (Named Live))
      feeds qs = map (each (put_live (stream_id_of u name) x)) qs

      feeds_beside : length (feeds s.queries) ≡ length d
      feeds_beside = length-map s.queries (each (put_live (stream_id_of u name) x)) ∙ tied.queries_tied.beside ∙ sym long

      feeds_at : queries_at (feeds s.queries) t ≡ each (put_live (stream_id_of u name) x) (queries_at s.queries t)
      feeds_at = queries_map (each (put_live (stream_id_of u name) x)) refl s.queries t

      put_seen : is_accepted (reply_on_streams s.namespaces u (put name x.at x.row)) ≡ true → (shown : Element)
          → narrowed (projection_in s.namespaces t (stream_id_of u name)) x ≡ shown → (k' : SoloState) → k'.quotas ≡ k.quotas
          → k'.queries ≡ each (with_came (stream_id_of u name) shown) k.queries → TiedQueries t d (feeds s.queries) k'
      put_seen fine shown look k' quotas queries =
          let p : StreamId = stream_id_of u name in
          let takes = put_takes (stream_at s.namespaces u name) x.at x.row fine in
          let has : Reaches 0 (readable_to s.namespaces t p) → HasProjection (projection_in s.namespaces t p) x = λ r. put_has s.namespaces tied.reached t u name x fine in
          let known : k'.queries ≡ each (with_came p (narrowed (projection_in s.namespaces t p) x)) k.queries = queries ∙ ap (λ y. each (with_came p y) k.queries) (sym look) in
          record {
            beside = feeds_beside;
            sims = each (put_sim p x) tied.queries_tied.sims;
            left = feeds_at ∙ ap (each (put_live p x)) tied.queries_tied.left ∙ put_left p x tied.queries_tied.sims;
            queries = put_projected_queries t s.namespaces p x has tied.queries_tied.sims tied.queries_tied.full
                ∙ ap (each (put_live_shown p (narrowed (projection_in s.namespaces t p) x))) tied.queries_tied.queries
                ∙ fed_all (readable_to s.namespaces t) p (narrowed (projection_in s.namespaces t p) x) k.quotas.hold (λ n h. reach_takes s.namespaces t p n x.at takes h) k.queries tied.queries_tied.reach
                ∙ (λ i. each (trimmed (sym quotas i).hold) (sym known i));
            full = full_along t s.namespaces d keeps _ (put_full_queries t s.namespaces p x has tied.queries_tied.sims tied.queries_tied.full);
            reach = subst (AllReach (readable_to d t)) (sym queries) (all_grow _ _ grow _ (all_joined (readable_to s.namespaces t) p shown k.queries tied.queries_tied.reach));
          }

      put_unseen : readable_to s.namespaces t (stream_id_of u name) ≡ None → TiedQueries t d (feeds s.queries) k
      put_unseen none =
          let p : StreamId = stream_id_of u name in
          record {
            beside = feeds_beside;
            sims = tied.queries_tied.sims;
            left = feeds_at ∙ ap (each (put_live p x)) tied.queries_tied.left ∙ put_left p x tied.queries_tied.sims
                ∙ ap (each live_of) (unput_queries t s.namespaces p x none tied.queries_tied.sims tied.queries_tied.full);
            queries = tied.queries_tied.queries;
            full = full_along t s.namespaces d keeps tied.queries_tied.sims tied.queries_tied.full;
            reach = all_grow _ _ grow _ tied.queries_tied.reach;
          }

    -- ONE OF THE TENANT'S OWN
    module _ (here : t < length s.namespaces) where
      within : t < length s.queries
      within = subst (λ n. t < n) (sym tied.queries_tied.beside) here

      -- its queries change
      own_queries : (qs : List (Named Live)) (sims : List (Named SimQuery)) (new : List (Named SoloQuery)) → qs ≡ each live_of sims
          → each projected_live sims ≡ each (trimmed k.quotas.hold) new → AllFull t s.namespaces sims → AllReach (readable_to s.namespaces t) new
          → TiedQueries t d (set s.queries t qs) (record k { queries = new })
      own_queries qs sims new left same full reach =
          record {
            beside = length-set s.queries t qs ∙ tied.queries_tied.beside ∙ sym long;
            sims = sims;
            left = queries_same s.queries t qs within ∙ left;
            queries =
                same;
            full = full_along t s.namespaces d keeps sims full;
            reach = all_grow _ _ grow new reach;
          }

      own_put : (name : List ℕ) (x : Element) → TiedQueries t d (queries_after language s t (Put name x.at x.row))
          (if is_accepted (own_meaning language t k (Put name x.at x.row)) then solo_done language t k (Put name x.at x.row) else k)
      own_put name x =
          choose_queries t _ _ (ap is_accepted (same_put t s.namespaces k tied.namespaces name x.at x.row)) _ (feeds t name x s.queries) s.queries (solo_done language t k (Put name x.at x.row)) k
          (λ fine. put_seen t name x fine x (put_whole s.namespaces t name x fine) (solo_done language t k (Put name x.at x.row)) refl refl)
          stay

      own_query : (name text : List ℕ) → TiedQueries t d (queries_after language s t (Query name text)) (if is_accepted (own_meaning language t k (Query name text)) then solo_done language t k (Query name text) else k)
      own_query name text =
          let plan = same_plan language is t s k tied text in
          choose_queries t _ _ (ap is_accepted (same_query language is t s k tied name text)) _ (set s.queries t _) s.queries (solo_done language t k (Query name text)) k
          (λ fine. own_queries _ _ _
          ((λ i. with_live (namespace_at s.namespaces t).quotas.hold (limit_in s.namespaces) name (language.spelled text) (plan_for_is language is s.namespaces t text i) (tied.queries_tied.left i))
          ∙ with_left (namespace_at s.namespaces t).quotas.hold s.namespaces (projection_in s.namespaces t) name (language.spelled text) (plan_seen language s.namespaces t text) tied.queries_tied.sims)
          (with_same name text (language.spelled text) _ refl ∙ (λ i. each (trimmed k.quotas.hold)
          (with_solo_query (limit_to t k) name (language.spelled text) (plan i) k.queries))) (with_full name text (language.spelled text) _ refl)
          (subst (λ (r : Result BoundPlan Refusal). AllReach (readable_to s.namespaces t) (with_solo_query (limit_to t k) name (language.spelled text) r k.queries)) plan
          (with_reach name text (language.spelled text) _ refl)))
          stay

      own_ack : (name : List ℕ) (to : ℕ) → TiedQueries t d (queries_after language s t (Ack name to)) (if is_accepted (own_meaning language t k (Ack name to)) then solo_done language t k (Ack name to) else k)
      own_ack name to =
          let same = same_ack language is t s k tied name to in
          let reads = all_read language is t s k tied in
          choose_queries t _ _ (ap is_accepted same) _ (set s.queries t (change_named (ack_live to) name (queries_at s.queries t))) s.queries (solo_done language t k (Ack name to)) k
          (λ fine.
          let meant : is_accepted (meaning_of_ack t k (find_named k.queries name) to) ≡ true = ap is_accepted (sym same) ∙ fine in
          own_queries _ (change_named (ack_sim to) name tied.queries_tied.sims) (change_named (moved to) name k.queries)
          (ap (change_named (ack_live to) name) tied.queries_tied.left ∙ ack_left to name tied.queries_tied.sims)
          (ack_projected_queries t s.namespaces to name tied.queries_tied.sims tied.queries_tied.full ∙ ap (change_named (ack_live_shown to) name) tied.queries_tied.queries
          ∙ change_each (trimmed k.quotas.hold) (ack_live_shown to) (moved to) k.queries name
          (λ q e. let a = acks to (find_named k.queries name) q meant e in acked_same k.quotas.hold to q a.cursor a.over))
          (ack_full_queries t s.namespaces to name tied.queries_tied.sims tied.queries_tied.full)
          (all_moved (readable_to s.namespaces t) name to k.queries tied.queries_tied.reach (λ q e r live.
          let a = acks to (find_named k.queries name) q meant e in
          let some = inputs_along (readable_to s.namespaces t) (stream_in t k) reads 0 q.plan.inputs (inputs_some (readable_to s.namespaces t) q.cursor q.plan.inputs (r live)) in
          inputs_along (stream_in t k) (readable_to s.namespaces t) (λ p. sym (reads p)) to q.plan.inputs (least_reach (stream_in t k) to q.plan.inputs some a.limit))))
          stay

      own_drop : (name : List ℕ) → TiedQueries t d (queries_after language s t (Drop name)) (if is_accepted (own_meaning language t k (Drop name)) then solo_done language t k (Drop name) else k)
      own_drop name =
          choose_queries t _ _ (ap (λ b. is_accepted (check_drop b)) (exists language is t s k tied name)) _ (set s.queries t (remove_named (queries_at s.queries t) name)) s.queries (solo_done language t k (Drop name)) k
          (λ fine. own_queries _ (remove_named tied.queries_tied.sims name) (remove_named k.queries name)
          (ap (λ qs. remove_named qs name) tied.queries_tied.left ∙ remove_each live_of tied.queries_tied.sims name)
          (sym (remove_each projected_live tied.queries_tied.sims name) ∙ ap (λ qs. remove_named qs name) tied.queries_tied.queries
          ∙ remove_each (trimmed k.quotas.hold) k.queries name) (full_remove t s.namespaces name tied.queries_tied.sims tied.queries_tied.full)
          (all_remove (readable_to s.namespaces t) name k.queries tied.queries_tied.reach))
          stay

      own_rest : (c : Command) → is_revoke c ≡ false → TiedQueries t d (queries_after language s t c) (if is_accepted (own_meaning language t k c) then solo_done language t k c else k)
      own_rest (Stream name columns) e = either_queries t _ _ _ (solo_done language t k (Stream name columns)) k (alike _ _ stay refl refl) stay
      own_rest (Grant name to columns) e = either_queries t _ _ _ (solo_done language t k (Grant name to columns)) k (alike _ _ stay refl refl) stay
      own_rest (Revoke name to) e = absurd cc
      own_rest (Put name at row) e = own_put name (record { at = at; row = row })
      own_rest (Beat name at) e = either_queries t _ _ _ (solo_done language t k (Beat name at)) k (alike _ _ stay refl refl) stay
      own_rest (Query name text) e = own_query name text
      own_rest (Fetch name until) e = either_queries t _ _ _ k k stay stay
      own_rest (Ack name to) e = own_ack name to
      own_rest (Drop name) e = own_drop name
      own_rest Lists e = stay

    -- ONE OF ANOTHER'S
    module _ (u : ℕ) (other : eqb u t ≡ false) where
      other_queries : (b : Bool) (qs : List (Named Live)) → TiedQueries t d (if b then set s.queries u qs else s.queries) k
      other_queries true qs = record {
        beside = length-set s.queries u qs ∙ tied.queries_tied.beside ∙ sym long;
        sims = tied.queries_tied.sims;
        left =
            queries_other s.queries u t qs (turned u t false other) ∙ tied.queries_tied.left;
        queries = tied.queries_tied.queries;
        full =
            full_along t s.namespaces d keeps tied.queries_tied.sims tied.queries_tied.full;
        reach = all_grow _ _ grow k.queries tied.queries_tied.reach;
      }
      other_queries false qs = stay

      grant_rest : (name : List ℕ) (columns : Option (List (List ℕ))) (o : Option stream) (b : Bool) → TiedQueries t d s.queries (solo_from language t k (if b then appears u name columns o else []))
      grant_rest name columns None true = stay
      grant_rest name columns (Some v) true = alike s.queries _ stay refl refl
      grant_rest name columns o false = stay

      beat_rest : (p : StreamId) (at : ℕ) (b : Bool) → TiedQueries t d s.queries (solo_from language t k (if b then Beats p at ∷ [] else []))
      beat_rest p at true = alike s.queries _ stay refl refl
      beat_rest p at false = stay

      put_rest : (name : List ℕ) (x : Element) (b c : Bool) → is_accepted (reply_on_streams s.namespaces u (put name x.at x.row)) ≡ b → has_grant s.namespaces u name t ≡ c
          → TiedQueries t d (if b then feeds u name x s.queries else s.queries)
          (solo_from language t k (if b && c then Comes (stream_id_of u name) (narrowed (projection_in s.namespaces t (stream_id_of u name)) x) ∷ [] else []))
      put_rest name x false c fine read = stay
      put_rest name x true false fine read = put_unseen u name x (unread s.namespaces t u name other read)
      put_rest name x true true fine read = put_seen u name x fine _ refl _ refl refl

      other_rest : (c : Command) → is_revoke c ≡ false → TiedQueries t d (queries_after language s u c) (solo_from language t k (seen_of_other t s.namespaces u c))
      other_rest (Stream name columns) e = stay
      other_rest (Grant name to columns) e = grant_rest name columns (stream_at s.namespaces u name) _
      other_rest (Revoke name to) e = absurd cc
      other_rest (Put name at row) e = put_rest name (record { at = at; row = row }) _ _ refl refl
      other_rest (Beat name at) e = beat_rest (stream_id_of u name) at _
      other_rest (Query name text) e = other_queries _ _
      other_rest (Fetch name until) e = stay
      other_rest (Ack name to) e = other_queries _ _
      other_rest (Drop name) e = other_queries _ _
      other_rest Lists e = stay

  -- A REVOKE
  module _ (u : ℕ) (n : List ℕ) where
    abbrev lost : StreamId
    lost = stream_id_of u n

    revoke_far : (o : Option ℕ) → ((index : ℕ) → o ≡ Some index → index < length s.namespaces) → is_tenant t o ≡ false → TiedQueries t (revoke_from s.namespaces u n o) (queries_revoked lost o s.queries) k
    revoke_far None least away = tied.queries_tied
    revoke_far (Some index) within away =
        let d : List Namespace = revoke_from s.namespaces u n (Some index) in
        let law = keeps_revoke t s.namespaces u n (Some index) within in
        let far : (p : StreamId) → is_lost t (Some index) lost p ≡ false = λ p i. away i && same_stream_id p lost in
        let keeps : Keeps t s.namespaces d (λ p. false) = record { read = λ p e h. law.read p (far p) h; projection = λ p e h. law.projection p (far p) h } in
        let same = queries_other s.queries index t (each (revoke_live lost) (queries_at s.queries index)) (turned index t false away) in
        record {
          beside = length-set s.queries index _ ∙ tied.queries_tied.beside ∙ sym (length-set s.namespaces index _);
          sims = tied.queries_tied.sims;
          left = same ∙ tied.queries_tied.left;
          queries = tied.queries_tied.queries;
          full = full_along t s.namespaces d keeps tied.queries_tied.sims tied.queries_tied.full;
          reach = all_grow _ _ (λ p m h. revoke_grow t s.namespaces u n (Some index) within p m (far p) h) k.queries tied.queries_tied.reach;
        }

    revoke_near : (o : Option ℕ) → ((index : ℕ) → o ≡ Some index → index < length s.namespaces) → is_tenant t o ≡ true
        → TiedQueries t (revoke_from s.namespaces u n o) (queries_revoked lost o s.queries) (record k { readable = without_granted lost k.readable; queries = each (with_gone lost) k.queries })
    revoke_near None within near = absurd cc
    revoke_near (Some index) within near =
        let d : List Namespace = revoke_from s.namespaces u n (Some index) in
        let law = keeps_revoke t s.namespaces u n (Some index) within in
        let far : (p : StreamId) → same_stream_id p lost ≡ false → is_lost t (Some index) lost p ≡ false = λ p e. (λ i. near i && same_stream_id p lost) ∙ e in
        let keeps : Keeps t s.namespaces d (λ p. same_stream_id p lost) = record { read = λ p e h. law.read p (far p e) h; projection = λ p e h. law.projection p (far p e) h } in
        let lt : index < length s.queries = subst (λ m. index < m) (sym tied.queries_tied.beside) (within index refl) in
        let same : queries_at (queries_revoked lost (Some index) s.queries) t ≡ each (revoke_live lost) (queries_at s.queries t) =
        subst (λ (w : ℕ). queries_at (queries_revoked lost (Some index) s.queries) w ≡ each (revoke_live lost) (queries_at s.queries w)) (same_nat index t near) (queries_same s.queries index _ lt) in
        record {
          beside = length-set s.queries index _ ∙ tied.queries_tied.beside ∙ sym (length-set s.namespaces index _);
          sims = each (revoke_sim lost) tied.queries_tied.sims;
          left = same ∙ ap (each (revoke_live lost)) tied.queries_tied.left ∙ revoke_left lost tied.queries_tied.sims;
          queries = revoke_projected_queries lost tied.queries_tied.sims ∙ ap (each (revoke_shown lost)) tied.queries_tied.queries ∙ gone_queries k.quotas.hold lost k.queries;
          full = full_revoked t s.namespaces d lost keeps tied.queries_tied.sims tied.queries_tied.full;
          reach = all_gone _ _ lost (λ p m e h. revoke_grow t s.namespaces u n (Some index) within p m (far p e) h) k.queries tied.queries_tied.reach;
        }

    -- the directory and the queries do it where it is accepted
    revoke_by : (to : List ℕ) → u < length s.namespaces → (known : Bool → SoloState)
        → (is_accepted (reply_on_streams s.namespaces u (revoke n to)) ≡ true
        → TiedQueries t (revoke_from s.namespaces u n (tenant_named s.namespaces u to)) (queries_revoked lost (tenant_named s.namespaces u to) s.queries) (known true))
        → TiedQueries t s.namespaces s.queries (known false) → TiedQueries t (directory_after s.namespaces u (Revoke n to)) (queries_after language s u (Revoke n to))
        (known (is_accepted (reply_on_streams s.namespaces u (revoke n to))))
    revoke_by to here known then_it else_it =
        subst (λ (b : Bool). TiedQueries t (if b then revoke_from s.namespaces u n (tenant_named s.namespaces u to) else s.namespaces)
        (queries_after language s u (Revoke n to)) (known (is_accepted (reply_on_streams s.namespaces u (revoke n to)))))
        (sym (is_done (has_tenant s.namespaces u) _ (in_place s.namespaces u here))) (by (is_accepted (reply_on_streams s.namespaces u (revoke n to))) refl)
      where
        by : (b : Bool) → is_accepted (reply_on_streams s.namespaces u (revoke n to)) ≡ b
            → TiedQueries t (if b then revoke_from s.namespaces u n (tenant_named s.namespaces u to) else s.namespaces) (if b then queries_revoked lost (tenant_named s.namespaces u to) s.queries else s.queries) (known b)
        by true fine = then_it fine
        by false fine = else_it

    revoke_seen_by : (o : Option ℕ) → ((index : ℕ) → o ≡ Some index → index < length s.namespaces) → (c : Bool) → is_tenant t o ≡ c
        → TiedQueries t (revoke_from s.namespaces u n o) (queries_revoked lost o s.queries) (solo_from language t k (if c then Gone lost ∷ [] else []))
    revoke_seen_by o within true is = revoke_near o within is
    revoke_seen_by o within false is = revoke_far o within is

    other_revoke : (to : List ℕ) → u < length s.namespaces → TiedQueries t (directory_after s.namespaces u (Revoke n to)) (queries_after language s u (Revoke n to))
        (solo_from language t k (seen_of_other t s.namespaces u (Revoke n to)))
    other_revoke to here =
        revoke_by to here (λ b. solo_from language t k (if b && is_tenant t (tenant_named s.namespaces u to) then Gone lost ∷ [] else []))
        (λ fine. revoke_seen_by (tenant_named s.namespaces u to) (λ index e. named_within s.namespaces u to index here e) _ refl) tied.queries_tied

  taken_far : (n : List ℕ) (o : Option ℕ) → is_accepted (done_unless (taken_refused t (has_grant s.namespaces t n) o)) ≡ true → is_tenant t o ≡ false
  taken_far n None fine = refl
  taken_far n (Some index) fine = loser_parts _ _ fine

  own_revoke : (n to : List ℕ) → t < length s.namespaces → TiedQueries t (directory_after s.namespaces t (Revoke n to)) (queries_after language s t (Revoke n to))
      (if is_accepted (own_meaning language t k (Revoke n to)) then solo_done language t k (Revoke n to) else k)
  own_revoke n to here =
      subst (λ (b : Bool). TiedQueries t (directory_after s.namespaces t (Revoke n to)) (queries_after language s t (Revoke n to))
      (if b then solo_done language t k (Revoke n to) else k)) (ap is_accepted (same_revoke t s.namespaces k tied.namespaces n to))
      (revoke_by t n to here (λ b. if b then solo_done language t k (Revoke n to) else k)
      (λ fine. let h = revoke_far t n (tenant_named s.namespaces t to) (λ index e. named_within s.namespaces t to index here e) (taken_far n _ (revoke_parts _ _ fine)) in
      record { beside = h.beside; sims = h.sims; left = h.left; queries = h.queries; full = h.full; reach = h.reach })
      tied.queries_tied)

  -- THE STEP
  own_queries_step : t < length s.namespaces → (c : Command) (b : Bool) → is_revoke c ≡ b
      → TiedQueries t (directory_after s.namespaces t c) (queries_after language s t c) (if is_accepted (own_meaning language t k c) then solo_done language t k c else k)
  own_queries_step here (Revoke n to) b e = own_revoke n to here
  own_queries_step here (Stream name columns) b e = own_rest (directory_after s.namespaces t (Stream name columns))
      (namespaces_length s.namespaces t (Stream name columns)) (keeps_after t s.namespaces t (Stream name columns) refl)
      (namespaces_grow t s.namespaces t (Stream name columns) refl) here (Stream name columns) refl
  own_queries_step here (Grant n to columns) b e = own_rest (directory_after s.namespaces t (Grant n to columns)) (namespaces_length s.namespaces t (Grant n to columns))
      (keeps_after t s.namespaces t (Grant n to columns) refl) (namespaces_grow t s.namespaces t (Grant n to columns) refl) here (Grant n to columns) refl
  own_queries_step here (Put n at row) b e = own_rest (directory_after s.namespaces t (Put n at row)) (namespaces_length s.namespaces t (Put n at row))
      (keeps_after t s.namespaces t (Put n at row) refl) (namespaces_grow t s.namespaces t (Put n at row) refl) here (Put n at row) refl
  own_queries_step here (Beat n at) b e = own_rest (directory_after s.namespaces t (Beat n at)) (namespaces_length s.namespaces t (Beat n at))
      (keeps_after t s.namespaces t (Beat n at) refl) (namespaces_grow t s.namespaces t (Beat n at) refl) here (Beat n at) refl
  own_queries_step here (Query name text) b e = own_rest (directory_after s.namespaces t (Query name text)) (namespaces_length s.namespaces t (Query name text))
      (keeps_after t s.namespaces t (Query name text) refl) (namespaces_grow t s.namespaces t (Query name text) refl) here (Query name text) refl
  own_queries_step here (Fetch name until) b e = own_rest (directory_after s.namespaces t (Fetch name until)) (namespaces_length s.namespaces t (Fetch name until))
      (keeps_after t s.namespaces t (Fetch name until) refl) (namespaces_grow t s.namespaces t (Fetch name until) refl) here (Fetch name until) refl
  own_queries_step here (Ack name to) b e = own_rest (directory_after s.namespaces t (Ack name to)) (namespaces_length s.namespaces t (Ack name to))
      (keeps_after t s.namespaces t (Ack name to) refl) (namespaces_grow t s.namespaces t (Ack name to) refl) here (Ack name to) refl
  own_queries_step here (Drop name) b e = own_rest (directory_after s.namespaces t (Drop name)) (namespaces_length s.namespaces t (Drop name))
      (keeps_after t s.namespaces t (Drop name) refl) (namespaces_grow t s.namespaces t (Drop name) refl) here (Drop name) refl
  own_queries_step here Lists b e = own_rest (directory_after s.namespaces t Lists) (namespaces_length s.namespaces t Lists) (keeps_after t s.namespaces t Lists refl)
      (namespaces_grow t s.namespaces t Lists refl) here Lists refl

  own_step : t < length s.namespaces → (c : Command) → Tied t (state_with (directory_after s.namespaces t c) (queries_after language s t c))
      (if is_accepted (own_meaning language t k c) then solo_done language t k c else k)
  own_step here c = record { namespaces = own_namespaces language t s.namespaces k tied.namespaces here c; queries_tied = own_queries_step here c _ refl; reached = reached_after s.namespaces t c tied.reached }

  other_queries_step : (u : ℕ) → eqb u t ≡ false → u < length s.namespaces → (c : Command) (b : Bool) → is_revoke c ≡ b
      → TiedQueries t (directory_after s.namespaces u c) (queries_after language s u c) (solo_from language t k (seen_of_other t s.namespaces u c))
  other_queries_step u other here (Revoke n to) b e = other_revoke u n to here
  other_queries_step u other here (Stream name columns) b e = other_rest (directory_after s.namespaces u (Stream name columns))
      (namespaces_length s.namespaces u (Stream name columns)) (keeps_after t s.namespaces u (Stream name columns) refl)
      (namespaces_grow t s.namespaces u (Stream name columns) refl) u other (Stream name columns) refl
  other_queries_step u other here (Grant n to columns) b e = other_rest (directory_after s.namespaces u (Grant n to columns))
      (namespaces_length s.namespaces u (Grant n to columns)) (keeps_after t s.namespaces u (Grant n to columns) refl)
      (namespaces_grow t s.namespaces u (Grant n to columns) refl) u other (Grant n to columns) refl
  other_queries_step u other here (Put n at row) b e = other_rest (directory_after s.namespaces u (Put n at row)) (namespaces_length s.namespaces u (Put n at row))
      (keeps_after t s.namespaces u (Put n at row) refl) (namespaces_grow t s.namespaces u (Put n at row) refl) u other (Put n at row) refl
  other_queries_step u other here (Beat n at) b e = other_rest (directory_after s.namespaces u (Beat n at)) (namespaces_length s.namespaces u (Beat n at))
      (keeps_after t s.namespaces u (Beat n at) refl) (namespaces_grow t s.namespaces u (Beat n at) refl) u other (Beat n at) refl
  other_queries_step u other here (Query name text) b e = other_rest (directory_after s.namespaces u (Query name text))
      (namespaces_length s.namespaces u (Query name text)) (keeps_after t s.namespaces u (Query name text) refl) (namespaces_grow t s.namespaces u (Query name text) refl)
      u other (Query name text) refl
  other_queries_step u other here (Fetch name until) b e = other_rest (directory_after s.namespaces u (Fetch name until))
      (namespaces_length s.namespaces u (Fetch name until)) (keeps_after t s.namespaces u (Fetch name until) refl)
      (namespaces_grow t s.namespaces u (Fetch name until) refl) u other (Fetch name until) refl
  other_queries_step u other here (Ack name to) b e = other_rest (directory_after s.namespaces u (Ack name to)) (namespaces_length s.namespaces u (Ack name to))
      (keeps_after t s.namespaces u (Ack name to) refl) (namespaces_grow t s.namespaces u (Ack name to) refl) u other (Ack name to) refl
  other_queries_step u other here (Drop name) b e = other_rest (directory_after s.namespaces u (Drop name)) (namespaces_length s.namespaces u (Drop name))
      (keeps_after t s.namespaces u (Drop name) refl) (namespaces_grow t s.namespaces u (Drop name) refl) u other (Drop name) refl
  other_queries_step u other here Lists b e = other_rest (directory_after s.namespaces u Lists) (namespaces_length s.namespaces u Lists)
      (keeps_after t s.namespaces u Lists refl) (namespaces_grow t s.namespaces u Lists refl) u other Lists refl

  other_step : (u : ℕ) → eqb u t ≡ false → u < length s.namespaces → (c : Command)
      → Tied t (state_with (directory_after s.namespaces u c) (queries_after language s u c)) (solo_from language t k (seen_of_other t s.namespaces u c))
  other_step u other here c = record {
    namespaces = other_namespaces language t s.namespaces k tied.namespaces u other here c;
    queries_tied =
        other_queries_step u other here c _ refl;
    reached = reached_after s.namespaces u c tied.reached;
  }

  -- a tenant that isn't in the table changes nothing
  absent : (u : ℕ) → has_tenant s.namespaces u ≡ false → (c : Command) → Tied t (state_with (directory_after s.namespaces u c) s.queries) k
  absent u away c = subst (λ (d : List Namespace). Tied t (state_with d s.queries) k) (sym (directory_absent s.namespaces u away c)) tied

  own_in_table : (c : Command) (b : Bool) → has_tenant s.namespaces t ≡ b → nat_lt t (length k.names) ≡ b
      → Tied t (state_with (directory_after s.namespaces t c) (if b then queries_after language s t c else s.queries)) (if is_accepted (meaning language t k c) then solo_done language t k c else k)
  own_in_table c true here there =
      subst (Tied t (state_with (directory_after s.namespaces t c) (queries_after language s t c)))
      (λ i. if is_accepted (if sym there i then own_meaning language t k c else Refused UnknownTenant) then solo_done language t k c else k)
      (own_step (tenant_within s.namespaces t here) c)
  own_in_table c false here there =
      subst (Tied t (state_with (directory_after s.namespaces t c) s.queries))
      (λ i. if is_accepted (if sym there i then own_meaning language t k c else Refused UnknownTenant) then solo_done language t k c else k)
      (absent t here c)

  other_in_table : (u : ℕ) (c : Command) → eqb u t ≡ false → (b : Bool) → has_tenant s.namespaces u ≡ b
      → Tied t (state_with (directory_after s.namespaces u c) (if b then queries_after language s u c else s.queries)) (solo_from language t k (if b then seen_of_other t s.namespaces u c else []))
  other_in_table u c far true here = other_step u far (tenant_within s.namespaces u here) c
  other_in_table u c far false here = absent u here c

  pub in_table : has_tenant s.namespaces t ≡ nat_lt t (length k.names)
  in_table = ap (nat_lt t) (names_of_all t s.namespaces k tied.namespaces)

  step_by : (u : ℕ) (c : Command) (b : Bool) → eqb u t ≡ b
      → Tied t (state_after language s u c) (solo_from language t k (if b then Own c ∷ [] else if has_tenant s.namespaces u then seen_of_other t s.namespaces u c else []))
  step_by u c true is_own = subst (λ (w : ℕ). Tied t (state_after language s w c) (if is_accepted (meaning language t k c) then solo_done language t k c else k))
      (sym (same_nat u t is_own)) (own_in_table c _ refl (sym in_table))
  step_by u c false is_other = other_in_table u c is_other _ refl

  -- any command of any tenant, by what the tenant sees of it
  pub step : (u : ℕ) (c : Command) → Tied t (state_after language s u c) (solo_from language t k (seen t s.namespaces u c))
  step u c = step_by u c _ refl
