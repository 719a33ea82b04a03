-- What a view makes of a query.
use Rattle.std.proofs.Common.{◌≡◌, ℕ, Bool, true, false, ◌&&◌, ◌||◌, List, [], ◌∷◌, ◌++◌, length, refl, ap, ◌∙◌, sym, append_assoc, append-nil}
use Rattle.std.specs.Prelude.{Option, Some, None, option_map, Result, Ok, Err, is_some, if◌then◌else◌, nat_lt, unwrap_or}
use Rattle.cql_value.specs.Element.{Element}
use Rattle.cql_value.specs.Name.{is_name}
use Rattle.cql_tenants.specs.Named.{same_name, find_named, change_named, each}
use Rattle.cql_core.specs.declared.command.Command.{Command}
use Rattle.cql_core.specs.declared.command.Command.TheVariants.{Stream, Grant, Revoke, Put, Beat, Query, Fetch, Ack, Drop, List as Lists}
use Rattle.cql_core.specs.declared.refusal.Refusal.{Refusal}
use Rattle.cql_core.specs.declared.refusal.Refusal.TheVariants.{UnknownTenant}
use Rattle.cql_core.specs.StreamId.{StreamId, stream_id_of}
use Rattle.cql_core.specs.Bound.{BoundPlan}
use Rattle.cql_core.specs.ReplyModel.{Refused, is_accepted}
use Rattle.cql_core.specs.Language.{Language}
use Rattle.cql_core.specs.Checks.{check_query}
use Rattle.cql_core.specs.View.{Seen, Own, Appears, Gone, Comes, Beats}
use Rattle.cql_core.specs.Solo.{Came, SoloQuery, SoloState, solo_opening, limit_to, plan_in, meaning, with_came, with_gone, new_solo_query, with_solo_query, moved, solo_done, solo_after, solo_from}
use Rattle.cql_core.specs.Law.{brought, elements_in, drops, is_dropped, ack_of, last_ack, loses, is_lost, IsQueryLaw}
use Rattle.cql_core.proofs.Keys.{name_eq}
use Rattle.cql_core.proofs.Look.{find_each, find_keep, change_same, change_other, remove_other, find_new}

either_false : (a b : Bool) → (a || b) ≡ false → (a ≡ false) × (b ≡ false)
either_false false b e = (refl, e)
either_false true b e = absurd cc

solo_append : (language : Language) (t : ℕ) (k : SoloState) (es fs : List Seen) → solo_from language t k (es ++ fs) ≡ solo_from language t (solo_from language t k es) fs
solo_append language t k [] fs = refl
solo_append language t k (e ∷ es) fs = solo_append language t (solo_after language t k e) es fs

-- the query at a cursor, with some elements more, and gone where one of its streams was lost
abbrev asked_later : SoloQuery → ℕ → List Came → Bool → SoloQuery
asked_later q cursor xs lost = record q { cursor = cursor; came = q.came ++ xs; gone = q.gone || lost }

or_false : (b : Bool) → (b || false) ≡ b
or_false true = refl
or_false false = refl

or_assoc : (a b c : Bool) → ((a || b) || c) ≡ (a || (b || c))
or_assoc true b c = refl
or_assoc false b c = refl

stays : (q : SoloQuery) → q ≡ asked_later q q.cursor [] false
stays q = λ i. record q { came = sym (append-nil q.came) i; gone = sym (or_false q.gone) i }

module _ (language : Language) (t : ℕ) (k : SoloState) (name : List ℕ) (q : SoloQuery) (here : find_named k.queries name ≡ Some q) where
  abbrev Follows : Seen → Type 0
  Follows e = find_named (solo_after language t k e).queries name ≡ Some (asked_later q (unwrap_or (ack_of language t k name e) q.cursor) (brought language t k e) (loses q.plan e))

  there : find_named k.queries name ≡ Some (asked_later q q.cursor [] false)
  there = here ∙ ap (λ q. Some q) (stays q)

  same_step : (c : Command) (b : Bool) → (solo_done language t k c).queries ≡ k.queries → find_named (if b then solo_done language t k c else k).queries name ≡ Some (asked_later q q.cursor [] false)
  same_step c true same = ap (λ qs. find_named qs name) same ∙ there
  same_step c false same = there

  comes : (p : StreamId) (x : Element) → find_named (each (with_came p x) k.queries) name ≡ Some (asked_later q q.cursor (record { stream_id = p; element = x } ∷ []) false)
  comes p x = find_each (with_came p x) k.queries name ∙ ap (option_map (with_came p x)) here ∙ (λ i. Some (record (with_came p x q) { gone = sym (or_false q.gone) i }))

  goes : (p : StreamId) → find_named (each (with_gone p) k.queries) name ≡ Some (asked_later q q.cursor [] (loses q.plan (Gone p)))
  goes p = find_each (with_gone p) k.queries name ∙ ap (option_map (with_gone p)) here ∙ (λ i. Some (record (with_gone p q) { came = sym (append-nil q.came) i }))

  put_by : (n : List ℕ) (x : Element) (b : Bool)
      → find_named (if b then solo_done language t k (Put n x.at x.row) else k).queries name ≡ Some (asked_later q q.cursor (if b then record { stream_id = stream_id_of t n; element = x } ∷ [] else []) false)
  put_by n x true = comes (stream_id_of t n) x
  put_by n x false = there

  asked_by : (n text : List ℕ) (r : Result BoundPlan Refusal) → find_named (with_solo_query (limit_to t k) n text r k.queries) name ≡ Some (asked_later q q.cursor [] false)
  asked_by n text (Err refusal) = there
  asked_by n text (Ok plan) = find_keep k.queries _ name q here ∙ ap (λ q. Some q) (stays q)

  query_by : (n text : List ℕ) (b : Bool) → find_named (if b then solo_done language t k (Query n text) else k).queries name ≡ Some (asked_later q q.cursor [] false)
  query_by n text true = asked_by n (language.spelled text) (plan_in language t k text)
  query_by n text false = there

  ack_by : (n : List ℕ) (to : ℕ) (a b : Bool) → same_name name n ≡ a
      → find_named (if b then solo_done language t k (Ack n to) else k).queries name ≡ Some (asked_later q (unwrap_or (if a && b then Some to else None) q.cursor) [] false)
  ack_by n to true true e =
      let same : name ≡ n = name_eq name n e in
      ap (λ m. find_named (change_named (moved to) m k.queries) name) (sym same) ∙ change_same (moved to) k.queries name q here ∙ ap (λ q. Some q) (stays (moved to q))
  ack_by n to false true e = change_other (moved to) k.queries n name e ∙ there
  ack_by n to true false e = there
  ack_by n to false false e = there

  drop_by : (n : List ℕ) (a b : Bool) → same_name name n ≡ a → (a && b) ≡ false → find_named (if b then solo_done language t k (Drop n) else k).queries name ≡ Some (asked_later q q.cursor [] false)
  drop_by n true true e h = absurd cc
  drop_by n false true e h = remove_other k.queries n name e ∙ there
  drop_by n true false e h = there
  drop_by n false false e h = there

  follow_one : (e : Seen) → drops language t k name e ≡ false → Follows e
  follow_one (Own (Stream n columns)) h = same_step (Stream n columns) (is_accepted (meaning language t k (Stream n columns))) refl
  follow_one (Own (Grant n to columns)) h = same_step (Grant n to columns) (is_accepted (meaning language t k (Grant n to columns))) refl
  follow_one (Own (Revoke n to)) h = same_step (Revoke n to) (is_accepted (meaning language t k (Revoke n to))) refl
  follow_one (Own (Put n at row)) h = put_by n (record { at = at; row = row }) (is_accepted (meaning language t k (Put n at row)))
  follow_one (Own (Beat n at)) h = same_step (Beat n at) (is_accepted (meaning language t k (Beat n at))) refl
  follow_one (Own (Query n text)) h = query_by n text (is_accepted (meaning language t k (Query n text)))
  follow_one (Own (Fetch n until)) h = same_step (Fetch n until) (is_accepted (meaning language t k (Fetch n until))) refl
  follow_one (Own (Ack n to)) h = ack_by n to (same_name name n) (is_accepted (meaning language t k (Ack n to))) refl
  follow_one (Own (Drop n)) h = drop_by n (same_name name n) (is_accepted (meaning language t k (Drop n))) refl h
  follow_one (Own Lists) h = same_step Lists (is_accepted (meaning language t k Lists)) refl
  follow_one (Appears n s) h = there
  follow_one (Gone p) h = goes p
  follow_one (Comes p x) h = comes p x
  follow_one (Beats p at) h = there

-- a query that isn't dropped
follow : (language : Language) (t : ℕ) (k : SoloState) (es : List Seen) (name : List ℕ) (q : SoloQuery) → find_named k.queries name ≡ Some q → is_dropped language t k name es ≡ false
    → find_named (solo_from language t k es).queries name ≡ Some (asked_later q (last_ack language t k name q.cursor es) (elements_in language t k es) (is_lost q.plan es))
follow language t k [] name q here h = there language t k name q here
follow language t k (e ∷ es) name q here h =
    let both = either_false (drops language t k name e) _ h in
    follow language t (solo_after language t k e) es name (asked_later q (unwrap_or (ack_of language t k name e) q.cursor) (brought language t k e) (loses q.plan e)) (follow_one language t k name q here e both.0) both.1
    ∙ (λ i. Some (record q {
      cursor = last_ack language t (solo_after language t k e) name (unwrap_or (ack_of language t k name e) q.cursor) es;
      came =
          append_assoc q.came (brought language t k e) (elements_in language t (solo_after language t k e) es) i;
      gone =
          or_assoc q.gone (loses q.plan e) (is_lost q.plan es) i;
    }))

-- no query has the name of one that is accepted
new_by : (there named : Bool) (bad : Option ℕ) (exists room : Bool) (planned : Result BoundPlan Refusal) (base_of : BoundPlan → ℕ)
    → is_accepted (if there then check_query named bad exists room planned base_of else Refused UnknownTenant) ≡ true → exists ≡ false
new_by true true None false room planned base_of h = refl
new_by true true None true room planned base_of h = absurd cc
new_by true true (Some at) exists room planned base_of h = absurd cc
new_by true false bad exists room planned base_of h = absurd cc
new_by false named bad exists room planned base_of h = absurd cc

none_of : {A : Type 0} (o : Option A) → is_some o ≡ false → o ≡ None
none_of None h = refl
none_of (Some x) h = absurd cc

registered : (language : Language) (t : ℕ) (k : SoloState) (name text : List ℕ) (plan : BoundPlan) → plan_in language t k text ≡ Ok plan → is_accepted (meaning language t k (Query name text)) ≡ true
    → find_named (solo_after language t k (Own (Query name text))).queries name ≡ Some (new_solo_query (limit_to t k) (language.spelled text) plan)
registered language t k name text plan planned fine =
    let free : find_named k.queries name ≡ None = none_of _ (new_by (nat_lt t (length k.names)) (is_name name) (language.bad_byte text)
    (is_some (find_named k.queries name)) (nat_lt (length k.queries) k.quotas.queries) (plan_in language t k text) (limit_to t k) fine) in
    (λ i. find_named (if fine i then solo_done language t k (Query name text) else k).queries name)
    ∙ (λ i. find_named (with_solo_query (limit_to t k) name (language.spelled text) (planned i) k.queries) name)
    ∙ find_new k.queries name (new_solo_query (limit_to t k) (language.spelled text) plan) free

pub queries_law : (language : Language) → IsQueryLaw language
queries_law language table t before after name text plan planned fine undropped =
    let k : SoloState = solo_from language t (solo_opening table t) before in
    let now : solo_from language t (solo_opening table t) (before ++ Own (Query name text) ∷ []) ≡ solo_after language t k (Own (Query name text)) =
    solo_append language t (solo_opening table t) before (Own (Query name text) ∷ []) in
    let base : ℕ = limit_to t k plan in
    ap (λ (k' : SoloState). find_named k'.queries name) (solo_append language t (solo_opening table t) before (Own (Query name text) ∷ after))
    ∙ follow language t (solo_after language t k (Own (Query name text))) after name (new_solo_query (limit_to t k) (language.spelled text) plan) (registered language t k name text plan planned fine)
    (ap (λ (k' : SoloState). is_dropped language t k' name after) (sym now) ∙ undropped)
    ∙ (λ i. Some (record {
      plan = plan;
      text = language.spelled text;
      base = base;
      cursor = last_ack language t (sym now i) name base after;
      came = elements_in language t (sym now i) after;
      gone = is_lost plan after;
    }))
