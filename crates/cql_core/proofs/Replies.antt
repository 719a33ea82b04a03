-- The replies are those of the view.
use Rattle.std.proofs.Common.{◌≡◌, ℕ, zero, suc, Bool, true, false, eqb, List, [], ◌∷◌, ◌++◌, length, refl, ap, ◌∙◌, sym}
use Rattle.std.specs.Prelude.{Option, Some, None, if◌then◌else◌, nat_lt, map}
use Rattle.std.proofs.lemmas.List.{length-map}
use Rattle.cql_tenants.specs.declared.tenants.Tenant.{Tenant}
use Rattle.cql_tenants.specs.declared.stream.Stream.{Stream as stream}
use Rattle.cql_tenants.specs.Named.{Named}
use Rattle.cql_window.specs.Projection.{projected}
use Rattle.cql_tenants.specs.declared.namespace.Namespace.{Namespace}
use Rattle.cql_tenants.specs.Namespace.{empty_namespace, has_tenant, stream_at}
use Rattle.cql_core.specs.declared.command.Command.{Command}
use Rattle.cql_core.specs.declared.command.Command.TheVariants.{Stream, Grant, Revoke, Put, Beat, Query, Fetch, Ack, Drop, List as Lists}
use Rattle.cql_core.specs.declared.refusal.Refusal.TheVariants.{UnknownTenant}
use Rattle.cql_core.specs.StreamId.{stream_id_of, projection_in}
use Rattle.cql_core.specs.ReplyModel.{ReplyModel, Refused}
use Rattle.cql_core.specs.Language.{Language, IsLanguage}
use Rattle.cql_core.specs.Machine.{Live, State, opening, queries_at, reads, step_at, reply_to, state_after, Says}
use Rattle.cql_core.specs.View.{Seen, Own, Gone, Comes, Beats, appears, seen_of_other, seen, view}
use Rattle.cql_core.specs.Solo.{SoloState, solo_opening, own_meaning, meaning, solo_after, solo_from, solo}
use Rattle.cql_core.specs.HeadlineLaw.{replies_to, IsSoloLaw, IsIsolationLaw}
use Rattle.cql_core.proofs.Keys.{same_nat}
use Rattle.cql_core.proofs.Namespaces.{namespaces_tied_opening}
use Rattle.cql_core.proofs.Keeps.{reached_opening}
use Rattle.cql_core.proofs.Ties.{Tied, same_told}
use Rattle.cql_core.proofs.Steps.{in_table, step}

-- what is seen of others gives no reply
module _ (language : Language) (t : ℕ) (k : SoloState) (rest : List Seen) where
  solo_one : (b : Bool) (e : Seen) → ((r : List Seen) → solo language t k (e ∷ r) ≡ solo language t (solo_after language t k e) r)
      → solo language t k ((if b then e ∷ [] else []) ++ rest) ≡ solo language t (solo_from language t k (if b then e ∷ [] else [])) rest
  solo_one true e h = h rest
  solo_one false e h = refl

  solo_appears : (b : Bool) (owner : ℕ) (name : List ℕ) (columns : Option (List (List ℕ))) (o : Option stream)
      → solo language t k ((if b then appears owner name columns o else []) ++ rest) ≡ solo language t (solo_from language t k (if b then appears owner name columns o else [])) rest
  solo_appears true owner name columns None = refl
  solo_appears true owner name columns (Some v) = refl
  solo_appears false owner name columns o = refl

  solo_other : (d : List Namespace) (u : ℕ) (c : Command) → solo language t k (seen_of_other t d u c ++ rest) ≡ solo language t (solo_from language t k (seen_of_other t d u c)) rest
  solo_other d u (Stream name columns) = refl
  solo_other d u (Grant name to columns) = solo_appears _ u name columns (stream_at d u name)
  solo_other d u (Revoke name to) = solo_one _ (Gone (stream_id_of u name)) (λ r. refl)
  solo_other d u (Put name at row) = solo_one _ (Comes (stream_id_of u name) (record { at = at; row = projected row (projection_in d t (stream_id_of u name)) })) (λ r. refl)
  solo_other d u (Beat name at) = solo_one _ (Beats (stream_id_of u name) at) (λ r. refl)
  solo_other d u (Query name text) = refl
  solo_other d u (Fetch name until) = refl
  solo_other d u (Ack name to) = refl
  solo_other d u (Drop name) = refl
  solo_other d u Lists = refl

  -- nor does the command of a tenant that isn't in the table
  solo_another : (d : List Namespace) (u : ℕ) (c : Command) (b : Bool)
      → solo language t k ((if b then seen_of_other t d u c else []) ++ rest) ≡ solo language t (solo_from language t k (if b then seen_of_other t d u c else [])) rest
  solo_another d u c true = solo_other d u c
  solo_another d u c false = refl

module _ (language : Language) (is : IsLanguage language) (t : ℕ) where
  reply_by : (s : State) (k : SoloState) → Tied t s k → (c : Command) (b : Bool) → nat_lt t (length k.names) ≡ b
      → reads language (if b then step_at language s t c else Says (Refused UnknownTenant)) ≡ (if b then own_meaning language t k c else Refused UnknownTenant)
  reply_by s k tied c true there = same_told language is t s k tied c
  reply_by s k tied c false there = refl

  -- the machine's reply to a command of the tenant is what it means
  pub same_reply : (s : State) (k : SoloState) → Tied t s k → (c : Command) → reply_to language s t c ≡ meaning language t k c
  same_reply s k tied c = (λ i. reads language (if in_table language is t s k tied i then step_at language s t c else Says (Refused UnknownTenant))) ∙ reply_by s k tied c _ refl

  -- one command, and the rest
  one_reply : (s : State) (k : SoloState) → Tied t s k → (u : ℕ) (c : Command) (b : Bool) → eqb u t ≡ b → (told : List ReplyModel) (rest : List Seen)
      → told ≡ solo language t (solo_from language t k (if b then Own c ∷ [] else if has_tenant s.namespaces u then seen_of_other t s.namespaces u c else [])) rest
      → (if b then reply_to language s u c ∷ [] else []) ++ told ≡ solo language t k ((if b then Own c ∷ [] else if has_tenant s.namespaces u then seen_of_other t s.namespaces u c else []) ++ rest)
  one_reply s k tied u c true is_own told rest e = λ i. (ap (λ w. reply_to language s w c) (same_nat u t is_own) ∙ same_reply s k tied c) i ∷ e i
  one_reply s k tied u c false is_other told rest e = e ∙ sym (solo_another language t k rest s.namespaces u c (has_tenant s.namespaces u))

  replies_follow : (calls : List (ℕ × Command)) (s : State) (k : SoloState) → Tied t s k → replies_to language t s calls ≡ solo language t k (view t s.namespaces calls)
  replies_follow [] s k tied = refl
  replies_follow (call ∷ calls) s k tied =
      let after : State = state_after language s call.0 call.1 in
      one_reply s k tied call.0 call.1 _ refl (replies_to language t after calls) (view t after.namespaces calls)
      (replies_follow calls after (solo_from language t k (seen t s.namespaces call.0 call.1)) (step language is t s k tied call.0 call.1))

-- at the opening
none_asked : (table : List Tenant) (t : ℕ) → queries_at (map {B = List (Named Live)} (λ t. []) table) t ≡ []
none_asked [] t = refl
none_asked (x ∷ table) zero = refl
none_asked (x ∷ table) (suc t) = none_asked table t

pub opening_tied : (table : List Tenant) (t : ℕ) → Tied t (opening table) (solo_opening table t)
opening_tied table t = record {
  namespaces = namespaces_tied_opening table t;
  queries_tied = record {
    beside = length-map {B = List (Named Live)} table (λ x. []) ∙ sym (length-map table (λ x. empty_namespace x.name x.quotas));
    sims = [];
    left =
        none_asked table t;
    queries = refl;
    full = tt;
    reach = tt;
  };
  reached = reached_opening table;
}

pub solo_law : (language : Language) → IsLanguage language → IsSoloLaw language
solo_law language is table t calls = replies_follow language is t calls (opening table) (solo_opening table t) (opening_tied table t)

pub isolation_law : (language : Language) → IsLanguage language → IsIsolationLaw language
isolation_law language is table t calls others same =
    solo_law language is table t calls ∙ ap (solo language t (solo_opening table t)) same ∙ sym (solo_law language is table t others)
