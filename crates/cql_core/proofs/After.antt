-- After any commands the machine's state and what the tenant knows hang together.
use Rattle.std.proofs.Common.{◌≡◌, ℕ, Bool, true, false, List, [], ◌∷◌, ◌++◌, refl, ap, subst, ◌∙◌, sym}
use Rattle.std.specs.Prelude.{if◌then◌else◌}
use Rattle.cql_tenants.specs.Namespace.{nothing_made}
use Rattle.cql_core.specs.declared.command.Command.{Command}
use Rattle.cql_core.specs.declared.command.Command.TheVariants.{Stream, Grant, Revoke, Put, Beat, Query, Fetch, Ack, Drop, List as Lists}
use Rattle.cql_core.specs.ReplyModel.{is_accepted}
use Rattle.cql_core.specs.Language.{Language, IsLanguage}
use Rattle.cql_core.specs.Machine.{State, opening, queries_at, state_after}
use Rattle.cql_core.specs.View.{Seen, Own, Appears, Gone, Comes, Beats, seen, view}
use Rattle.cql_core.specs.Solo.{SoloState, solo_opening, meaning, solo_done, solo_after, solo_from}
use Rattle.cql_core.specs.Trimmed.{AreKept}
use Rattle.cql_core.specs.Law.{state_from, IsReplyLaw, IsStubsLaw}
use Rattle.cql_core.proofs.Ties.{Tied}
use Rattle.cql_core.proofs.Keepings.{all_kept}
use Rattle.cql_core.proofs.Steps.{step}
use Rattle.cql_core.proofs.Replies.{same_reply, opening_tied}

from_append : (language : Language) (t : ℕ) (k : SoloState) (es fs : List Seen) → solo_from language t k (es ++ fs) ≡ solo_from language t (solo_from language t k es) fs
from_append language t k [] fs = refl
from_append language t k (e ∷ es) fs = from_append language t (solo_after language t k e) es fs

-- the quotas stay
quotas_done : (language : Language) (t : ℕ) (k : SoloState) (c : Command) (b : Bool) → (if b then solo_done language t k c else k).quotas ≡ k.quotas
quotas_done language t k (Stream name columns) true = refl
quotas_done language t k (Grant name to columns) true = refl
quotas_done language t k (Revoke name to) true = refl
quotas_done language t k (Put name at row) true = refl
quotas_done language t k (Beat name at) true = refl
quotas_done language t k (Query name text) true = refl
quotas_done language t k (Fetch name until) true = refl
quotas_done language t k (Ack name to) true = refl
quotas_done language t k (Drop name) true = refl
quotas_done language t k Lists true = refl
quotas_done language t k c false = refl

quotas_after : (language : Language) (t : ℕ) (k : SoloState) (e : Seen) → (solo_after language t k e).quotas ≡ k.quotas
quotas_after language t k (Own c) = quotas_done language t k c (is_accepted (meaning language t k c))
quotas_after language t k (Appears name s) = refl
quotas_after language t k (Gone stream_id) = refl
quotas_after language t k (Comes stream_id x) = refl
quotas_after language t k (Beats stream_id at) = refl

quotas_from : (language : Language) (t : ℕ) (k : SoloState) (es : List Seen) → (solo_from language t k es).quotas ≡ k.quotas
quotas_from language t k [] = refl
quotas_from language t k (e ∷ es) = quotas_from language t (solo_after language t k e) es ∙ quotas_after language t k e

module _ (language : Language) (is : IsLanguage language) (t : ℕ) where
  from_tied : (calls : List (ℕ × Command)) (s : State) (k : SoloState) → Tied t s k → Tied t (state_from language s calls) (solo_from language t k (view t s.namespaces calls))
  from_tied [] s k tied = tied
  from_tied (call ∷ calls) s k tied =
      let after : State = state_after language s call.0 call.1 in
      subst (Tied t (state_from language after calls)) (sym (from_append language t k (seen t s.namespaces call.0 call.1) (view t after.namespaces calls)))
      (from_tied calls after (solo_from language t k (seen t s.namespaces call.0 call.1)) (step language is t s k tied call.0 call.1))

pub reply_law : (language : Language) → IsLanguage language → IsReplyLaw language
reply_law language is table calls t c = same_reply language is t _ _ (from_tied language is t calls (opening table) (solo_opening table t) (opening_tied table t)) c

pub stubs_law : (language : Language) → IsLanguage language → IsStubsLaw language
stubs_law language is table calls t =
    let k : SoloState = solo_from language t (solo_opening table t) (view t (nothing_made table) calls) in
    let s : State = state_from language (opening table) calls in
    let tied : Tied t s k = from_tied language is t calls (opening table) (solo_opening table t) (opening_tied table t) in
    subst (λ (hold : ℕ). AreKept hold (queries_at s.queries t) k.queries) (ap (λ q. q.hold) (quotas_from language t (solo_opening table t) (view t (nothing_made table) calls)))
    (all_kept language is t s k tied)
