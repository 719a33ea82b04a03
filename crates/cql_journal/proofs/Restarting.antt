-- Servers one after another tell what one would tell.
use Rattle.std.proofs.Common.{◌≡◌, ℕ, List, [], ◌∷◌, ◌++◌, refl, ap, sym, ◌∙◌, append_assoc, append-nil}
use Rattle.std.specs.Prelude.{◌==◌, if◌then◌else◌}
use Rattle.cql_tenants.specs.declared.tenants.Tenant.{Tenant}
use Rattle.cql_core.specs.declared.command.Command.{Command}
use Rattle.cql_core.specs.Machine.{State, opening, reply_to, state_after}
use Rattle.cql_core.specs.HeadlineLaw.{replies_to, IsSoloLaw}
use Rattle.cql_core.specs.Law.{state_from}
use Rattle.cql_core.specs.Cql.{cql}
use Rattle.cql_journal.specs.Law.{recorded, all_calls, told_by_runs, IsRecordedLaw, IsRestartLaw}

from_append : (s : State) (before after : List (ℕ × Command)) → state_from cql s (before ++ after) ≡ state_from cql (state_from cql s before) after
from_append s [] after = refl
from_append s (call ∷ before) after = from_append (state_after cql s call.0 call.1) before after

told_append : (tenant : ℕ) (s : State) (before after : List (ℕ × Command)) → replies_to cql tenant s (before ++ after) ≡ replies_to cql tenant s before ++ replies_to cql tenant (state_from cql s before) after
told_append tenant s [] after = refl
told_append tenant s (call ∷ before) after =
    ap (λ t. (if call.0 == tenant then reply_to cql s call.0 call.1 ∷ [] else []) ++ t) (told_append tenant (state_after cql s call.0 call.1) before after)
    ∙ sym (append_assoc (if call.0 == tenant then reply_to cql s call.0 call.1 ∷ [] else []) (replies_to cql tenant (state_after cql s call.0 call.1) before) (replies_to cql tenant (state_from cql (state_after cql s call.0 call.1) before) after))

-- from what a journal leads to, they tell what one server tells from there
as_one : (recorded_is : IsRecordedLaw) (table : List Tenant) (tenant : ℕ) (journal : List (ℕ × Command)) (runs : List (List (ℕ × Command)))
    → told_by_runs table tenant journal runs ≡ replies_to cql tenant (state_from cql (opening table) journal) (all_calls runs)
as_one recorded_is table tenant journal [] = refl
as_one recorded_is table tenant journal (calls ∷ runs) =
    let s = state_from cql (opening table) journal in
    ap (λ t. replies_to cql tenant s calls ++ t)
    (as_one recorded_is table tenant (journal ++ recorded s calls) runs
    ∙ ap (λ (x : State). replies_to cql tenant x (all_calls runs)) (from_append (opening table) journal (recorded s calls) ∙ recorded_is s calls))
    ∙ sym (told_append tenant s calls (all_calls runs))

pub restart_law : (solo_is : IsSoloLaw cql) (recorded_is : IsRecordedLaw) → IsRestartLaw
restart_law solo_is recorded_is table tenant runs = as_one recorded_is table tenant [] runs ∙ solo_is table tenant (all_calls runs)
