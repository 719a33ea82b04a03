-- What is left out changes nothing.
use Rattle.std.proofs.Common.{◌≡◌, ℕ, Bool, true, false, List, [], ◌∷◌, ◌++◌, refl, ap, sym, ◌∙◌}
use Rattle.std.specs.Prelude.{if◌then◌else◌}
use Rattle.cql_tenants.specs.Namespace.{has_tenant}
use Rattle.cql_core.specs.declared.command.Command.{Command}
use Rattle.cql_core.specs.declared.command.Command.TheVariants.{Stream, Grant, Revoke, Put, Beat, Query, Fetch, Ack, Drop, List as Lists}
use Rattle.cql_core.specs.ReplyModel.{ReplyModel, Done, Based, Blocks, Listed, Refused}
use Rattle.cql_core.specs.Machine.{State, reply_to, state_after}
use Rattle.cql_core.specs.Law.{state_from, IsRefusalLaw, IsFetchLaw}
use Rattle.cql_core.specs.Cql.{cql}
use Rattle.cql_journal.specs.Law.{is_list, is_left_out, IsRecordedLaw}

stays : (s : State) (b : Bool) → (record { namespaces = s.namespaces; queries = (if b then s.queries else s.queries) }) ≡ s
stays s true = refl
stays s false = refl

list_stays : (s : State) (tenant : ℕ) (command : Command) → is_list command ≡ true → state_after cql s tenant command ≡ s
list_stays s tenant (Stream name columns) h = absurd cc
list_stays s tenant (Grant stream to columns) h = absurd cc
list_stays s tenant (Revoke stream to) h = absurd cc
list_stays s tenant (Put stream at row) h = absurd cc
list_stays s tenant (Beat stream at) h = absurd cc
list_stays s tenant (Query name text) h = absurd cc
list_stays s tenant (Fetch name until) h = absurd cc
list_stays s tenant (Ack name to) h = absurd cc
list_stays s tenant (Drop name) h = absurd cc
list_stays s tenant Lists h = stays s (has_tenant s.namespaces tenant)

told_stays : (refusals : IsRefusalLaw cql) (fetches : IsFetchLaw cql) (s : State) (tenant : ℕ) (command : Command) (told : ReplyModel) → reply_to cql s tenant command ≡ told → is_left_out command told ≡ true → state_after cql s tenant command ≡ s
told_stays refusals fetches s tenant command Done is h = list_stays s tenant command h
told_stays refusals fetches s tenant command (Based base) is h = list_stays s tenant command h
told_stays refusals fetches s tenant command (Blocks blocks next) is h = fetches s tenant command blocks next is
told_stays refusals fetches s tenant command (Listed listing) is h = list_stays s tenant command h
told_stays refusals fetches s tenant command (Refused refusal) is h = refusals s tenant command refusal is

one : (s : State) (call : ℕ × Command) (rest calls : List (ℕ × Command)) (b : Bool) → (b ≡ true → state_after cql s call.0 call.1 ≡ s)
    → state_from cql (state_after cql s call.0 call.1) rest ≡ state_from cql (state_after cql s call.0 call.1) calls
    → state_from cql s ((if b then [] else call ∷ []) ++ rest) ≡ state_from cql (state_after cql s call.0 call.1) calls
one s call rest calls true h e = ap (λ x. state_from cql x rest) (sym (h refl)) ∙ e
one s call rest calls false h e = e

pub recorded_law : (refusals : IsRefusalLaw cql) (fetches : IsFetchLaw cql) → IsRecordedLaw
recorded_law refusals fetches s [] = refl
recorded_law refusals fetches s (call ∷ calls) =
    one s call _ calls (is_left_out call.1 (reply_to cql s call.0 call.1)) (told_stays refusals fetches s call.0 call.1 (reply_to cql s call.0 call.1) refl)
    (recorded_law refusals fetches (state_after cql s call.0 call.1) calls)
