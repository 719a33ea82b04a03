-- A legal history is a run of the machine.
use Rattle.std.proofs.Common.{◌≡◌, ℕ, Bool, true, false, ◌==◌, List, [], ◌∷◌, ◌++◌, refl, ◌∙◌}
use Rattle.std.specs.Prelude.{if◌then◌else◌}
use Rattle.cql_core.specs.declared.command.Command.{Command}
use Rattle.cql_core.specs.ReplyModel.{ReplyModel, is_no_memory}
use Rattle.cql_core.specs.Language.{Language, IsLanguage}
use Rattle.cql_core.specs.Machine.{State, opening, reply_to, state_after}
use Rattle.cql_core.specs.Headline.{Event, sent, told_to}
use Rattle.cql_core.specs.Legal.{after, IsLegal}
use Rattle.cql_core.specs.HeadlineLaw.{replies_to, IsHistoryLaw, IsHeadlineLaw}
use Rattle.cql_core.specs.Law.{IsMachineLaw}
use Rattle.cql_core.proofs.Replies.{solo_law, isolation_law}
use Rattle.cql_core.proofs.After.{reply_law, stubs_law}
use Rattle.cql_core.proofs.Alone.{alone_law}

one_told : (language : Language) (t : ℕ) (s : State) (m : Event) (rest : List (ℕ × Command)) (told : List ReplyModel) → (b : Bool) → (b ≡ false → m.told ≡ reply_to language s m.tenant m.command)
    → told ≡ replies_to language t (if b then s else state_after language s m.tenant m.command) rest
    → (if b then [] else (if m.tenant == t then m.told ∷ [] else [])) ++ told ≡ replies_to language t s ((if b then [] else (m.tenant, m.command) ∷ []) ++ rest)
one_told language t s m rest told true fits e = e
one_told language t s m rest told false fits e = λ i. (if m.tenant == t then fits refl i ∷ [] else []) ++ e i

replies : (language : Language) (t : ℕ) (history : List Event) (s : State) → IsLegal language s history → told_to t history ≡ replies_to language t s (sent history)
replies language t [] s legal = refl
replies language t (m ∷ ms) s legal = one_told language t s m (sent ms) (told_to t ms) (is_no_memory m.told) legal.0 (replies language t ms (after language s m) legal.1)

pub history_law : (language : Language) → IsLanguage language → IsHistoryLaw language
history_law language is table history legal t = replies language t history (opening table) legal ∙ solo_law language is table t (sent history)

-- THE LAWS
pub headline_law : IsHeadlineLaw
headline_law language is = record { solo = solo_law language is; isolation = isolation_law language is; history = history_law language is }

pub machine_law : IsMachineLaw
machine_law language is = record { alone = alone_law language is; reply = reply_law language is; stub = stubs_law language is }
