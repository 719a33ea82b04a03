-- Whatever commands are sent, each tenant is told what its own view means; and so it is of each legal history.
use Rattle.std.specs.Prelude.{List, [], if◌then◌else◌, ℕ, ◌++◌, ◌==◌, ◌∷◌, ◌≡◌}
use Rattle.cql_tenants.specs.declared.tenants.Tenant.{Tenant}
use Rattle.cql_tenants.specs.Namespace.{nothing_made}
use Rattle.cql_core.specs.declared.command.Command.{Command}
use Rattle.cql_core.specs.Language.{Language, IsLanguage}
use Rattle.cql_core.specs.Machine.{State, reply_to, state_after, opening}
use Rattle.cql_core.specs.ReplyModel.{ReplyModel}
use Rattle.cql_core.specs.Solo.{solo_opening, solo}
use Rattle.cql_core.specs.View.{view}
use Rattle.cql_core.specs.Headline.{IsSolo, Event}
use Rattle.cql_core.specs.Legal.{IsLegal}

-- the machine's replies to one tenant, of a whole run
abbrev pub replies_to : Language → ℕ → State → List (ℕ × Command) → List ReplyModel
replies_to language tenant s [] = []
replies_to language tenant s (call ∷ calls) =
    (if call.0 == tenant then reply_to language s call.0 call.1 ∷ [] else []) ++ replies_to language tenant (state_after language s call.0 call.1) calls

-- whatever commands any tenants send, in whatever order, each tenant is told what its own view means
abbrev pub IsSoloLaw : Language → Type 0
IsSoloLaw language = (table : List Tenant) (tenant : ℕ) (calls : List (ℕ × Command))
    → replies_to language tenant (opening table) calls ≡ solo language tenant (solo_opening table tenant) (view tenant (nothing_made table) calls)

-- two lists of commands with equal views give equal replies
abbrev pub IsIsolationLaw : Language → Type 0
IsIsolationLaw language = (table : List Tenant) (tenant : ℕ) (calls others : List (ℕ × Command))
    → view tenant (nothing_made table) calls ≡ view tenant (nothing_made table) others
    → replies_to language tenant (opening table) calls ≡ replies_to language tenant (opening table) others

abbrev pub IsHistoryLaw : Language → Type 0
IsHistoryLaw language = (table : List Tenant) (history : List Event) → IsLegal language (opening table) history → IsSolo language table history

-- so it is for each language
pub record HeadlineLaw (language : Language) : Type 0 where
  pub solo : IsSoloLaw language
  pub isolation : IsIsolationLaw language
  pub history : IsHistoryLaw language

abbrev pub IsHeadlineLaw : Type 0
IsHeadlineLaw = (language : Language) → IsLanguage language → HeadlineLaw language
