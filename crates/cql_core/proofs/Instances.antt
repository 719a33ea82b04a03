-- The laws of the core at a journal worked by hand: a premise that it doesn't meet is refused here.
use Rattle.std.proofs.Common.{◌≡◌, List, [], ◌∷◌, refl}
use Rattle.std.specs.Prelude.{codes}
use Rattle.cql_value.specs.Name as words
use Rattle.cql_tenants.specs.declared.tenants.Tenant.{Tenant}
use Rattle.cql_tenants.specs.Named.{same_name}
use Rattle.cql_tenants.specs.Namespace.{nothing_made}
use Rattle.cql_core.specs.declared.command.Command.{Command}
use Rattle.cql_core.specs.declared.command.Command.TheVariants.{Stream}
use Rattle.cql_core.specs.declared.refusal.Refusal.TheVariants.{NoMemory, StreamExists}
use Rattle.cql_core.specs.ReplyModel.{Done, Refused}
use Rattle.cql_core.specs.Machine.{opening}
use Rattle.cql_core.specs.View.{view}
use Rattle.cql_core.specs.Solo.{solo_opening, solo}
use Rattle.cql_core.specs.Headline.{Event, sent}
use Rattle.cql_core.specs.Legal.{IsLegal}
use Rattle.cql_core.specs.HeadlineLaw.{IsHistoryLaw}
use Rattle.cql_core.specs.declared.mark.Mark.TheVariants as mark
use Rattle.cql_core.specs.Cql.{cql}
use Rattle.cql_core.specs.Journal.{Noted, IsJournal, IsTold, IsJournalLaw}

abbrev table : List Tenant
table = record { name = 97 ∷ []; key = 107 ∷ []; quotas = record { streams = 8; queries = 8; hold = 100; result = 1000 } } ∷ []

-- a stream of one column of numbers
abbrev make : Command
make = Stream (115 ∷ []) (record { name = 118 ∷ []; kind = codes "int" } ∷ [])

-- it is told that there was no memory, then it is made, and then it is there
abbrev journal : List Noted
journal =
    record { tenant = 0; command = make; mark = mark.Refused NoMemory }
    ∷ record { tenant = 0; command = make; mark = mark.Ok }
    ∷ record { tenant = 0; command = make; mark = mark.Refused StreamExists }
    ∷ []

stands_rightly : IsJournal (opening table) journal
unfolding same_name words.is_reserved
stands_rightly = (
  record { sent = λ e. absurd cc; unsent = λ e takes. takes; first = λ e f. absurd cc },
  (
    record { sent = λ e. refl; unsent = λ e. absurd cc; first = λ e. absurd cc },
    (record { sent = λ e. refl; unsent = λ e. absurd cc; first = λ e. absurd cc }, tt),
  ),
)

journal_law_at : IsJournalLaw → IsTold table journal
journal_law_at law = law table journal stands_rightly

abbrev history : List Event
history =
    record { tenant = 0; command = make; told = Refused NoMemory }
    ∷ record { tenant = 0; command = make; told = Done }
    ∷ record { tenant = 0; command = make; told = Refused StreamExists }
    ∷ []

legal : IsLegal cql (opening table) history
unfolding same_name words.is_reserved
legal = (λ e. absurd cc, (λ e. refl, (λ e. refl, tt)))

history_law_at : IsHistoryLaw cql → Done ∷ Refused StreamExists ∷ [] ≡ solo cql 0 (solo_opening table 0) (view 0 (nothing_made table) (sent history))
history_law_at law = law table history legal 0
