-- The laws of audits at receipts worked by hand: a premise that these don't meet is refused here.
use Rattle.std.proofs.Common.{ℕ, zero, suc, List, [], ◌∷◌, Option, Some, None, Ok, refl, arith}
use Rattle.std.specs.Prelude.{codes, All}
use Rattle.cql_value.specs.Name as words
use Rattle.cql_tenants.specs.declared.tenants.Tenant.{Tenant}
use Rattle.cql_tenants.specs.Named.{same_name}
use Rattle.cql_core.specs.declared.command.Command.{Command}
use Rattle.cql_core.specs.declared.command.Command.TheVariants.{Stream}
use Rattle.cql_core.specs.declared.refusal.Refusal.TheVariants.{StreamExists}
use Rattle.cql_core.specs.ReplyModel.{ReplyModel, Done, Refused}
use Rattle.cql_core.specs.Machine.{opening, Says}
use Rattle.cql_core.specs.declared.mark.Mark.TheVariants as mark
use Rattle.cql_core.specs.Journal.{IsJournal}
use Rattle.cql_hall.specs.Audit.{Journal, Heard, LeavesFree, Agrees, AllAgree, FirstFails}
use Rattle.cql_hall.specs.Laws.{IsCalledOnce, HasOneAnswer, AgreesEach, HasEachCallOnce}
use Rattle.cql_hall.specs.Alone.{AgreesAlone, FirstFailsAlone, IsNoMismatch, AgreesAloneToo, HasNoMismatchAlone, HasOneAnswerAlone}

abbrev table : List Tenant
table = record { name = 97 ∷ []; key = 107 ∷ []; quotas = record { streams = 8; queries = 8; hold = 100; result = 1000 } } ∷ []

-- a stream of one column of numbers
abbrev make : Command
make = Stream (115 ∷ []) (record { name = 118 ∷ []; kind = codes "int" } ∷ [])

-- it is made, and then it is there
abbrev journal : Journal
journal = record {
  table = table;
  entries = record { tenant = 0; command = make; mark = mark.Ok } ∷ record { tenant = 0; command = make; mark = mark.Refused StreamExists } ∷ [];
}

-- the receipt of a call of the tenant
abbrev receipt : Option ℕ → ReplyModel → Heard
receipt place told = record { caller = 0; place = place; call = record { tenant = 0; command = make; reply = Says told } }

abbrev receipts : List Heard
receipts = receipt (Some 0) Done ∷ receipt (Some 1) (Refused StreamExists) ∷ []

-- one that was told a reply without a place
abbrev failing : Heard
failing = receipt None Done

stands_rightly : IsJournal (opening table) journal.entries
unfolding same_name words.is_reserved
stands_rightly = (
  record { sent = λ e. refl; unsent = λ e. absurd cc; first = λ e. absurd cc },
  (record { sent = λ e. refl; unsent = λ e. absurd cc; first = λ e. absurd cc }, tt),
)

agree : AllAgree journal [] receipts
unfolding same_name words.is_reserved
agree = (
  (record { tenant = refl; command = refl; reply = λ e. refl }, λ k h lt. absurd (omega (arith, lt))),
  ((record { tenant = refl; command = refl; reply = λ e. refl }, earlier), tt),
)
  where
    earlier : All (LeavesFree (receipt (Some 1) (Refused StreamExists)) 1) (receipt (Some 0) Done ∷ [])
    earlier zero h lt = (λ e. absurd (omega (arith, e)), λ e. omega arith)
    earlier (suc k) h lt = absurd (omega (arith, lt))

fails : FirstFails journal [] (receipt (Some 0) Done ∷ failing ∷ []) 0
unfolding same_name words.is_reserved
fails = record { front = receipt (Some 0) Done ∷ []; failing = failing; rest = []; split = refl; agree = (agree.0, tt); fails = λ e. absurd cc; at = refl }

one_answer_law_at : HasOneAnswer → AllAgree journal [] (receipt (Some 0) Done ∷ failing ∷ []) → ⊥
one_answer_law_at law = (law journal (receipt (Some 0) Done ∷ failing ∷ []) 0 0 fails).0

each_agrees_law_at : AgreesEach → Agrees journal (receipt (Some 0) Done ∷ []) (receipt (Some 1) (Refused StreamExists))
each_agrees_law_at law = law journal (receipt (Some 0) Done ∷ []) (receipt (Some 1) (Refused StreamExists)) [] agree

each_call_once_law_at : HasEachCallOnce → IsCalledOnce journal receipts 1
each_call_once_law_at law = law journal receipts stands_rightly agree refl 1 (omega arith)

agrees_alone_law_at : AgreesAloneToo → All (AgreesAlone 0 journal) receipts
agrees_alone_law_at law = law journal receipts agree 0

no_mismatch_alone_law_at : AgreesAloneToo → HasNoMismatchAlone → IsNoMismatch (Ok tt)
no_mismatch_alone_law_at alone law = law journal receipts 0 (Ok tt) agree (alone journal receipts agree 0)

fails_alone : FirstFailsAlone 0 journal (failing ∷ []) 0
fails_alone = record { front = []; failing = failing; rest = []; split = refl; agree = λ k h lt. absurd (omega (arith, lt)); fails = λ e. e refl refl; at = refl }

one_answer_alone_law_at : HasOneAnswerAlone → All (AgreesAlone 0 journal) (failing ∷ []) → ⊥
one_answer_alone_law_at law = (law 0 journal (failing ∷ []) 0 0 fails_alone).0
