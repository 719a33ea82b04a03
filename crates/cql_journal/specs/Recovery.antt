-- The state that the records of a journal lead to.
use Rattle.std.specs.Prelude.{⊤, ◌≡◌, ◌≢◌, ◌⊎◌, ◌+◌, ◌-◌, ◌^◌, ℕ, Bool, true, false, List, [], ◌∷◌, ◌++◌, length, map, min, Option, Some, None, option_map, option_and_then, codes}
use Rattle.std.specs.Str.{IsUtf8}
use Rattle.std.specs.Result.{result_ok}
use Rattle.std.specs.List.{AllByRecursion}
use Rattle.cql_tenants.specs.declared.tenants.Tenant.{Tenant}
use Rattle.cql_tenants.specs.Tenants.{index_of}
use Rattle.cql_core.specs.declared.command.Command.{Command}
use Rattle.cql_core.specs.ReplyModel.{ReplyModel, Done, Based, Blocks, Listed, Refused as refused}
use Rattle.cql_core.specs.Machine.{State, reply_to, state_after, step_of, Stepped, Says, Pinned}
use Rattle.cql_core.specs.Law.{state_from}
use Rattle.cql_core.specs.Refusal.{name_of}
use Rattle.cql_core.specs.Cql.{cql}
use Rattle.cql_asked.specs.Command.{command_of, own_command}
use Rattle.cql_journal.specs.Record.{Entry, Fits, record_lines}
use Rattle.cql_journal.specs.declared.replaying.Unfit.{Unfit}
use Rattle.cql_journal.specs.declared.replaying.Unfit.TheVariants.{UnknownTenant, NoCommand, Refused, Unchanged, NoMemory}
use Rattle.cql_core.specs.declared.refusal.Refusal.TheVariants.{NoMemory as no_room}

-- ---- what a record means

-- the command that a line says, where it is one and names no tenant
unfoldable pub said_by : List ℕ → Option Command
said_by line = result_ok (own_command (command_of line))

-- what a record means: the command of its line, by the tenant of its name
unfoldable pub call_of : List Tenant → Entry → Option (ℕ × Command)
call_of table e = option_and_then (λ tenant. option_map (λ command. (tenant, command)) (said_by e.line)) (index_of table e.tenant)

-- a command that is told so may have changed the machine
abbrev pub changes : ReplyModel → Bool
changes Done = true
changes (Based base) = true
changes (Blocks blocks next) = false
changes (Listed listing) = false
changes (refused refusal) = false

-- the same of a step, which is told at once
abbrev pub is_change : Stepped → Bool
is_change (Says told) = changes told
is_change (Pinned p) = false

-- what is told without a change: an answer, its pin, or a list
abbrev pub is_read : Stepped → Bool
is_read (Says Done) = false
is_read (Says (Based base)) = false
is_read (Says (Blocks blocks next)) = true
is_read (Says (Listed listing)) = true
is_read (Says (refused refusal)) = false
is_read (Pinned p) = true

-- a command changed the machine, and this is the state after it
unfoldable pub Changed : State → ℕ → Command → State → Type 0
Changed old tenant command new = (changes (reply_to cql old tenant command) ≡ true) × (new ≡ state_after cql old tenant command)

-- Why what is told isn't that it may have changed the machine. Of memory nothing is said.
abbrev pub Told : Stepped → Unfit → Type 0
Told told (Refused refusal) = (told ≡ Says (refused refusal)) × (refusal ≢ no_room)
Told told Unchanged = is_read told ≡ true
Told told NoMemory = ⊤
Told told UnknownTenant = ⊥
Told told NoCommand = ⊥

-- the same of what the machine tells of a command
unfoldable pub Stands : State → ℕ → Command → Unfit → Type 0
Stands old tenant command unfit = Told (step_of cql old tenant command) unfit

-- each call changes in its turn
abbrev pub AllChange : State → List (ℕ × Command) → Type 0
AllChange s [] = ⊤
AllChange s (call ∷ calls) = (changes (reply_to cql s call.0 call.1) ≡ true) × AllChange (state_after cql s call.0 call.1) calls

-- the name by which it is told why a record leads nowhere
abbrev pub unfit_name : Unfit → List ℕ
unfit_name UnknownTenant = codes "UnknownTenant"
unfit_name NoCommand = codes "NoCommand"
unfit_name (Refused refusal) = name_of refusal
unfit_name Unchanged = codes "Unchanged"
unfit_name NoMemory = codes "NoMemory"

-- ---- one record, and some

-- one record more
pub record Replays (table : List Tenant) (old : State) (e : Entry) (new : State) : Type 0 where
  pub call : ℕ × Command
  pub means : call_of table e ≡ Some call
  pub changed : Changed old call.0 call.1 new

-- The records mean calls that change the machine, each in its turn, and this is the state after them.
pub record Replayed (table : List Tenant) (entries : List Entry) (old new : State) : Type 0 where
  pub calls : List (ℕ × Command)
  pub calls_are : map (call_of table) entries ≡ map (λ call. Some call) calls
  pub change : AllChange old calls
  pub state_is : new ≡ state_from cql old calls

-- Why a record leads nowhere: no tenant of the table has its name; its line is no command, or names a tenant; the machine refuses the command; or it is a fetch or a list. Of memory nothing is said.
abbrev pub Misfits : List Tenant → State → Entry → Unfit → Type 0
Misfits table s e UnknownTenant = (IsUtf8 e.tenant → ⊥) ⊎ (index_of table e.tenant ≡ None)
Misfits table s e NoCommand = said_by e.line ≡ None
Misfits table s e (Refused refusal) = (call : ℕ × Command) × (call_of table e ≡ Some call) × Stands s call.0 call.1 (Refused refusal)
Misfits table s e Unchanged = (call : ℕ × Command) × (call_of table e ≡ Some call) × Stands s call.0 call.1 Unchanged
Misfits table s e NoMemory = ⊤

-- as far as 2^64 - 1
abbrev pub counted : ℕ → ℕ
counted n = min n (2 ^ 64 - 1)

-- the records of a batch, and nothing else
pub record AreLines (chain lines : List ℕ) : Type 0 where
  pub entries : List Entry
  pub fit : AllByRecursion Fits entries
  pub lines_are : lines ≡ record_lines chain entries

-- of a batch's records some are replayed, and some are left
pub record Replaying (table : List Tenant) (chain lines rest : List ℕ) (old new : State) (count counts : ℕ) : Type 0 where
  pub done : List Entry
  pub left : List Entry
  pub fit : AllByRecursion Fits (done ++ left)
  pub fit_left : AllByRecursion Fits left
  pub lines_are : lines ≡ record_lines chain (done ++ left)
  pub rest_is : rest ≡ record_lines chain left
  pub replayed : Replayed table done old new
  pub count_is : counts ≡ counted (count + length done)

-- All records of a batch are replayed.
pub record ReplaysLines (table : List Tenant) (chain lines : List ℕ) (old new : State) (count counts : ℕ) : Type 0 where
  pub entries : List Entry
  pub fit : AllByRecursion Fits entries
  pub lines_are : lines ≡ record_lines chain entries
  pub replayed : Replayed table entries old new
  pub count_is : counts ≡ counted (count + length entries)

-- Of the records of a batch those before this one are replayed, and this one leads nowhere.
pub record StopsInLines (table : List Tenant) (chain lines : List ℕ) (old : State) (count : ℕ) (at : ℕ) (unfit : Unfit) : Type 0 where
  pub before : List Entry
  pub entry : Entry
  pub after : List Entry
  pub fit : AllByRecursion Fits (before ++ entry ∷ after)
  pub lines_are : lines ≡ record_lines chain (before ++ entry ∷ after)
  pub state : State
  pub replayed : Replayed table before old state
  pub misfits : Misfits table state entry unfit
  pub at_is : at ≡ counted (count + length before)
