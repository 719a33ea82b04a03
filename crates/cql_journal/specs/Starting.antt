-- How a file begins.
use Rattle.std.specs.Prelude.{⊤, ◌≡◌, ◌≢◌, ◌<◌, ℕ, Bool, true, false, List, ◌++◌, length, Option, IfSome}
use Rattle.std.specs.Io.KnownBytes.{Consumes}
use Rattle.cql_journal.specs.Record.{heading}
use Rattle.cql_journal.specs.declared.recovery.RecoveryFault.{RecoveryFault}
use Rattle.cql_journal.specs.declared.recovery.RecoveryFault.TheVariants.{OtherFormat, Record, Damaged, Failed, NoMemory, TooMany}

-- nothing, or a front of the first line, and not all of it: so nothing was told behind it
abbrev pub IsNew : List ℕ → Type 0
IsNew text = (lost : List ℕ) × (heading ≡ text ++ lost) × (length text < 17)

-- neither the first line and more, nor a front of it
abbrev pub IsOther : List ℕ → Type 0
IsOther text = ((behind : List ℕ) → text ≢ heading ++ behind) × ((lost : List ℕ) → heading ≢ text ++ lost)

-- the first line is taken, or the file is new
abbrev pub Begins : Option (List ℕ) → Option (List ℕ) → Bool → Type 0
Begins come left true = Consumes come left heading
Begins come left false = IfSome come IsNew

-- Why a file isn't read, where the reader has failed or not. Of memory nothing is said.
abbrev pub IsNoFile : Option (List ℕ) → Bool → RecoveryFault → Type 0
IsNoFile come over OtherFormat = IfSome come IsOther
IsNoFile come over (Record stop) = ⊥
IsNoFile come over (Damaged bytes) = ⊥
IsNoFile come over Failed = over ≡ true
IsNoFile come over NoMemory = ⊤
IsNoFile come over TooMany = ⊥
