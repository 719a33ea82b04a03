-- The table of tenants that an input gives, in its first line or in several.
use Rattle.cql_wire.specs.declared.tables.TheConstants.{MAX_TABLE}
use Rattle.std.specs.Prelude.{◌≡◌, ◌⊎◌, ◌<◌, ◌-◌, ⊤, ℕ, List, [], ◌∷◌, ◌++◌, length, Option, Some, None}
use Rattle.std.specs.Io.KnownBytes.{Consumes, IsAtEnd}
use Rattle.cql_tenants.specs.declared.tenants.Tenant.{Tenant}
use Rattle.cql_lines.specs.First.{IsFirstLine}
use Rattle.cql_lines.specs.Tree.{tree_of}
use Rattle.cql_asked.specs.Table.{table_of}
use Rattle.cql_asked.specs.Rules.{IsJson, Breaks}
use Rattle.cql_asked.specs.declared.rules.BrokenRule.{BrokenRule}
use Rattle.cql_asked.specs.declared.rules.BrokenRule.TheVariants as broken
use Rattle.cql_wire.specs.declared.programs.TableFault.{TableFault}
use Rattle.cql_wire.specs.declared.programs.TableFault.TheVariants as table
use Rattle.cql_wire.specs.Run.{TellsTable, TellsNoTable}

-- a text whose first line is this, and then the rest
abbrev pub text_of : List ℕ → List ℕ → List ℕ
text_of line rest = line ++ 10 ∷ rest

-- the rest of the input was read, and the whole tells the table
pub record TellsBehind (mid after : Option (List ℕ)) (line : List ℕ) (tenants : List Tenant) : Type 0 where
  pub rest : List ℕ
  pub consumed : Consumes mid after rest
  pub at_end : IsAtEnd after
  pub told : table_of (text_of line rest) ≡ Some tenants

-- it was read, or too much of it
abbrev pub IsLong : Option (List ℕ) → Option (List ℕ) → ℕ → BrokenRule → Type 0
IsLong mid after most rule = (front : List ℕ) × Consumes mid after front × (most < length front) × (rule ≡ broken.Length MAX_TABLE)

-- why the rest wasn't read: it is too long, or a read failed, or memory was refused
abbrev pub EndsRest : Option (List ℕ) → Option (List ℕ) → ℕ → TableFault → Type 0
EndsRest mid after most (table.Refused rule) = IsLong mid after most rule
EndsRest mid after most table.Read = ⊤
EndsRest mid after most table.NoMemory = ⊤

-- there is nothing behind the line, which isn't JSON; or the whole tells no table, and the rule is the first that it breaks
abbrev pub IsNoTable : Option (List ℕ) → Option (List ℕ) → List ℕ → BrokenRule → Type 0
IsNoTable mid after line rule = (rest : List ℕ) × Consumes mid after rest × IsAtEnd after
    × (((rest ≡ []) × IsJson rule) ⊎ ((table_of (text_of line rest) ≡ None) × Breaks (tree_of (text_of line rest)) rule))

-- why the whole told none: what is behind the line is too long, or it is no table, or a read failed, or memory was refused
abbrev pub EndsBehind : Option (List ℕ) → Option (List ℕ) → List ℕ → TableFault → Type 0
EndsBehind mid after line (table.Refused rule) = IsLong mid after (MAX_TABLE - 1 - length line) rule ⊎ IsNoTable mid after line rule
EndsBehind mid after line table.Read = ⊤
EndsBehind mid after line table.NoMemory = ⊤

-- the first line isn't JSON by itself, and this holds of it and of what is behind it
abbrev pub Behind : Option (List ℕ) → (Option (List ℕ) → List ℕ → Type 0) → Type 0
Behind before P = (mid : Option (List ℕ)) × (line : List ℕ) × IsFirstLine before mid line × (tree_of line ≡ None) × P mid line

-- the first line tells the table, or it isn't JSON by itself, and the whole does
abbrev pub GivesTable : Option (List ℕ) → Option (List ℕ) → List Tenant → Type 0
GivesTable before after tenants = TellsTable before after tenants ⊎ Behind before (λ mid line. TellsBehind mid after line tenants)

-- why neither told a table
abbrev pub GivesNone : Option (List ℕ) → Option (List ℕ) → TableFault → Type 0
GivesNone before after (table.Refused rule) = TellsNoTable before after rule ⊎ Behind before (λ mid line. EndsBehind mid after line (table.Refused rule))
GivesNone before after table.Read = ⊤
GivesNone before after table.NoMemory = ⊤
