-- What is told of a tenants line.
use Rattle.std.specs.Prelude.{◌≡◌, ⊤, ℕ, List, Option, Some, None, Result, Ok, Err}
use Rattle.cql_asked.specs.declared.tenants.TenantsFault.{TenantsFault}
use Rattle.cql_asked.specs.declared.tenants.TenantsFault.TheVariants as fault
use Rattle.cql_lines.specs.Tree.{tree_of}
use Rattle.cql_asked.specs.Rules.{IsJson, Breaks}

-- there is no tree, and the rule is that; or memory was refused
abbrev pub IsNoTree : List ℕ → TenantsFault → Type 0
IsNoTree line (fault.Refused rule) = (tree_of line ≡ None) × IsJson rule
IsNoTree line fault.NoMemory = ⊤

-- the result is what is wanted, and where nothing is, the first rule that the line breaks, unless memory was refused
abbrev pub Tells : {A : Type 0} → List ℕ → Option A → Result A TenantsFault → Type 0
Tells line wanted (Ok x) = wanted ≡ Some x
Tells line wanted (Err (fault.Refused rule)) = (wanted ≡ None) × Breaks (tree_of line) rule
Tells line wanted (Err fault.NoMemory) = ⊤
