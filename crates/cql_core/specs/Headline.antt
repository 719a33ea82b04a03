-- The headline: what each tenant is told is what its own view means.
use Rattle.std.specs.Prelude.{◌≡◌, ℕ, ◌==◌, List, [], ◌∷◌, ◌++◌, if◌then◌else◌}
use Rattle.cql_tenants.specs.declared.tenants.Tenant.{Tenant}
use Rattle.cql_tenants.specs.Namespace.{nothing_made}
use Rattle.cql_core.specs.declared.command.Command.{Command}
use Rattle.cql_core.specs.ReplyModel.{ReplyModel, is_no_memory}
use Rattle.cql_core.specs.Language.{Language}
use Rattle.cql_core.specs.View.{view}
use Rattle.cql_core.specs.Solo.{solo_opening, solo}

-- a command with what it was told; one that was told of no memory counts as not sent
pub record Event : Type 0 where
  pub tenant : ℕ
  pub command : Command
  pub told : ReplyModel

-- what was sent
abbrev pub sent : List Event → List (ℕ × Command)
sent [] = []
sent (m ∷ ms) = (if is_no_memory m.told then [] else (m.tenant, m.command) ∷ []) ++ sent ms

-- what a tenant was told, but for want of memory
abbrev pub told_to : ℕ → List Event → List ReplyModel
told_to tenant [] = []
told_to tenant (m ∷ ms) = (if is_no_memory m.told then [] else (if m.tenant == tenant then m.told ∷ [] else [])) ++ told_to tenant ms

-- each tenant was told what its own view means
abbrev pub IsSolo : Language → List Tenant → List Event → Type 0
IsSolo language table history = (tenant : ℕ) → told_to tenant history ≡ solo language tenant (solo_opening table tenant) (view tenant (nothing_made table) (sent history))
