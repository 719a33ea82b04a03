-- What a journal's replay tells a tenant, entry by entry, where the others' commands on queries are left out.
use Rattle.std.specs.Prelude.{ℕ, ◌&&◌, ◌==◌, not, List, [], ◌∷◌, Option, None, if◌then◌else◌}
use Rattle.cql_core.specs.Machine.{State, Stepped}
use Rattle.cql_core.specs.Prepared.{is_on_query}
use Rattle.cql_core.specs.Journal.{Noted, after}
use Rattle.cql_hall.specs.Audit.{told}

-- what the tenant is told at an entry: of another's nothing
abbrev pub told_to : ℕ → State → Noted → Option Stepped
told_to tenant s n = if n.tenant == tenant then told s n else None

-- the state after an entry, which is as before where that is another's on a query
abbrev pub after_alone : ℕ → State → Noted → State
after_alone tenant s n = if not (n.tenant == tenant) && is_on_query n.command then s else after s n

abbrev pub replayed_alone : ℕ → State → List Noted → State
replayed_alone tenant s [] = s
replayed_alone tenant s (n ∷ ns) = replayed_alone tenant (after_alone tenant s n) ns
