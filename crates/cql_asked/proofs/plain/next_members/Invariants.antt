-- What is held are the members before the rest.
use Rattle.std.proofs.Common.{◌≡◌, ℕ, ◌≤◌, length}
use Rattle.json.specs.Json.{members, value}
use Rattle.serde_json.specs.Data.{Members, no_members}
use Rattle.serde_json.specs.Read.{of_members, converted}
use Rattle.cql_asked.specs.Plain.{Holds}
use Rattle.cql_asked.proofs.plain.next_members.Given as goal

abbrev pub invariant-members : goal.invariant-members
invariant-members l =
    (n : ℕ) × (old : Members) × (length l.reader ≤ n) × (length l.reader ≤ length l.initial.reader) × Holds l.line old
    × (converted (λ ms. of_members ms no_members) (members (value 126) (length l.initial.reader) l.initial.reader) ≡ converted (λ ms. of_members ms old) (members (value 126) n l.reader))

abbrev pub decreases-members : goal.decreases-members
decreases-members l = length l.reader
