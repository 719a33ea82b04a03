-- What a first line that isn't JSON by itself and what is behind it tell.
use Rattle.std.proofs.Common.{◌≡◌, ℕ, List, Option, None, Result, Ok, Err, inr}
use Rattle.std.specs.Prelude.{MatchResult}
use Rattle.cql_tenants.specs.declared.tenants.Tenant.{Tenant}
use Rattle.cql_lines.specs.First.{IsFirstLine}
use Rattle.cql_lines.specs.Tree.{tree_of}
use Rattle.cql_wire.specs.declared.programs.TableFault.{TableFault}
use Rattle.cql_wire.specs.declared.programs.TableFault.TheVariants as table
use Rattle.cql_wire.specs.Table.{TellsBehind, EndsBehind, GivesTable, GivesNone}

pub behind : (before mid after : Option (List ℕ)) (line : List ℕ) (r : Result (List Tenant) TableFault) → IsFirstLine before mid line → tree_of line ≡ None
    → MatchResult r (λ tenants. TellsBehind mid after line tenants) (λ fault. EndsBehind mid after line fault)
    → MatchResult r (λ tenants. GivesTable before after tenants) (λ fault. GivesNone before after fault)
behind before mid after line (Ok tenants) f n t = inr (mid, line, f, n, t)
behind before mid after line (Err (table.Refused rule)) f n p = inr (mid, line, f, n, p)
behind before mid after line (Err table.Read) f n p = tt
behind before mid after line (Err table.NoMemory) f n p = tt
