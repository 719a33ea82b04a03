use Rattle.std.proofs.Common.{◌≡◌, take, map}
use Rattle.std.specs.Prelude.{unwrap_or}
use Rattle.cql_window.specs.Chosen.{column_index}
use Rattle.cql_window.proofs.chosen.named_projection.Given as goal

-- the columns of the names so far
abbrev pub invariant-loop-name : goal.invariant-loop-name
invariant-loop-name l = l.projection ≡ map (λ name. unwrap_or (column_index l.columns name) 0) (take l.name-index l.names)
