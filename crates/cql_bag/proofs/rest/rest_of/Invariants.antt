use Rattle.std.proofs.Common.{◌≡◌, ◌++◌, drop}
use Rattle.cql_bag.specs.Rest.{rest_rows}
use Rattle.cql_bag.proofs.rest.rest_of.Given as goal

-- with the rows to come it is the whole
abbrev pub invariant-loop-row : goal.invariant-loop-row
invariant-loop-row l = l.rest.items ++ rest_rows (drop l.row-index l.rows) l.left ≡ rest_rows l.rows l.others
