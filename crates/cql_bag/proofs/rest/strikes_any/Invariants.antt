use Rattle.std.proofs.Common.{◌≡◌, drop}
use Rattle.cql_bag.specs.Rest.{rest_rows}
use Rattle.cql_bag.proofs.rest.strikes_any.Given as goal

-- if all of the rows to come are left, all are
abbrev pub invariant-loop-row : goal.invariant-loop-row
invariant-loop-row l = rest_rows (drop l.row-index l.rows) l.left ≡ drop l.row-index l.rows → rest_rows l.rows l.others ≡ l.rows
