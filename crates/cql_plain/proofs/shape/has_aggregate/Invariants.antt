use Rattle.std.proofs.Common.{◌≡◌, drop}
use Rattle.std.specs.List.{list_any}
use Rattle.cql_plan.specs.Fit.{is_aggregate}
use Rattle.cql_plain.proofs.shape.has_aggregate.Given as goal

-- the items that are left decide
abbrev pub invariant-loop-item : goal.invariant-loop-item
invariant-loop-item l = list_any is_aggregate (drop l.item-index l.items) ≡ list_any is_aggregate l.items
