use Rattle.std.proofs.Common.{◌≡◌, map}
use Rattle.cql_algebra.specs.Shape.{all_of, put_onto, groups_value, key_groups}
use Rattle.cql_plain.proofs.Grouping.{row_of_key}
use Rattle.cql_plain.proofs.shape.shape_keys.Given as goal

-- the rows so far and those of the groups that are left
abbrev pub invariant-loop-group : goal.invariant-loop-group
invariant-loop-group l = put_onto l.shaped (all_of (map (row_of_key l.items) l.group-iterator)) ≡ groups_value l.items (key_groups l.columns l.bag)
