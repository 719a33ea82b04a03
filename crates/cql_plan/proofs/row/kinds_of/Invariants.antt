use Rattle.std.proofs.Common.{◌≡◌, take, map}
use Rattle.cql_plan.proofs.row.kinds_of.Given as goal

abbrev pub invariant-loop-field : goal.invariant-loop-field
invariant-loop-field l = l.kinds ≡ map (λ field. field.kind) (take l.field-index l.fields)
