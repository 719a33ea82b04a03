use Rattle.std.proofs.Common.{◌≡◌, map, take}
use Rattle.cql_ops.specs.Bench.{bench_kinds}
use Rattle.cql_ops.proofs.bench.first_wrong.Given as goal

-- the kinds so far are those of a bench
abbrev pub invariant-loop-i : goal.invariant-loop-i
invariant-loop-i g l = take l.i (map (λ o. (g.O.Operator.model_of o).kind) l.boxes) ≡ take l.i bench_kinds
