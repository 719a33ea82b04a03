use Rattle.std.proofs.Common.{◌≡◌, ◌++◌, ◌-◌, take, drop}
use Rattle.std.specs.VecDeque.Iter.{deque_iter_rest}
use Rattle.cql_chunks.proofs.plain.shares.Given as goal

abbrev pub invariant-loop-chunk : goal.invariant-loop-chunk
invariant-loop-chunk l =
    (goal.iterator-loop-chunk).can_next l.chunk-iterator ×
    (goal.iterator-loop-chunk).is_finite l.chunk-iterator ×
    (l.shared.items ++ deque_iter_rest l.chunk-iterator ≡ take (l.to - l.from) (drop l.from l.full.items))
