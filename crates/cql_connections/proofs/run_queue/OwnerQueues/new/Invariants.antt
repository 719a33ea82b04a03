use Rattle.std.proofs.Common.{◌≡◌, [], map, replicate}
use Rattle.std.specs.Global.{Global}
use Rattle.std.specs.declared.collections.VecDeque.{VecDeque}
use Rattle.cql_connections.proofs.run_queue.OwnerQueues.new.Given as goal

-- nothing waits of the owners so far
abbrev pub invariant-loop : goal.invariant-loop
invariant-loop g l = map (λ (line : VecDeque g.row.T.Denot Global). line.items) l.lines.items ≡ replicate l.counter []
