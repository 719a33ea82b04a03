use Rattle.std.proofs.Common.{◌≡◌, ◌-◌, ◌++◌, map, take, drop}
use Rattle.cql_connections.proofs.run_queue.RunQueue.forgive.Given as goal

-- of the owners so far some is forgiven, and the others are as they were; nothing else changes
abbrev pub invariant-loop-owner : goal.invariant-loop-owner
invariant-loop-owner g l =
    record {
      spent : l.self.spent.items ≡ map (λ nanos. nanos - 25000000) (take l.owner l.fn.self.spent.items) ++ drop l.owner l.fn.self.spent.items;
      short : l.self.short ≡ l.fn.self.short;
      answers : l.self.answers ≡ l.fn.self.answers;
      busy : l.self.busy ≡ l.fn.self.busy;
      busy_of : l.self.busy_of ≡ l.fn.self.busy_of;
    }
