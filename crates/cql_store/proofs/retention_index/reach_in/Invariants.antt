use Rattle.std.proofs.Common.{◌+◌, ◌-◌, length}
use Rattle.cql_store.specs.Sequence.{AreLonger}
use Rattle.cql_store.proofs.retention_index.reach_in.Given as goal

abbrev pub invariant-loop-alloc : goal.invariant-loop-alloc
invariant-loop-alloc l = AreLonger l.initial.numbers l.numbers

abbrev pub decreases-loop-alloc : goal.decreases-loop-alloc
decreases-loop-alloc l = l.slot + 1 - length l.numbers
