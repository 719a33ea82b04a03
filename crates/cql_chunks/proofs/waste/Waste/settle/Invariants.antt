use Rattle.std.proofs.Common.{◌≡◌, ◌≤◌, ◌<◌, ◌+◌, None}
use Rattle.cql_chunks.specs.Waiting.{waiting}
use Rattle.cql_chunks.proofs.waste.Waste.settle.Given as goal

abbrev pub invariant-loop : goal.invariant-loop
invariant-loop l = record {
  fewer : waiting l.self ≤ waiting l.initial.self;
  rows : 0 < l.budget.units → l.self.rows ≡ None;
  spent : l.budget.units + l.counter ≤ l.initial.budget.units;
}
