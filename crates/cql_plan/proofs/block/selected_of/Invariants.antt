use Rattle.std.proofs.Common.{◌≡◌}
use Rattle.cql_plan.specs.Typing.{shown_in, kinds_in}
use Rattle.cql_plan.proofs.block.selected_of.Given as goal

-- what the items so far show and give
abbrev pub invariant-loop-typed : goal.invariant-loop-typed
invariant-loop-typed l = (l.items ≡ shown_in l.yielded) × (l.kinds ≡ kinds_in l.yielded)
