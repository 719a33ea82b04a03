use Rattle.std.proofs.Common.{◌≡◌, ◌∷◌, map, drop}
use Rattle.cql_plan.specs.declared.plan.Input.{Input}
use Rattle.cql_tenants.specs.Lookup.{found}
use Rattle.cql_core.specs.Bound.{bound_input}
use Rattle.cql_core.specs.Checks.{least}
use Rattle.cql_core.specs.Lookup.{opened_in}
use Rattle.cql_core.proofs.stub_refs.base_of.Given as goal

-- the least so far and those that are left decide
abbrev pub invariant-loop-input : goal.invariant-loop-input
invariant-loop-input l =
    least (l.least ∷ map (λ (i : Input). opened_in l.fn.directory (bound_input (found l.fn.directory l.fn.tenant) i).stream_id) (drop l.input-index l.rest))
    ≡ least (map (λ (i : Input). opened_in l.fn.directory (bound_input (found l.fn.directory l.fn.tenant) i).stream_id) l.inputs)
