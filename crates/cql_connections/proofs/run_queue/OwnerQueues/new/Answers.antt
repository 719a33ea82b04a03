use Rattle.std.proofs.Common.{◌≡◌, sym, subst, arith}
use Rattle.std.proofs.lemmas.Grind.{common_steps}
use Rattle.cql_connections.specs.Turns.{IsOrder, size_of}
use Rattle.cql_connections.proofs.Turns.{starts, starts_empty}
use Rattle.cql_connections.proofs.run_queue.OwnerQueues.new.Goals as goal

pub loop-preserved : goal.loop-preserved
loop-preserved g c = grind (arith, common_steps)

pub invariant_of-result : goal.invariant_of-result
invariant_of-result g c =
    let lines = c.loop.invariant in
    let order = c.in_ok-order.ensures.items in
    rw (lines, order) (starts c.loop.counter, sym (starts_empty _ c.loop.counter))
