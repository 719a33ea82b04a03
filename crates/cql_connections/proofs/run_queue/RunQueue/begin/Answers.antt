use Rattle.std.proofs.Common.{arith}
use Rattle.std.proofs.lemmas.Grind.{get_or_default_zero, common_steps}
use Rattle.cql_connections.proofs.Begins.{is_free, is_known, is_few}
use Rattle.cql_connections.proofs.run_queue.RunQueue.begin.Goals as goal

pub overflow_add-busy : goal.overflow_add-busy
overflow_add-busy g c =
    let few = is_few c.args.self.now c.args.owner c.requires in
    let known = is_known c.args.self.now c.args.owner c.requires in
    let same = get_or_default_zero c.args.self.now.busy_of.items c.args.owner c.index-busy.result.now known in
    grind (arith, few, same, c.index-busy.ensures)

pub index_mut-requires : goal.index_mut-requires
index_mut-requires g c = grind (arith, is_free, is_known, is_few)

pub returns-clause-begun : goal.returns-clause-begun
returns-clause-begun g c = grind (arith, common_steps)

pub overflow_add-self : goal.overflow_add-self
overflow_add-self g c = grind (arith, is_free, is_known, is_few)

pub index-busy-requires : goal.index-busy-requires
index-busy-requires g c = grind (arith, is_free, is_known, is_few)
