use Rattle.cql_eval.proofs.Pools.{spare_taken}
use Rattle.cql_eval.proofs.pool.Pool.take_other.Goals as goal

pub invariant_of-self : goal.invariant_of-self
invariant_of-self g c =
    let inside = c.self.inside in
    spare_taken inside.spare.items c.pop.new.self.items inside.kept inside.left inside.room c.self.invariant c.pop.result c.pop.ensures.items
