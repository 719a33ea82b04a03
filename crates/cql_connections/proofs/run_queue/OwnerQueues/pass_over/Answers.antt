use Rattle.std.proofs.Common.{◌≡◌, List, ℕ, map, sym, subst}
use Rattle.std.specs.Global.{Global}
use Rattle.std.specs.declared.collections.VecDeque.{VecDeque}
use Rattle.cql_connections.specs.Turns.{IsOrder}
use Rattle.cql_connections.proofs.Turns.{turned_order}
use Rattle.cql_connections.proofs.run_queue.OwnerQueues.pass_over.Goals as goal

pub invariant_of-self : goal.invariant_of-self
invariant_of-self g c = (subst (λ (l : List ℕ). IsOrder (map (λ (line : VecDeque g.row.T.Denot Global). line.items) c.self.inside.lines.items) l) (sym c.rotate_left.ensures.items) (turned_order (map (λ (line : VecDeque g.row.T.Denot Global). line.items) c.self.inside.lines.items) c.self.inside.order.items c.args.owners c.self.invariant.0), c.self.invariant.1)
