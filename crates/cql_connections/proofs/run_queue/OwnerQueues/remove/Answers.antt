use Rattle.std.proofs.lemmas.Grind.{common_steps}
use Rattle.std.proofs.Common.{◌∙◌, ap, arith, slice_set, map, subst}
use Rattle.std.specs.Prelude.{◌==◌}
use Rattle.std.specs.Global.{Global}
use Rattle.std.specs.declared.collections.VecDeque.{VecDeque}
use Rattle.cql_connections.specs.Turns.{Queues}
use Rattle.cql_connections.specs.Queues.{IsRemoved}
use Rattle.cql_connections.proofs.Turns.{removes}
use Rattle.cql_connections.proofs.run_queue.OwnerQueues.remove.Goals as goal

pub overflow_sub-self : goal.overflow_sub-self
overflow_sub-self g c =
    let t = removes (λ (line : VecDeque g.row.T.Denot Global). line.items) c.self.inside.lines.items c.self.inside.order.items c.leave.new.order.items c.self.inside.count c.args.owner c.in_ok-line.line.now c.remove.new.self c.in_ok-item.item c.in_ok-at.at c.is_empty-is_last.result c.self.invariant.0 c.self.invariant.1 (grind (arith, c.in_ok-line.ensures.variant)) c.in_ok-line.ensures.value c.in_ok-at.ensures.found c.in_ok-item.ensures.value c.in_ok-item.ensures.items (omega (arith, c.in_ok-item.ensures.len, c.remove.new.self.ok.0, c.in_ok-line.line.now.ok.0)) (c.is_empty-is_last.ensures ∙ ap (λ n. n == 0) c.remove.new.self.ok.0) c.leave.ensures.items in
    t.1

pub invariant_of-self-2 : goal.invariant_of-self-2
invariant_of-self-2 g c =
    let t = removes (λ (line : VecDeque g.row.T.Denot Global). line.items) c.self.inside.lines.items c.self.inside.order.items c.leave.new.order.items c.self.inside.count c.args.owner c.in_ok-line.line.now c.remove.new.self c.in_ok-item.item c.in_ok-at.at c.is_empty-is_last.result c.self.invariant.0 c.self.invariant.1 (grind (arith, c.in_ok-line.ensures.variant)) c.in_ok-line.ensures.value c.in_ok-at.ensures.found c.in_ok-item.ensures.value c.in_ok-item.ensures.items (omega (arith, c.in_ok-item.ensures.len, c.remove.new.self.ok.0, c.in_ok-line.line.now.ok.0)) (c.is_empty-is_last.ensures ∙ ap (λ n. n == 0) c.remove.new.self.ok.0) c.leave.ensures.items in
    (t.0, t.2)

pub returns-clause-removed : goal.returns-clause-removed
returns-clause-removed g c =
    let t = removes (λ (line : VecDeque g.row.T.Denot Global). line.items) c.self.inside.lines.items c.self.inside.order.items c.leave.new.order.items c.self.inside.count c.args.owner c.in_ok-line.line.now c.remove.new.self c.in_ok-item.item c.in_ok-at.at c.is_empty-is_last.result c.self.invariant.0 c.self.invariant.1 (grind (arith, c.in_ok-line.ensures.variant)) c.in_ok-line.ensures.value c.in_ok-at.ensures.found c.in_ok-item.ensures.value c.in_ok-item.ensures.items (omega (arith, c.in_ok-item.ensures.len, c.remove.new.self.ok.0, c.in_ok-line.line.now.ok.0)) (c.is_empty-is_last.ensures ∙ ap (λ n. n == 0) c.remove.new.self.ok.0) c.leave.ensures.items in
    subst (λ (v : Queues g.row.T.Denot). IsRemoved v c.args.owner c.in_ok-item.item (record { lines = map (λ (line : VecDeque g.row.T.Denot Global). line.items) (slice_set c.self.inside.lines.items c.args.owner c.remove.new.self); order = c.leave.new.order.items })) c.self.view_is t.3

pub returns-in_err-at-clause-none : goal.returns-in_err-at-clause-none
returns-in_err-at-clause-none g c = grind (arith, common_steps)

pub invariant_of-self-in_err-at : goal.invariant_of-self-in_err-at
invariant_of-self-in_err-at g c = grind (arith, common_steps)
