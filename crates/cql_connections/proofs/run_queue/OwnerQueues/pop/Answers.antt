use Rattle.std.proofs.lemmas.Grind.{common_steps}
use Rattle.std.proofs.Common.{◌∙◌, ap, ◌<◌, ◌≤◌, length, arith, slice_set, map, subst}
use Rattle.std.specs.Prelude.{◌==◌}
use Rattle.std.specs.Global.{Global}
use Rattle.std.specs.declared.collections.VecDeque.{VecDeque}
use Rattle.cql_connections.specs.Turns.{Queues}
use Rattle.cql_connections.specs.Queues.{IsTaken}
use Rattle.cql_connections.proofs.Turns.{next_has, next_some, takes}
use Rattle.cql_connections.proofs.run_queue.OwnerQueues.pop.Goals as goal

pub overflow_sub-self : goal.overflow_sub-self
overflow_sub-self g c =
    let some : 0 < length c.self.inside.order.items = grind arith in
    let t = takes (λ (line : VecDeque g.row.T.Denot Global). line.items) c.self.inside.lines.items c.self.inside.order.items c.pass.new.order.items c.self.inside.count c.in_ok-owner.field-0.now c.in_ok-line.line.now c.pop_front.new.self c.in_ok-item.item c.is_empty-is_last.result c.self.invariant.0 c.self.invariant.1 c.in_ok-owner.ensures.lookup some c.in_ok-line.ensures.value c.in_ok-item.ensures.items (c.is_empty-is_last.ensures ∙ ap (λ n. n == 0) c.pop_front.new.self.ok.0) c.pass.ensures.items in
    t.1

pub invariant_of-self-2 : goal.invariant_of-self-2
invariant_of-self-2 g c =
    let some : 0 < length c.self.inside.order.items = grind arith in
    let t = takes (λ (line : VecDeque g.row.T.Denot Global). line.items) c.self.inside.lines.items c.self.inside.order.items c.pass.new.order.items c.self.inside.count c.in_ok-owner.field-0.now c.in_ok-line.line.now c.pop_front.new.self c.in_ok-item.item c.is_empty-is_last.result c.self.invariant.0 c.self.invariant.1 c.in_ok-owner.ensures.lookup some c.in_ok-line.ensures.value c.in_ok-item.ensures.items (c.is_empty-is_last.ensures ∙ ap (λ n. n == 0) c.pop_front.new.self.ok.0) c.pass.ensures.items in
    (t.0, t.2)

pub returns-clause-taken : goal.returns-clause-taken
returns-clause-taken g c =
    let some : 0 < length c.self.inside.order.items = grind arith in
    let t = takes (λ (line : VecDeque g.row.T.Denot Global). line.items) c.self.inside.lines.items c.self.inside.order.items c.pass.new.order.items c.self.inside.count c.in_ok-owner.field-0.now c.in_ok-line.line.now c.pop_front.new.self c.in_ok-item.item c.is_empty-is_last.result c.self.invariant.0 c.self.invariant.1 c.in_ok-owner.ensures.lookup some c.in_ok-line.ensures.value c.in_ok-item.ensures.items (c.is_empty-is_last.ensures ∙ ap (λ n. n == 0) c.pop_front.new.self.ok.0) c.pass.ensures.items in
    subst (λ (v : Queues g.row.T.Denot). IsTaken v c.in_ok-item.item (record { lines = map (λ (line : VecDeque g.row.T.Denot Global). line.items) (slice_set c.self.inside.lines.items c.in_ok-owner.field-0.now c.pop_front.new.self); order = c.pass.new.order.items })) c.self.view_is t.3

pub returns-in_err-line-clause-none : goal.returns-in_err-line-clause-none
returns-in_err-line-clause-none g c =
    let some : 0 < length c.self.inside.order.items = grind arith in
    let n : c.in_ok-owner.field-0.now < length c.self.inside.lines.items = next_has (λ (line : VecDeque g.row.T.Denot Global). line.items) c.self.inside.lines.items c.self.inside.order.items c.in_ok-owner.field-0.now c.self.invariant.0 c.in_ok-owner.ensures.lookup some in
    absurd (grind (arith, n, c.in_err-line.ensures.variant))

pub invariant_of-self-in_err-item : goal.invariant_of-self-in_err-item
invariant_of-self-in_err-item g c =
    let some : 0 < length c.self.inside.order.items = grind arith in
    let n : 1 ≤ length c.in_ok-line.line.now.items = next_some (λ (line : VecDeque g.row.T.Denot Global). line.items) c.self.inside.lines.items c.self.inside.order.items c.in_ok-owner.field-0.now c.in_ok-line.line.now c.self.invariant.0 c.in_ok-owner.ensures.lookup some c.in_ok-line.ensures.value in
    absurd (grind (arith, n, c.in_err-item.ensures.variant))

pub returns-in_err-item-clause-none : goal.returns-in_err-item-clause-none
returns-in_err-item-clause-none g c =
    let some : 0 < length c.self.inside.order.items = grind arith in
    let n : 1 ≤ length c.in_ok-line.line.now.items = next_some (λ (line : VecDeque g.row.T.Denot Global). line.items) c.self.inside.lines.items c.self.inside.order.items c.in_ok-owner.field-0.now c.in_ok-line.line.now c.self.invariant.0 c.in_ok-owner.ensures.lookup some c.in_ok-line.ensures.value in
    absurd (grind (arith, n, c.in_err-item.ensures.variant))

pub returns-in_err-owner-clause-none : goal.returns-in_err-owner-clause-none
returns-in_err-owner-clause-none g c = grind (arith, common_steps)
