use Rattle.std.proofs.lemmas.Grind.{common_steps}
use Rattle.std.proofs.Common.{◌∙◌, ap, [], ◌∷◌, ◌++◌, arith, slice_set, map, subst}
use Rattle.std.specs.Prelude.{◌==◌, if◌then◌else◌}
use Rattle.std.specs.Global.{Global}
use Rattle.std.specs.declared.collections.VecDeque.{VecDeque}
use Rattle.cql_connections.specs.Turns.{Queues}
use Rattle.cql_connections.specs.Queues.{IsPushed}
use Rattle.cql_connections.proofs.Turns.{pushes, stays}
use Rattle.cql_connections.proofs.run_queue.OwnerQueues.push.Goals as goal

pub invariant_of-self-in-Err : goal.invariant_of-self-in-Err
invariant_of-self-in-Err g c =
    let t = stays (λ (line : VecDeque g.row.T.Denot Global). line.items) c.self.inside.lines.items c.self.inside.order.items c.reserve.new.self.items c.self.inside.count c.args.owner c.in-Some.line.now c.push_back.new.self c.self.invariant.0 c.self.invariant.1 c.in-Some.ensures.value c.in-Err.ensures.items c.reserve.ensures.items in
    (t.0, t.1)

pub returns-in-Err-clause-back : goal.returns-in-Err-clause-back
returns-in-Err-clause-back g c =
    let t = stays (λ (line : VecDeque g.row.T.Denot Global). line.items) c.self.inside.lines.items c.self.inside.order.items c.reserve.new.self.items c.self.inside.count c.args.owner c.in-Some.line.now c.push_back.new.self c.self.invariant.0 c.self.invariant.1 c.in-Some.ensures.value c.in-Err.ensures.items c.reserve.ensures.items in
    (c.in-Err.ensures.value_returned, (let lines = t.2.0 in let order = t.2.1 in cc) ∙ c.self.view_is)

pub invariant_of-self-2 : goal.invariant_of-self-2
invariant_of-self-2 g c =
    let t = pushes (λ (line : VecDeque g.row.T.Denot Global). line.items) c.self.inside.lines.items c.self.inside.order.items c.join.new.order.items c.self.inside.count c.args.owner c.in-Some.line.now c.push_back.new.self c.args.item c.is_empty-is_first.result c.self.invariant.0 c.self.invariant.1 (grind (arith, c.in-Some.ensures.variant)) c.in-Some.ensures.value c.in_default-push_back.ensures.items (c.is_empty-is_first.ensures ∙ ap (λ n. n == 0) c.in-Some.line.now.ok.0) (c.join.ensures.items ∙ ap (λ l. l ++ (if c.is_empty-is_first.result then c.args.owner ∷ [] else [])) c.reserve.ensures.items) in
    (t.0, t.1)

pub returns-clause-pushed : goal.returns-clause-pushed
returns-clause-pushed g c =
    let t = pushes (λ (line : VecDeque g.row.T.Denot Global). line.items) c.self.inside.lines.items c.self.inside.order.items c.join.new.order.items c.self.inside.count c.args.owner c.in-Some.line.now c.push_back.new.self c.args.item c.is_empty-is_first.result c.self.invariant.0 c.self.invariant.1 (grind (arith, c.in-Some.ensures.variant)) c.in-Some.ensures.value c.in_default-push_back.ensures.items (c.is_empty-is_first.ensures ∙ ap (λ n. n == 0) c.in-Some.line.now.ok.0) (c.join.ensures.items ∙ ap (λ l. l ++ (if c.is_empty-is_first.result then c.args.owner ∷ [] else [])) c.reserve.ensures.items) in
    subst (λ (v : Queues g.row.T.Denot). IsPushed v c.args.owner c.args.item (record { lines = map (λ (line : VecDeque g.row.T.Denot Global). line.items) (slice_set c.self.inside.lines.items c.args.owner c.push_back.new.self); order = c.join.new.order.items })) c.self.view_is t.2

pub join-requires : goal.join-requires
join-requires g c = grind (arith, common_steps)

pub invariant_of-self-then-self : goal.invariant_of-self-then-self
invariant_of-self-then-self g c = grind (arith, common_steps)

pub invariant_of-self-then-is_err : goal.invariant_of-self-then-is_err
invariant_of-self-then-is_err g c = grind (arith, common_steps)

pub returns-then-self-clause-back : goal.returns-then-self-clause-back
returns-then-self-clause-back g c = grind (arith, common_steps)
