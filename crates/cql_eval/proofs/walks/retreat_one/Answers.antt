use Rattle.std.proofs.Common.{◌≡◌, true, false, sym, ap, subst, ◌∙◌}
use Rattle.std.proofs.lemmas.Result.{on_ok_weaker}
use Rattle.cql_window.specs.declared.span.Moved.{Moved}
use Rattle.cql_plan.specs.Ports.{ports}
use Rattle.cql_algebra.specs.Ports.{port_of}
use Rattle.cql_bag.specs.Bag.{bag_of}
use Rattle.cql_bag.specs.Changes.{changed_by, CanChangeBy}
use Rattle.cql_ops.specs.Bench.{BenchModel}
use Rattle.cql_ops.specs.OperatorModel.{columns_at}
use Rattle.cql_ops.specs.Running.{contents_of}
use Rattle.cql_eval.specs.Pin.{AreOf}
use Rattle.cql_eval.specs.Projected.{ProjectedWalkModel, projected_by, projected_content}
use Rattle.cql_eval.specs.Shown.{rows_of, changes_of}
use Rattle.cql_eval.proofs.Exchange.{Exchanged, can_come, window_moved}
use Rattle.cql_eval.proofs.Holding.{port_after, pushed_both}
use Rattle.cql_eval.proofs.Moves.{came_of, left_of, left_is, columns_of, within_after, backwards}
use Rattle.cql_eval.proofs.walks.retreat_one.Goals as goal

pub push_rows-requires-clause-columns : goal.push_rows-requires-clause-columns
push_rows-requires-clause-columns g c =
    let columns = columns_at (ports c.args.pin.now.plan) c.args.input in
    let k : ProjectedWalkModel = c.advance.new.self in
    let has = columns_of columns c.args.walk.pin c.args.walk.held k c.in_ok-moved.moved c.requires.walk.rows c.requires.walk.held c.in_ok-moved.ensures.pin c.in_ok-moved.ensures.moved in
    subst (λ l. AreOf columns (projected_by k l)) (sym (left_is k c.in_ok-moved.moved c.deref.result.now c.rows-left.result c.deref.ensures.value c.rows-left.ensures)) has.left

pub push_rows-requires-clause-there : goal.push_rows-requires-clause-there
push_rows-requires-clause-there g c = can_come (projected_by c.advance.new.self c.rows-left.result) (port_of (contents_of c.args.pin.now.plan c.args.bench.now) c.args.input)

pub push_rows-requires-2-clause-columns : goal.push_rows-requires-2-clause-columns
push_rows-requires-2-clause-columns g c =
    let columns = columns_at (ports c.args.pin.now.plan) c.args.input in
    let k : ProjectedWalkModel = c.advance.new.self in
    let has = columns_of columns c.args.walk.pin c.args.walk.held k c.in_ok-moved.moved c.requires.walk.rows c.requires.walk.held c.in_ok-moved.ensures.pin c.in_ok-moved.ensures.moved in
    subst (λ l. AreOf columns (projected_by k l)) (sym c.rows-came.ensures) has.came

pub push_rows-requires-2-clause-there : goal.push_rows-requires-2-clause-there
push_rows-requires-2-clause-there g c =
    let p = c.args.pin.now in
    let o : BenchModel = c.args.bench.now in
    let mid : BenchModel = c.push_rows.new.bench in
    let k : ProjectedWalkModel = c.advance.new.self in
    let m : Moved = c.in_ok-moved.moved in
    let back : Exchanged k.held (left_of k m) (came_of k m) c.args.walk.held
    = window_moved c.same_counts.ensures c.put_all_counts.ensures c.take_counts.ensures k.held (left_of k m) (came_of k m) c.args.walk.held (backwards c.args.walk.held (came_of k m) (left_of k m) k.held c.in_ok-moved.ensures.moved.moved) in
    let ends : k.held ≡ projected_content p.next c.args.walk.pin = c.in_ok-moved.ensures.held ∙ ap (λ n. projected_content n c.args.walk.pin) c.next.ensures.value in
    let held : port_of (contents_of p.plan o) c.args.input ≡ bag_of (rows_of k.held) = c.requires.ended ∙ sym (ap (λ l. bag_of (rows_of l)) ends) in
    let gone = left_is k m c.deref.result.now c.rows-left.result c.deref.ensures.value c.rows-left.ensures in
    let here : port_of (contents_of p.plan mid) c.args.input ≡ changed_by (changes_of true (left_of k m)) (bag_of (rows_of k.held))
    = port_after p c.args.input _ o mid c.requires.within c.in_ok-push_rows.ensures
    ∙ (λ i. changed_by (changes_of true (projected_by k (gone i))) (held i)) in
    subst (λ l. CanChangeBy (changes_of false (projected_by k l)) (port_of (contents_of p.plan mid) c.args.input)) (sym c.rows-came.ensures)
    (subst (CanChangeBy (changes_of false (came_of k m))) (sym here) back.can)

pub returns : goal.returns
returns g c =
    let p = c.args.pin.now in
    let o : BenchModel = c.args.bench.now in
    let mid : BenchModel = c.push_rows.new.bench in
    let after : BenchModel = c.push_rows-2.new.bench in
    let k : ProjectedWalkModel = c.advance.new.self in
    let m : Moved = c.in_ok-moved.moved in
    let back : Exchanged k.held (left_of k m) (came_of k m) c.args.walk.held
    = window_moved c.same_counts.ensures c.put_all_counts.ensures c.take_counts.ensures k.held (left_of k m) (came_of k m) c.args.walk.held (backwards c.args.walk.held (came_of k m) (left_of k m) k.held c.in_ok-moved.ensures.moved.moved) in
    let ends : k.held ≡ projected_content p.next c.args.walk.pin = c.in_ok-moved.ensures.held ∙ ap (λ n. projected_content n c.args.walk.pin) c.next.ensures.value in
    let held : port_of (contents_of p.plan o) c.args.input ≡ bag_of (rows_of k.held) = c.requires.ended ∙ sym (ap (λ l. bag_of (rows_of l)) ends) in
    let gone = left_is k m c.deref.result.now c.rows-left.result c.deref.ensures.value c.rows-left.ensures in
    let here : port_of (contents_of p.plan mid) c.args.input ≡ changed_by (changes_of true (left_of k m)) (bag_of (rows_of k.held))
    = port_after p c.args.input _ o mid c.requires.within c.in_ok-push_rows.ensures
    ∙ (λ i. changed_by (changes_of true (projected_by k (gone i))) (held i)) in
    on_ok_weaker c.push_rows-2.result
    (λ pushed. pushed_both p c.args.input _ _ (bag_of (rows_of c.args.walk.held)) o mid after c.in_ok-push_rows.ensures pushed
    ((λ i. changed_by (changes_of false (projected_by k (c.rows-came.ensures i))) (here i)) ∙ back.done))
    c.push_rows-2.ensures

pub push_rows-requires-2-clause-input : goal.push_rows-requires-2-clause-input
push_rows-requires-2-clause-input g c = c.requires.input

pub push_rows-requires-2-clause-within : goal.push_rows-requires-2-clause-within
push_rows-requires-2-clause-within g c = within_after c.args.pin.now c.args.input _ c.args.bench.now c.push_rows.new.bench c.in_ok-push_rows.ensures c.requires.within

pub rows-came-requires : goal.rows-came-requires
rows-came-requires g c = c.in_ok-moved.ensures.moved.came
