use Rattle.std.proofs.Common.{◌≡◌, ◌≢◌, ◌+◌, sym, ap, subst, ◌∙◌, arith}
use Rattle.std.proofs.lemmas.Result.{on_ok_weaker}
use Rattle.cql_bag.specs.Bag.{bag_of}
use Rattle.cql_plan.specs.declared.plan.OutputKind.TheVariants.{Rstream}
use Rattle.cql_algebra.specs.ByKind.{output_of, output_of_bags}
use Rattle.cql_algebra.specs.Runs.{StandFor}
use Rattle.cql_eval.specs.Projected.{ProjectedWalkModel, projected_by, projected_content}
use Rattle.cql_eval.specs.Relation.{relation_at, output_at}
use Rattle.cql_eval.specs.Shown.{rows_of, StandsFor}
use Rattle.cql_eval.specs.Passing.{fault_over}
use Rattle.cql_eval.specs.declared.passing.Passing.{Passing}
use Rattle.cql_eval.proofs.Comes.{on_ok_both}
use Rattle.cql_eval.proofs.Moves.{came_of, left_of, left_is}
use Rattle.cql_eval.proofs.Passed.{IsThere, gone_there, passed_told, walk_later}
use Rattle.cql_eval.proofs.Quiet.{one_instant, stays}
use Rattle.cql_eval.proofs.passing.pass_instant.Goals as goal

pub returns : goal.returns
returns c =
    let p = c.args.pin.now in
    let n = c.args.runs.now.next in
    let before = c.requires.passed in
    let k : ProjectedWalkModel = c.args.passing.now.walk in
    let s : Passing = c.advance.new.self in
    let m = c.in_ok-moved.moved in
    let moved = c.in_ok-moved.ensures in
    let at : c.next-at.result ≡ n = c.next-at.ensures in
    let there : IsThere p (n + 1) s
    = gone_there c.put_all_counts.ensures c.own_entries.ensures c.change_types_law.ensures p c.requires.plain c.requires.kind n (n + 1) k s m (omega (arith, before.based)) before.walk moved.pin (moved.cursor ∙ ap (λ t. t + 1) at)
    (moved.held ∙ ap (λ t. projected_content (t + 1) k.pin) at) moved.moved moved.many (moved.fault ∙ ap (λ l. fault_over l s.held) c.limit.ensures) in
    let kind : c.output-kind.result ≡ p.plan.output = c.output-kind.ensures ∙ ap (λ q. q.output) c.plan.ensures.value in
    let other : c.output-kind.result ≢ Rstream = λ e. c.requires.kind (sym kind ∙ e) in
    let came : c.list_rows.new.list.items ≡ rows_of (came_of s.walk m) = c.in_ok-list_rows.ensures ∙ ap (λ l. rows_of (projected_by s.walk l)) c.rows.ensures in
    let left : c.list_rows-2.new.list.items ≡ rows_of (left_of s.walk m)
    = c.in_ok-list_rows-2.ensures ∙ ap (λ l. rows_of (projected_by s.walk l)) (left_is s.walk m c.deref.result.now c.rows-2.result c.deref.ensures.value c.rows-2.ensures) in
    let bags = passed_told c.same_counts.ensures c.put_all_counts.ensures c.minus_counts.ensures c.output-kind.result other k.held (came_of s.walk m) (left_of s.walk m) s.walk.held moved.moved.moved in
    let told : c.in_ok-told.told ≡ output_of p.plan.output (relation_at p n) (relation_at p (n + 1))
    = c.in_ok-told.ensures other (bag_of (rows_of k.held)) (bag_of (rows_of s.walk.held)) ((λ i. output_of_bags c.output-kind.result (bag_of (left i)) (bag_of (came i))) ∙ bags)
    ∙ (λ i. output_of (kind i) (sym before.stands.relation i) (sym there.stands.relation i)) in
    let stand : StandFor (output_at p) p.from c.push.new.self = c.in_ok-push.ensures.stand _ _ before.stand (rw at (one_instant p n c.in_ok-told.told told)) in
    let next : c.push.new.self.next ≡ n + 1 = c.in_ok-push.ensures.next ∙ ap (λ t. t + 1) at in
    on_ok_weaker c.hold.result
    (λ held. record {
      based = omega (arith, before.based, c.requires.still.forward);
      next = held.0;
      stand = held.1 (bag_of (rows_of s.walk.held)) (subst (λ t. StandsFor p.plan.output s.last (bag_of (rows_of s.walk.held)) (relation_at p t)) (sym next) there.stands) stand;
      walk = walk_later (n + 1) c.args.until _ _ s.walk c.requires.still.forward there.walk;
      many = moved.many;
      stands = subst (StandsFor p.plan.output s.last (bag_of (rows_of s.walk.held))) (sym (stays p (n + 1) c.args.until c.args.until c.requires.still.quiet c.requires.still.forward (omega arith))) there.stands;
    })
    (on_ok_both _ _ c.hold.result c.hold.ensures.next c.hold.ensures.stand)
