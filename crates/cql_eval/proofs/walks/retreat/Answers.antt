use Rattle.std.proofs.lemmas.Grind.{common_steps}
use Rattle.std.proofs.Common.{◌≡◌, ◌<◌, ◌++◌, [], length, drop, map, refl, sym, subst, ◌∙◌, arith}
use Rattle.cql_bag.specs.Bag.{bag_of}
use Rattle.cql_plan.specs.Ports.{ports}
use Rattle.cql_algebra.specs.Ports.{port_of}
use Rattle.cql_ops.specs.Bench.{BenchModel}
use Rattle.cql_ops.specs.OperatorModel.{columns_at}
use Rattle.cql_ops.specs.Running.{contents_of}
use Rattle.cql_eval.specs.Projected.{ProjectedWalkModel, projected_content, projected_windows, reached}
use Rattle.cql_eval.specs.Shown.{rows_of, IsWalk, IsReady, HasPushed}
use Rattle.cql_eval.proofs.Holding.{no_length}
use Rattle.cql_eval.proofs.Back.{returning, back_starts, whole_at_first, IsTurn, turn, all_back}
use Rattle.cql_eval.proofs.walks.retreat.Goals as goal

pub loop-walk-init : goal.loop-walk-init
loop-walk-init g c =
    let p = c.args.pin.now in
    let all = map (reached c.args.cursor) (projected_windows p) in
    let o : BenchModel = c.args.bench.now in
    let is : c.in_ok-walks.walks.items ≡ all = c.in_ok-walks.ensures in
    record {
      whole = subst (λ l. l ++ drop (length l) all ≡ all) (sym is) (whole_at_first all);
      ready = subst (λ l. IsReady p p.next (returning p.next all l) o) (sym is) (back_starts p c.args.cursor all o c.windows.ensures.pin.windows refl c.requires.runs c.requires.ended);
      told = refl;
    }

pub retreat_one-requires-clause-input : goal.retreat_one-requires-clause-input
retreat_one-requires-clause-input g c =
    let p = c.args.pin.now in
    let all = map (reached c.args.cursor) (projected_windows p) in
    let o : BenchModel = c.loop-walk.bench in
    let ks = c.pop.new.self.items in
    let k : ProjectedWalkModel = c.in-Some.walk in
    let t : IsTurn p all ks k o = turn p c.args.cursor all ks k o c.windows.ensures.pin.windows c.requires.earlier refl
    (subst (λ l. l ++ drop (length l) all ≡ all) c.in-Some.ensures.items c.loop-walk.invariant.whole)
    (subst (λ l. IsReady p p.next (returning p.next all l) o) c.in-Some.ensures.items c.loop-walk.invariant.ready) in
    let size : c.len.result ≡ length ks = omega (arith, c.len.ensures, c.pop.new.self.ok) in
    subst (λ n. n < length (ports p.plan)) (sym size) t.input

pub retreat_one-requires-clause-walk : goal.retreat_one-requires-clause-walk
retreat_one-requires-clause-walk g c =
    let p = c.args.pin.now in
    let all = map (reached c.args.cursor) (projected_windows p) in
    let o : BenchModel = c.loop-walk.bench in
    let ks = c.pop.new.self.items in
    let k : ProjectedWalkModel = c.in-Some.walk in
    let t : IsTurn p all ks k o = turn p c.args.cursor all ks k o c.windows.ensures.pin.windows c.requires.earlier refl
    (subst (λ l. l ++ drop (length l) all ≡ all) c.in-Some.ensures.items c.loop-walk.invariant.whole)
    (subst (λ l. IsReady p p.next (returning p.next all l) o) c.in-Some.ensures.items c.loop-walk.invariant.ready) in
    let size : c.len.result ≡ length ks = omega (arith, c.len.ensures, c.pop.new.self.ok) in
    subst (λ n. IsWalk p.next (columns_at (ports p.plan) n) k.pin k) (sym size) t.walk

pub retreat_one-requires-clause-ended : goal.retreat_one-requires-clause-ended
retreat_one-requires-clause-ended g c =
    let p = c.args.pin.now in
    let all = map (reached c.args.cursor) (projected_windows p) in
    let o : BenchModel = c.loop-walk.bench in
    let ks = c.pop.new.self.items in
    let k : ProjectedWalkModel = c.in-Some.walk in
    let t : IsTurn p all ks k o = turn p c.args.cursor all ks k o c.windows.ensures.pin.windows c.requires.earlier refl
    (subst (λ l. l ++ drop (length l) all ≡ all) c.in-Some.ensures.items c.loop-walk.invariant.whole)
    (subst (λ l. IsReady p p.next (returning p.next all l) o) c.in-Some.ensures.items c.loop-walk.invariant.ready) in
    let size : c.len.result ≡ length ks = omega (arith, c.len.ensures, c.pop.new.self.ok) in
    subst (λ n. port_of (contents_of p.plan o) n ≡ bag_of (rows_of (projected_content p.next k.pin))) (sym size) t.ended

pub loop-walk-preserved : goal.loop-walk-preserved
loop-walk-preserved g c =
    let p = c.args.pin.now in
    let all = map (reached c.args.cursor) (projected_windows p) in
    let o : BenchModel = c.loop-walk.bench in
    let next : BenchModel = c.retreat_one.new.bench in
    let ks = c.pop.new.self.items in
    let k : ProjectedWalkModel = c.in-Some.walk in
    let t : IsTurn p all ks k o = turn p c.args.cursor all ks k o c.windows.ensures.pin.windows c.requires.earlier refl
    (subst (λ l. l ++ drop (length l) all ≡ all) c.in-Some.ensures.items c.loop-walk.invariant.whole)
    (subst (λ l. IsReady p p.next (returning p.next all l) o) c.in-Some.ensures.items c.loop-walk.invariant.ready) in
    let size : c.len.result ≡ length ks = omega (arith, c.len.ensures, c.pop.new.self.ok) in
    let pushed : HasPushed p (length ks) (bag_of (rows_of k.held)) o next = subst (λ n. HasPushed p n (bag_of (rows_of k.held)) o next) size c.in_ok-retreat_one.ensures in
    record {
      whole = t.whole;
      ready = t.after next pushed;
      told = pushed.told ∙ c.loop-walk.invariant.told;
    }

pub returns : goal.returns
returns g c =
    let p = c.args.pin.now in
    let all = map (reached c.args.cursor) (projected_windows p) in
    let none : c.loop-walk.walks.items ≡ [] = no_length c.loop-walk.walks.items (omega (arith, c.in_default.ensures.cases.0, c.loop-walk.walks.ok)) in
    all_back p c.args.cursor all c.loop-walk.walks.items c.args.bench.now c.loop-walk.bench refl none c.loop-walk.invariant.ready c.loop-walk.invariant.told

pub loop-walk-smaller : goal.loop-walk-smaller
loop-walk-smaller g c = grind (arith, common_steps)

pub retreat_one-requires-clause-within : goal.retreat_one-requires-clause-within
retreat_one-requires-clause-within g c = grind (arith, common_steps)
