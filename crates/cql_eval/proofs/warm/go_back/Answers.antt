use Rattle.std.proofs.Common.{◌≡◌, sym, ap, subst, ◌∙◌, arith}
use Rattle.cql_ops.specs.Bench.{BenchModel}
use Rattle.cql_ops.specs.Running.{told_of}
use Rattle.cql_eval.specs.Pin.{PinModel}
use Rattle.cql_eval.specs.Relation.{bags_at, relation_at}
use Rattle.cql_eval.specs.Projected.{projected_windows}
use Rattle.cql_eval.specs.Shown.{IsReady, IsShown, IsBack, StandsFor, LeadsTo}
use Rattle.cql_eval.proofs.Resumed.{resumed}
use Rattle.cql_eval.proofs.Back.{met_bags, met_ready, met_stands}
use Rattle.cql_eval.proofs.warm.go_back.Goals as goal

pub returns-then-begins-next : goal.returns-then-begins-next
returns-then-begins-next g c =
    let p : PinModel = c.args.kept.pin in
    let q : PinModel = c.args.pin.now in
    let ks = c.args.walks.now in
    let o : BenchModel = c.args.bench.now in
    let meets = c.requires.meets in
    let ends : p.next ≡ q.from = omega (arith, c.if-begins-next.true, c.from-begins.ensures.value, c.next.ensures.value, ap (λ (r : PinModel). r.next) c.pin-before.ensures) in
    subst (λ l. IsShown q q.from ks l o) (sym c.into_last.ensures)
    (resumed p q c.args.kept.last ks o meets.plan meets.limit meets.based c.from-begins.ensures.pin.windows c.requires.walks (ap (λ n. bags_at n (projected_windows p)) ends ∙ meets.same) c.requires.kept)

-- the bench was taken back to where the pin begins
pub ask-requires-clause-ready : goal.ask-requires-clause-ready
ask-requires-clause-ready g c =
    let p : PinModel = c.args.kept.pin in
    let q : PinModel = c.args.pin.now in
    let ks = c.args.walks.now in
    let o : BenchModel = c.args.bench.now in
    let mid : BenchModel = c.retreat.new.bench in
    let back : IsBack p q.from o mid
    = subst (λ r. IsBack r q.from o mid) c.pin-before.ensures (subst (λ n. IsBack c.pin-before.result.now n o mid) c.from-begins.ensures.value c.in_ok-retreat.ensures) in
    subst (λ n. IsReady q n ks mid) (sym c.from-begins.ensures.value) (met_ready c.args.kept q ks o mid c.requires.meets c.requires.walks c.from-begins.ensures.pin.windows back)

pub ask-requires-clause-bags : goal.ask-requires-clause-bags
ask-requires-clause-bags g c =
    let q : PinModel = c.args.pin.now in
    let o : BenchModel = c.args.bench.now in
    met_bags c.args.kept q c.args.walks.now o o c.requires.meets c.requires.walks ∙ ap (λ n. bags_at n (projected_windows q)) (sym c.from-begins.ensures.value)

pub returns : goal.returns
returns g c =
    let p : PinModel = c.args.kept.pin in
    let q : PinModel = c.args.pin.now in
    let ks = c.args.walks.now in
    let o : BenchModel = c.args.bench.now in
    let mid : BenchModel = c.retreat.new.bench in
    let after : BenchModel = c.ask.new.bench in
    let back : IsBack p q.from o mid
    = subst (λ r. IsBack r q.from o mid) c.pin-before.ensures (subst (λ n. IsBack c.pin-before.result.now n o mid) c.from-begins.ensures.value c.in_ok-retreat.ensures) in
    let kind : c.output.result ≡ q.plan.output = c.output.ensures ∙ ap (λ r. r.output) c.plan.ensures.value in
    let before = relation_at p p.next in
    let stands : StandsFor c.output.result c.into_last-last.result (told_of q.plan mid) before
    = subst (λ l. StandsFor c.output.result l (told_of q.plan mid) before) (sym c.into_last-last.ensures)
    (subst (λ k. StandsFor k c.args.kept.last (told_of q.plan mid) before) (sym kind) (met_stands c.args.kept q ks o mid c.requires.meets c.requires.walks c.requires.kept back)) in
    let leads : LeadsTo c.in_ok-outcome.outcome c.ask.new.changes.items (told_of q.plan mid) (told_of q.plan after) (relation_at q q.from)
    = subst (λ n. LeadsTo c.in_ok-outcome.outcome c.ask.new.changes.items (told_of q.plan mid) (told_of q.plan after) (relation_at q n)) c.from-begins.ensures.value c.in_ok-outcome.ensures.leads in
    record {
      ready = subst (λ n. IsReady q n ks after) c.from-begins.ensures.value c.in_ok-outcome.ensures.ready;
      stands = subst (λ k. StandsFor k c.keep.new.last (told_of q.plan after) (relation_at q q.from)) kind (c.in_ok-keep.ensures (told_of q.plan mid) (told_of q.plan after) before (relation_at q q.from) stands leads);
    }
