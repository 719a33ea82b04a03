use Rattle.std.proofs.Common.{◌≡◌, sym, ap, subst, ◌∙◌}
use Rattle.std.proofs.lemmas.Result.{on_ok_weaker}
use Rattle.cql_ops.specs.Bench.{BenchModel}
use Rattle.cql_ops.specs.Running.{told_of}
use Rattle.cql_eval.specs.Relation.{relation_at}
use Rattle.cql_eval.specs.Shown.{StandsFor}
use Rattle.cql_eval.proofs.Holding.{later_ready}
use Rattle.cql_eval.proofs.shown.open.Goals as goal

pub reach-requires-clause-ready : goal.reach-requires-clause-ready
reach-requires-clause-ready g c =
    let o : BenchModel = c.args.bench.now in
    later_ready c.args.pin.now c.requires.shown.0 c.args.cursor c.args.shown.now.walks.items o c.requires.shown.1 c.requires.shown.2.ready

pub returns : goal.returns
returns g c =
    let at = c.requires.shown.0 in
    let p = c.args.pin.now in
    let before = told_of p.plan c.args.bench.now in
    let after = told_of p.plan c.reach.new.bench in
    let kind : c.output.result ≡ p.plan.output = c.output.ensures ∙ ap (λ q. q.output) c.plan.ensures.value in
    let stands : StandsFor c.output.result c.args.shown.now.last before (relation_at p at)
    = subst (λ k. StandsFor k c.args.shown.now.last before (relation_at p at)) (sym kind) c.requires.shown.2.stands in
    on_ok_weaker c.keep.result
    (λ kept. record {
      ready = c.in_ok-outcome.ensures.ready;
      stands = subst (λ k. StandsFor k c.keep.new.last after (relation_at p c.args.cursor)) kind (kept before after (relation_at p at) (relation_at p c.args.cursor) stands c.in_ok-outcome.ensures.leads);
    })
    c.keep.ensures
