use Rattle.std.proofs.lemmas.Grind.{common_steps}
use Rattle.std.proofs.Common.{subst, ◌∙◌, arith}
use Rattle.cql_ops.specs.Bench.{BenchModel}
use Rattle.cql_ops.specs.Running.{IsOutcome}
use Rattle.cql_eval.proofs.Steps.{runs_on, leads_on, leads_anew}
use Rattle.cql_eval.proofs.shown.ask.Goals as goal

pub restart-requires : goal.restart-requires
restart-requires g c = (c.args.cursor, c.requires.ready.walks)

pub returns-in_default-clause-leads : goal.returns-in_default-clause-leads
returns-in_default-clause-leads g c =
    let p = c.args.pin.now in
    let o : BenchModel = c.args.bench.now in
    let after : BenchModel = c.emit.new.self in
    let out : IsOutcome p.plan p.limit o after c.emit.new.out.items c.in_ok-outcome.outcome
    = subst (λ n. IsOutcome p.plan n o after c.emit.new.out.items c.in_ok-outcome.outcome) c.limit.ensures (subst (λ q. IsOutcome q c.limit.result o after c.emit.new.out.items c.in_ok-outcome.outcome) c.plan.ensures.value c.in_ok-outcome.ensures.outcome) in
    leads_on p c.args.cursor c.in_ok-outcome.outcome c.emit.new.out.items o after c.requires.based (c.requires.ready.contents ∙ c.requires.bags) out c.in_default.not-Faulty

pub returns-in_default-clause-ready : goal.returns-in_default-clause-ready
returns-in_default-clause-ready g c =
    let p = c.args.pin.now in
    let o : BenchModel = c.args.bench.now in
    let after : BenchModel = c.emit.new.self in
    let out : IsOutcome p.plan p.limit o after c.emit.new.out.items c.in_ok-outcome.outcome
    = subst (λ n. IsOutcome p.plan n o after c.emit.new.out.items c.in_ok-outcome.outcome) c.limit.ensures (subst (λ q. IsOutcome q c.limit.result o after c.emit.new.out.items c.in_ok-outcome.outcome) c.plan.ensures.value c.in_ok-outcome.ensures.outcome) in
    runs_on p c.args.cursor c.args.walks.now c.in_ok-outcome.outcome c.emit.new.out.items o after c.requires.ready out c.in_default.not-Faulty

pub returns-in_ok-restart-in-Faulty-clause-leads : goal.returns-in_ok-restart-in-Faulty-clause-leads
returns-in_ok-restart-in-Faulty-clause-leads g c =
    let p = c.args.pin.now in
    let o : BenchModel = c.args.bench.now in
    let after : BenchModel = c.emit.new.self in
    let out : IsOutcome p.plan p.limit o after c.emit.new.out.items c.in_ok-outcome.outcome
    = subst (λ n. IsOutcome p.plan n o after c.emit.new.out.items c.in_ok-outcome.outcome) c.limit.ensures (subst (λ q. IsOutcome q c.limit.result o after c.emit.new.out.items c.in_ok-outcome.outcome) c.plan.ensures.value c.in_ok-outcome.ensures.outcome) in
    let is = subst (IsOutcome p.plan p.limit o after c.emit.new.out.items) c.in-Faulty.is out in
    (c.in_ok-restart-in-Faulty.ensures.told, leads_anew p c.args.cursor c.in-Faulty.fault o c.requires.based (c.requires.ready.contents ∙ c.requires.bags) is)

pub returns-in_ok-restart-in-Faulty-clause-ready : goal.returns-in_ok-restart-in-Faulty-clause-ready
returns-in_ok-restart-in-Faulty-clause-ready g c = grind (arith, common_steps)
