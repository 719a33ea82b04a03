use Rattle.std.proofs.Common.{◌≡◌, not, ap, ◌∙◌, rules}
use Rattle.cql_plan.specs.Condition.{holds}
use Rattle.cql_algebra.proofs.Sure.{holds_not}
use Rattle.cql_plain.proofs.once.denied.Goals as goal

pub returns : goal.returns
returns c = λ row.
    let same : c.in_ok-new.field-0 ≡ c.args.inner = search rules in
    holds_not row c.in_ok-new.field-0 ∙ ap (λ x. not (holds row x)) same
