use Rattle.std.proofs.Common.{◌≡◌, ◌||◌, ap, ◌∙◌, rules}
use Rattle.cql_plan.specs.Condition.{holds}
use Rattle.cql_algebra.proofs.Sure.{holds_or}
use Rattle.cql_plain.proofs.once.either.Goals as goal

pub returns : goal.returns
returns c = λ row.
    let left : c.in_ok-new.field-0 ≡ c.args.whole = search rules in
    let right : c.in_ok-part.part ≡ c.args.part = search rules in
    holds_or row c.in_ok-new.field-0 c.in_ok-part.part ∙ ap (λ x. holds row x || holds row c.in_ok-part.part) left ∙ ap (λ x. holds row c.args.whole || holds row x) right
