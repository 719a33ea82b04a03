use Rattle.std.proofs.lemmas.Result.{IfOk-weaker}
use Rattle.cql_plain.proofs.Saying.{and_once, or_once, not_once}
use Rattle.cql_plain.proofs.once.+parts_once.Goals as goal

pub returns-in_ok-right-in-And : goal.returns-in_ok-right-in-And
returns-in_ok-right-in-And t c =
    IfOk-weaker c.with_parts.result _ _ (λ made both. and_once c.args.condition.now made c.get.result.now c.get-in-And.result.now c.in_ok-left-in-And.left c.in_ok-right-in-And.right c.in_ok-left-in-And.ensures c.in_ok-right-in-And.ensures (cc) both) c.with_parts.ensures

pub returns-in_ok-right-in-Or : goal.returns-in_ok-right-in-Or
returns-in_ok-right-in-Or t c =
    IfOk-weaker c.or_parts.result _ _ (λ made some. or_once c.args.condition.now made c.get-in-Or.result.now c.get-in-Or-2.result.now c.in_ok-left-in-Or.left c.in_ok-right-in-Or.right c.in_ok-left-in-Or.ensures c.in_ok-right-in-Or.ensures (cc) some) c.or_parts.ensures

pub returns-in_ok-inner-in-Not : goal.returns-in_ok-inner-in-Not
returns-in_ok-inner-in-Not t c =
    IfOk-weaker c.denied.result _ _ (λ made not_so. not_once c.args.condition.now made _ c.in_ok-inner-in-Not.inner c.in_ok-inner-in-Not.ensures (cc) not_so) c.denied.ensures
