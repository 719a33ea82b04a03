use Rattle.std.proofs.Common.{◌≡◌, ◌∙◌, ◌++◌, sym, ap, subst, List}
use Rattle.cql_bag.specs.declared.change.Change.{Change}
use Rattle.cql_ops.specs.Clauses.{Lends, IsTold}
use Rattle.cql_ops.specs.OperatorModel.{OperatorModel}
use Rattle.cql_ops.specs.Steps.{CanFeed}
use Rattle.cql_ops.proofs.running.steps.hand_on.Goals as goal

pub feed-requires : goal.feed-requires
feed-requires g c =
    let before : OperatorModel = g.O.Operator.model_of c.args.from.now in
    let after : OperatorModel = g.O.Operator.model_of c.lend.follows.lender-at-none in
    c.requires.can after c.in-Some-lend.lent.now (subst (Lends before after) c.in-Some-lend.is c.lend.follows.holds-at-none)

pub feed-requires-in-None : goal.feed-requires-in-None
feed-requires-in-None g c =
    let before : OperatorModel = g.O.Operator.model_of c.args.from.now in
    let asked : OperatorModel = g.O.Operator.model_of c.lend.follows.lender-at-none in
    let after : OperatorModel = g.O.Operator.model_of c.emit.new.self in
    let same : asked ≡ before = subst (Lends before asked) c.in-None.is c.lend.follows.holds-at-none in
    let told = c.in_ok-emit-in-None.ensures.told in
    let all : c.deref.result.now ≡ told.0 = c.deref.ensures.value ∙ told.1 ∙ ap (λ (l : List Change). l ++ told.0) c.clear.ensures.items in
    subst (CanFeed (g.O.Operator.model_of c.args.to.now) 0) (sym all) (c.requires.can after told.0 (subst (λ (s : OperatorModel). IsTold s after told.0) same told.2))
