use Rattle.std.proofs.Common.{sym, subst}
use Rattle.std.proofs.lemmas.Result.{IfOk-weaker}
use Rattle.cql_algebra.specs.declared.relation.Relation.TheVariants.{Bag}
use Rattle.cql_eval.specs.Shown.{StandsFor, LeadsTo, Tells}
use Rattle.cql_eval.proofs.shown.tell.Goals as goal

pub returns-in-Changed : goal.returns-in-Changed
returns-in-Changed c =
    IfOk-weaker c.tell_all.result _ _
    (λ o h told after before now stands leads.
    let kind = c.args.kind in
    let kept = c.tell_all.new.last in
    let to = subst (λ q. LeadsTo q c.args.rows.now.changes.items told after now) c.in-Changed.is leads in
    subst (λ n. StandsFor kind kept after n × Tells kind o before n) (sym to.2)
    (subst (λ a. StandsFor kind kept a (Bag a) × Tells kind o before (Bag a)) (sym to.1) (h told before stands to.0)))
    c.tell_all.ensures
