use Rattle.std.proofs.Common.{sym, subst}
use Rattle.cql_bag.specs.Changes.{changed_by}
use Rattle.cql_algebra.specs.declared.relation.Relation.TheVariants.{Bag}
use Rattle.cql_eval.specs.Shown.{StandsFor}
use Rattle.cql_eval.proofs.Differences.{kept_other}
use Rattle.cql_eval.proofs.shown.keep_changes.Goals as goal

pub returns-in_ok-list_changes-in-Rstream : goal.returns-in_ok-list_changes-in-Rstream
returns-in_ok-list_changes-in-Rstream c = λ told before stands can.
    let now = changed_by c.args.rows.now.changes.items told in
    subst (λ k. StandsFor k c.list_changes.new.last now (Bag now)) (sym c.in-Rstream.is)
    (c.in_ok-list_changes-in-Rstream.ensures told before (subst (λ k. StandsFor k c.args.last.now told before) c.in-Rstream.is stands) can).0

pub returns-in_default : goal.returns-in_default
returns-in_default c = λ told before stands can.
    kept_other c.put_all_counts.ensures c.take_counts.ensures c.args.kind c.args.last.now.bag c.args.last.now c.args.rows.now.changes.items c.in_default.not-Rstream told before stands can
