use Rattle.std.proofs.lemmas.Grind.{common_steps}
use Rattle.std.proofs.Common.{arith}
use Rattle.cql_store.proofs.Moved.{lent}
use Rattle.cql_store.proofs.stores.Stores.attach.Goals as goal

pub returns-clause-ok : goal.returns-clause-ok
returns-clause-ok c =
    lent _ _ c.self.view_is _ c.args.owner c.args.stream c.in_ok-stub.stub c.index.ensures _ _ _ c.requires.owned c.index_mut.ensures.value c.in_ok-stub.ensures.ok

pub returns-in_err-stub-clause-err : goal.returns-in_err-stub-clause-err
returns-in_err-stub-clause-err c = grind (arith, common_steps)
