use Rattle.std.proofs.lemmas.Grind.{common_steps}
use Rattle.std.proofs.Common.{arith}
use Rattle.cql_store.proofs.Moved.{append_lent}
use Rattle.cql_store.proofs.stores.Stores.append.Goals as goal

pub returns-clause-ok : goal.returns-clause-ok
returns-clause-ok c =
    rw c.note.ensures (rw c.in_ok-append.was at (append_lent c.args.row _ _ c.self.view_is _ c.args.owner c.args.stream c.index.ensures _ _ c.requires.there.owned c.requires.there.within c.index_mut.ensures.value c.append.result c.append.ensures.ok))

pub returns-clause-err : goal.returns-clause-err
returns-clause-err c = grind (arith, common_steps)
