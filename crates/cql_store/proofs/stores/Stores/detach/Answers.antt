use Rattle.cql_store.proofs.Moved.{lent}
use Rattle.cql_store.proofs.stores.Stores.detach.Goals as goal

pub returns : goal.returns
returns c =
    rw c.note.ensures (lent _ _ c.self.view_is _ c.args.stub_ref.owner c.args.stub_ref.stream c.args.stub_ref.stub c.index.ensures _ _ _ c.requires.there.owned c.index_mut.ensures.value c.detach.ensures)
