use Rattle.cql_store.proofs.Moved.{advance_lent}
use Rattle.cql_store.proofs.stores.Stores.advance.Goals as goal

pub returns : goal.returns
returns c =
    rw c.note.ensures (advance_lent _ _ c.self.view_is _ c.args.stub_ref c.index.ensures c.args.ready c.requires.stub _ _ c.requires.there.owned c.index_mut.ensures.value c.advance.ensures)
