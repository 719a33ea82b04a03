use Rattle.std.proofs.Common.{◌≡◌, true, ◌∷◌, ◌++◌, [], sym, ◌∙◌, ap, subst}
use Rattle.std.specs.List.{insert, prefix_len}
use Rattle.std.specs.Arc.{arc_value}
use Rattle.std.proofs.lemmas.Result.{IfOk-weaker}
use Rattle.cql_window.specs.Key.{key_of}
use Rattle.cql_chunks.specs.Seq.{IsDown}
use Rattle.cql_store.specs.Parts.{key_in, is_before, AreParted}
use Rattle.cql_store.proofs.OneMore.{more_parted}
use Rattle.cql_store.proofs.parted.put.Goals as goal

pub returns : goal.returns
returns c =
    let columns = c.args.columns.now in
    let parts = arc_value c.args.parts in
    let own = subst (λ row. IsDown (is_before columns (key_of columns row) true) c.deref.result.now → c.before-index.result ≡ prefix_len (is_before columns (key_of columns row) true) c.deref.result.now) c.row.ensures c.before-index.ensures.value in
    let value = subst (λ xs. IsDown (is_before columns (key_in columns c.args.entry) true) xs → c.before-index.result ≡ prefix_len (is_before columns (key_in columns c.args.entry) true) xs) c.deref.ensures own in
    IfOk-weaker c.insert.result _ _
    (λ after is. λ rows parted.
    let index = value (parted.sorted (key_in columns c.args.entry) true) in
    let made = is ∙ ap (λ n. insert parts n c.args.entry) index in
    subst (AreParted columns (rows ++ c.args.entry ∷ [])) (sym made) (more_parted columns rows parts c.args.entry parted))
    c.insert.ensures
