use Rattle.std.proofs.Common.{Some, sym, ap, ◌∙◌, subst}
use Rattle.cql_algebra.specs.Shape.{items_on}
use Rattle.cql_plain.specs.Made.{AreMade}
use Rattle.cql_plain.proofs.Keeping.{made_more}
use Rattle.cql_plain.proofs.made.MadeRows.keep.Goals as goal

pub returns : goal.returns
returns c = λ items all is.
    subst (AreMade items) (sym c.in_ok-push_back.ensures.items)
    (made_more items c.args.self.now.rows.items (record { came = c.in_ok-came.came; row = c.in_ok-row.row }) all (ap (items_on items) c.in_ok-came.ensures ∙ is ∙ ap (λ r. Some r) (sym c.in_ok-row.ensures)))
