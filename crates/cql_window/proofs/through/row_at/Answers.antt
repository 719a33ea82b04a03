use Rattle.std.proofs.Common.{◌≡◌, List, IfOk, length, ap, subst, sym, ◌∙◌}
use Rattle.cql_value.specs.declared.value.Value.{Value}
use Rattle.cql_window.specs.Projection.{projected, whole_projection}
use Rattle.cql_window.proofs.Picks.{at_all}
use Rattle.cql_window.proofs.through.row_at.Goals as goal

pub returns-then-takes_all : goal.returns-then-takes_all
returns-then-takes_all c =
    let row : List Value = c.args.row.now in
    let all : c.args.projection.now ≡ whole_projection (length row) = (c.takes_all.ensures.0 c.if-takes_all.true).1 ∙ ap whole_projection c.len.ensures in
    subst (λ (l : List Value). IfOk c.share.result (λ r. r ≡ l)) (sym (ap (projected row) all ∙ at_all row)) c.share.ensures
