use Rattle.std.proofs.Common.{◌≡◌, ℕ, List, ◌+◌, rules, true, false, drop, get_or, nat_eq, sym, ap, ◌∙◌}
use Rattle.std.specs.List.{list_any}
use Rattle.cql_window.specs.Once.{once_from}
use Rattle.cql_window.proofs.Once.{one_more}
use Rattle.cql_window.proofs.parts.once_each.Goals as goal
use Rattle.cql_window.proofs.parts.once_each.Goals.{then-not-contains+in_ok-push, else-not-contains}

pub loop-column-preserved : goal.loop-column-preserved
loop-column-preserved c =
    let kept = c.loop-column.kept in
    let columns = c.args.columns.now in
    let i = c.loop-column.column-index in
    let goes : List ℕ → List ℕ = λ k. once_from k (drop (i + 1) columns) in
    let asked = c.contains.ensures.value ∙ ap (list_any (λ j. nat_eq j (get_or columns i 0))) c.as_slice.ensures in
    elim c.if-not-contains.branch [
      | then-not-contains+in_ok-push w ↦
          ap goes (w.kept-is ∙ w.in_ok-push.ensures.ok) ∙ one_more kept columns i false c.loop-column-test.true c.loop-column.invariant (sym asked ∙ w.if-not-contains.true)
      | else-not-contains w ↦ ap goes w.kept-is ∙ one_more kept columns i true c.loop-column-test.true c.loop-column.invariant (sym asked ∙ w.if-not-contains.false)
    ]
