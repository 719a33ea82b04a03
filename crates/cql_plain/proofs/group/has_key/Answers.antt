use Rattle.std.proofs.Common.{rules, ◌≡◌, ◌∷◌, [], Some, None, slice_get, get_or, sym, ap, ◌∙◌}
use Rattle.cql_plain.proofs.Gathering.{key_goes_on, key_passes, key_ends, no_length}
use Rattle.cql_plain.proofs.group.has_key.Goals as goal
use Rattle.cql_plain.proofs.group.has_key.Goals.{in-Some+in-Some-split_first+else-not-is_equal, in_default}

pub loop-column-preserved : goal.loop-column-preserved
loop-column-preserved c = λ after.
    let columns = c.args.columns.now in
    let i = c.loop-column.column-index in
    let left = c.loop-column.left.now in
    elim c.match-at.branch [
      | in-Some+in-Some-split_first+else-not-is_equal w ↦
          let value = w.in-Some.value.now in
          let rest = w.in-Some-split_first.rest.now in
          let is : Some value ≡ slice_get c.args.row.now (get_or columns i 0) = search rules in
          let same : w.in-Some-split_first.first.now ≡ value = search rules in
          let parts : left ≡ w.in-Some-split_first.first.now ∷ rest = search rules in
          c.loop-column.invariant (key_goes_on columns c.args.row.now i value left rest c.loop-column-test.true is (parts ∙ ap (λ v. v ∷ rest) same) (after ∙ ap (λ l. l.now) w.left-is))
      | in_default w ↦
          let none : None ≡ slice_get c.args.row.now (get_or columns i 0) = search rules in
          c.loop-column.invariant (key_passes columns c.args.row.now i left c.loop-column-test.true none (after ∙ ap (λ l. l.now) w.left-is))
    ]

pub returns : goal.returns
returns c = λ empty.
    let none : c.loop-column.left.now ≡ [] = no_length c.loop-column.left.now (search rules) in
    c.loop-column.invariant (key_ends c.args.columns.now c.args.row.now c.loop-column.column-index c.loop-column-test.false ∙ sym none)
