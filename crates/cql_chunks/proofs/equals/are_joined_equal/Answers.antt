use Rattle.std.proofs.lemmas.Grind.{common_steps}
use Rattle.std.proofs.Common.{◌≡◌, ◌↔◌, ◌++◌, take, drop, arith, sym, ap, ◌∙◌}
use Rattle.cql_chunks.proofs.Rows.{same_fronts, peeled}
use Rattle.cql_chunks.proofs.equals.are_joined_equal.Goals as goal

-- where the fronts differ, so do the lists
pub returns-then-not-begins_as : goal.returns-then-not-begins_as
returns-then-not-begins_as c =
    let xs = c.next_run-left.result in
    let ys = c.next_run-right.result in
    let r = c.next_run-left.new.first ++ c.next_run-left.new.second in
    let s = c.next_run-right.new.first ++ c.next_run-right.new.second in (
      λ is. cc,
      λ is.
          let now : xs ++ r ≡ ys ++ s = c.next_run-left.ensures.rows ∙ c.loop-left.invariant.1 is ∙ sym c.next_run-right.ensures.rows in
          sym c.if-not-begins_as.true ∙ c.begins_as.ensures.1 (same_fronts c.min-count.result xs ys r s (omega (arith, c.min-count.ensures)) (omega (arith, c.min-count.ensures)) now),
    )

pub loop-left-preserved : goal.loop-left-preserved
loop-left-preserved c =
    let xs = c.next_run-left.result in
    let ys = c.next_run-right.result in
    let r = c.next_run-left.new.first ++ c.next_run-left.new.second in
    let s = c.next_run-right.new.first ++ c.next_run-right.new.second in
    let k = c.min-count.result in
    let same : take k xs ≡ take k ys = c.begins_as.ensures.0 c.if-not-begins_as.false in
    let is : (drop k xs ++ r ≡ drop k ys ++ s) ↔ (xs ++ r ≡ ys ++ s)
    = peeled k xs ys r s (omega (arith, c.min-count.ensures)) (omega (arith, c.min-count.ensures)) same in
    let left = ap (λ l. l ++ r) c.behind-left.ensures in
    let right = ap (λ l. l ++ s) c.behind-right.ensures in (
      λ e. c.loop-left.invariant.0 (sym c.next_run-left.ensures.rows ∙ is.0 (sym left ∙ e ∙ right) ∙ c.next_run-right.ensures.rows),
      λ e. left ∙ is.1 (c.next_run-left.ensures.rows ∙ c.loop-left.invariant.1 e ∙ sym c.next_run-right.ensures.rows) ∙ sym right,
    )

pub loop-left-smaller : goal.loop-left-smaller
loop-left-smaller c = grind (arith, common_steps)

pub returns-then-count-eq0 : goal.returns-then-count-eq0
returns-then-count-eq0 c = grind (arith, common_steps)
