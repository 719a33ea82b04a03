use Rattle.std.proofs.lemmas.Grind.{common_steps}
use Rattle.std.proofs.Common.{◌*◌, ◌≤◌, ◌<◌, length, take, arith, sym, subst, ap, ◌∙◌, length-take}
use Rattle.cql_chunks.specs.Beside.{IsBeside}
use Rattle.cql_chunks.proofs.Beside.{beside_long, beside_same}
use Rattle.cql_chunks.proofs.run.Run.begins_as.Goals as goal

pub overflow_mul-end : goal.overflow_mul-end
overflow_mul-end c =
    let s = c.self.inside in
    let short : c.args.count ≤ length s.rows.now = omega (arith, c.requires.own, ap length c.self.view_is) in
    let long = beside_long s.width c.args.count s.words.now s.rows.now c.self.invariant short in
    omega (arith, long, c.self.told)

pub slice_bounds-are_equal-end : goal.slice_bounds-are_equal-end
slice_bounds-are_equal-end c =
    let s = c.self.inside in
    let short : c.args.count ≤ length s.rows.now = omega (arith, c.requires.own, ap length c.self.view_is) in
    let long = beside_long s.width c.args.count s.words.now s.rows.now c.self.invariant short in
    omega (arith, long, length-take (s.width * c.args.count) s.words.now)

pub slice_bounds-are_equal-end-2 : goal.slice_bounds-are_equal-end-2
slice_bounds-are_equal-end-2 c =
    let s = c.self.inside in
    let o = c.other.inside in
    let short : c.args.count ≤ length o.rows.now = omega (arith, c.requires.others, ap length c.other.view_is) in
    let long : s.width * c.args.count ≤ length o.words.now = rw c.if-self-other.false (beside_long o.width c.args.count o.words.now o.rows.now c.other.invariant short) in
    omega (arith, long, length-take (s.width * c.args.count) o.words.now)

pub returns : goal.returns
returns c =
    let s = c.self.inside in
    let o = c.other.inside in
    let n = c.args.count in
    let one = ap (take n) c.self.view_is in
    let other = ap (take n) c.other.view_is in
    let some : 0 < s.width = omega (arith, c.if-self-eq0.false) in
    let beside : IsBeside s.width o.words.now o.rows.now = subst (λ w. IsBeside w o.words.now o.rows.now) (sym c.if-self-other.false) c.other.invariant in
    let short : n ≤ length s.rows.now = omega (arith, c.requires.own, ap length c.self.view_is) in
    let below : n ≤ length o.rows.now = omega (arith, c.requires.others, ap length c.other.view_is) in
    let same = beside_same s.width n s.words.now o.words.now s.rows.now o.rows.now some c.self.invariant beside short below in (
      λ is. sym one ∙ same.0 (c.are_equal.ensures.0 is) ∙ other,
      λ is. c.are_equal.ensures.1 (same.1 (one ∙ is ∙ sym other)),
    )

pub slice_bounds-slices_equal-end : goal.slice_bounds-slices_equal-end
slice_bounds-slices_equal-end c = grind (arith, common_steps)

pub slice_bounds-slices_equal-end-then-self-eq0 : goal.slice_bounds-slices_equal-end-then-self-eq0
slice_bounds-slices_equal-end-then-self-eq0 c = grind (arith, common_steps)
