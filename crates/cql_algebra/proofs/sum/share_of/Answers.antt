use Rattle.std.proofs.lemmas.Grind.{common_steps}
use Rattle.std.proofs.Common.{◌≡◌, ◌≤◌, ◌*◌, ◌^◌, pos, ◌*ℤ◌, arith, rules}
use Rattle.std.specs.Prelude.{FitsSigned, unsigned_abs}
use Rattle.std.specs.Int.{w64, w128}
use Rattle.std.proofs.Math.Facts.{sfits_widen}
use Rattle.std.proofs.lemmas.Int.{ints, to_z-of_z, fits_signed_mul}
use mir.Val.{to_z}
use Rattle.cql_algebra.proofs.Share.{small_share, abs_small}
use Rattle.cql_algebra.proofs.sum.share_of.Goals as goal

pub returns-in-Some-Number-clause-small : goal.returns-in-Some-Number-clause-small
returns-in-Some-Number-clause-small c =
    let f : FitsSigned w64 c.in-Some-Number.number = search rules in
    let w : FitsSigned w128 c.in-Some-Number.number = sfits_widen tt f in
    let e : to_z w128 c.args.times ≡ pos c.args.times = omega (arith, ints) in
    let m : FitsSigned w128 (pos c.args.times *ℤ c.in-Some-Number.number) = fits_signed_mul w128 (pos c.args.times) c.in-Some-Number.number (2 ^ 63) (2 ^ 63) (omega arith) (abs_small c.in-Some-Number.number f) (omega arith) in
    let h : unsigned_abs (pos c.args.times *ℤ c.in-Some-Number.number) ≤ c.args.times * 2 ^ 63 = small_share c.in-Some-Number.number c.args.times f in
    rw (to_z-of_z w64 c.in-Some-Number.number f, e, to_z-of_z w128 c.in-Some-Number.number w, to_z-of_z w128 (pos c.args.times *ℤ c.in-Some-Number.number) m) h

pub overflow_mul-result : goal.overflow_mul-result
overflow_mul-result c = grind (arith, common_steps)

pub returns-in-Some-Number-clause-value : goal.returns-in-Some-Number-clause-value
returns-in-Some-Number-clause-value c = grind (arith, common_steps)
