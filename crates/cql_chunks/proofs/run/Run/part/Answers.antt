use Rattle.std.proofs.lemmas.Grind.{common_steps}
use Rattle.std.proofs.Common.{◌≤◌, length, arith, ap}
use Rattle.std.proofs.Math.Nat.{mul-le-mul_left}
use Rattle.cql_chunks.proofs.Beside.{beside_long, beside_part}
use Rattle.cql_chunks.proofs.run.Run.part.Goals as goal

pub overflow_mul-begin : goal.overflow_mul-begin
overflow_mul-begin c =
    let s = c.self.inside in
    let within : c.args.from ≤ length s.rows.now = omega (arith, c.requires.order, c.requires.within, ap length c.self.view_is) in
    let long = beside_long s.width c.args.from s.words.now s.rows.now c.self.invariant within in
    omega (arith, long, c.self.told)

pub overflow_mul-end : goal.overflow_mul-end
overflow_mul-end c =
    let s = c.self.inside in
    let within : c.args.to ≤ length s.rows.now = omega (arith, c.requires.within, ap length c.self.view_is) in
    let long = beside_long s.width c.args.to s.words.now s.rows.now c.self.invariant within in
    omega (arith, long, c.self.told)

pub offset_bounds-self-inside-begin : goal.offset_bounds-self-inside-begin
offset_bounds-self-inside-begin c =
    let s = c.self.inside in
    let within : c.args.from ≤ length s.rows.now = omega (arith, c.requires.order, c.requires.within, ap length c.self.view_is) in
    let long = beside_long s.width c.args.from s.words.now s.rows.now c.self.invariant within in
    omega (arith, long, c.self.told)

pub slice_bounds-result-end-2 : goal.slice_bounds-result-end-2
slice_bounds-result-end-2 c =
    let s = c.self.inside in
    let within : c.args.to ≤ length s.rows.now = omega (arith, c.requires.within, ap length c.self.view_is) in
    let order = mul-le-mul_left s.width c.requires.order in
    let long = beside_long s.width c.args.to s.words.now s.rows.now c.self.invariant within in
    omega (arith, long, order)

pub invariant_of-result : goal.invariant_of-result
invariant_of-result c =
    let s = c.self.inside in
    let within : c.args.to ≤ length s.rows.now = omega (arith, c.requires.within, ap length c.self.view_is) in
    beside_part s.width c.args.from c.args.to s.words.now s.rows.now c.self.invariant c.requires.order within

pub slice_bounds-result-count-2 : goal.slice_bounds-result-count-2
slice_bounds-result-count-2 c = grind (arith, common_steps)

pub slice_bounds-result-start-2 : goal.slice_bounds-result-start-2
slice_bounds-result-start-2 c = grind (arith, common_steps)
