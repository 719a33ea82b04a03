use Rattle.std.proofs.lemmas.Grind.{common_steps}
use Rattle.std.proofs.Common.{arith, ◌≡◌, ◌+◌, ◌-◌, ◌++◌, drop, ap, to_z-of_z}
use Rattle.std.proofs.lemmas.Fmt.{length-decimal-le}
use Rattle.std.proofs.lemmas.List.{drop-set}
use Rattle.itoa.proofs.Decimal.{minus_first}
use Rattle.cql_reply.proofs.row_place.write_number.Goals as goal

pub write_digits-start-requires : goal.write_digits-start-requires
write_digits-start-requires c = (omega (arith, length-decimal-le 19 c.unsigned_abs.result (omega arith) (omega arith) (omega arith), c.requires.0), c.requires.1)

pub returns-then-number-ge0-clause-short : goal.returns-then-number-ge0-clause-short
returns-then-number-ge0-clause-short c =
    let long = length-decimal-le 19 c.unsigned_abs.result (omega arith) (omega arith) (omega arith) in
    (omega (arith, c.write_digits-start.ensures.start), omega (arith, long, c.write_digits-start.ensures.start))

pub overflow_sub-text : goal.overflow_sub-text
overflow_sub-text c = omega (arith, length-decimal-le 19 c.unsigned_abs.result (omega arith) (omega arith) (omega arith), c.write_digits-start.ensures.start, c.requires.0)

pub overflow_sub-result : goal.overflow_sub-result
overflow_sub-result c = omega (arith, length-decimal-le 19 c.unsigned_abs.result (omega arith) (omega arith) (omega arith), c.write_digits-start.ensures.start, c.requires.0)

pub returns-clause-short : goal.returns-clause-short
returns-clause-short c =
    let long = length-decimal-le 19 c.unsigned_abs.result (omega arith) (omega arith) (omega arith) in
    (omega (arith, c.write_digits-start.ensures.start), omega (arith, long, c.write_digits-start.ensures.start, c.requires.0))

pub returns-clause-written : goal.returns-clause-written
returns-clause-written c =
    let w = c.write_digits-start in
    let long = length-decimal-le 19 c.unsigned_abs.result (omega arith) (omega arith) (omega arith) in
    let e : w.result - 1 + 1 ≡ w.result = omega (arith, long, w.ensures.start, c.requires.0) in
    let back = to_z-of_z c.ranges.number in
    rw (drop-set w.new.buf (w.result - 1) 45 (omega (arith, long, w.ensures.start, c.requires.0, c.requires.1)), e, w.ensures.written, c.unsigned_abs.ensures.value, back)
    (ap (λ l. l ++ drop c.args.end c.args.text.now) (minus_first c.args.number (rw back at c.if-number-ge0.false)))

pub returns-clause-same : goal.returns-clause-same
returns-clause-same c = grind (arith, common_steps)

pub returns-then-number-ge0-clause-written : goal.returns-then-number-ge0-clause-written
returns-then-number-ge0-clause-written c = grind (arith, common_steps)
