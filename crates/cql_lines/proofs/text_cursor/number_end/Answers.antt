use Rattle.std.proofs.Common.{◌≡◌, ◌+◌, drop, arith}
use Rattle.json.specs.Word.{head}
use Rattle.cql_lines.proofs.Plain.{minus_there, no_minus, number_found}
use Rattle.cql_lines.proofs.text_cursor.number_end.Goals as goal

pub returns-then-byte_at-eq45-clause-number : goal.returns-then-byte_at-eq45-clause-number
returns-then-byte_at-eq45-clause-number c =
    let d = c.args.text.now in
    let i = c.args.from in
    let found = c.whole_end.ensures in
    let minus : head (drop i d) ≡ 45 = grind arith in
    number_found d i (i + 1) c.whole_end.result (minus_there d i minus) found.whole found.bounds found.mark

pub returns-else-byte_at-eq45-clause-number : goal.returns-else-byte_at-eq45-clause-number
returns-else-byte_at-eq45-clause-number c =
    let d = c.args.text.now in
    let i = c.args.from in
    let found = c.whole_end-else-byte_at-eq45.ensures in
    number_found d i i c.whole_end-else-byte_at-eq45.result (no_minus (drop i d) (λ (e : head (drop i d) ≡ 45). c.if-byte_at-eq45.false (grind (arith, e)))) found.whole found.bounds found.mark
