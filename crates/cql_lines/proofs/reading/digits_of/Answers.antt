use Rattle.std.proofs.Common.{◌≡◌, ◌==◌, get_or, false, arith}
use Rattle.cql_lines.proofs.Digits.{of_parsed}
use Rattle.cql_lines.proofs.reading.digits_of.Goals as goal

pub returns-in-Ok : goal.returns-in-Ok
returns-in-Ok c =
    let minus : (get_or c.args.bytes.now 0 0 == 45) ≡ false = grind arith in
    let plus : (get_or c.args.bytes.now 0 0 == 43) ≡ false = grind arith in
    of_parsed c.args.bytes.now c.in-Ok.n minus plus c.in-Ok.ensures
