use Rattle.std.proofs.Common.{sym, refl, arith}
use Rattle.cql_tests.proofs.Fitting.{fit_cons}
use Rattle.cql_tests.proofs.pins.are_fit.Goals as goal

pub loop-first-preserved : goal.loop-first-preserved
loop-first-preserved c = λ fit. c.loop-first.invariant (fit_cons c.in-Some.first.now c.in-Some.later.now c.loop-first.left.now c.at-at.result c.row.result.now c.in-Some.ensures.cases.0 c.at-at.ensures c.row.ensures (omega arith) (sym c.if-not-none_before.ensures) (c.if-not-is_number.ensures refl) fit)
