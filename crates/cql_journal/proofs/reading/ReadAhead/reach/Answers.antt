use Rattle.std.proofs.Common.{◌≡◌, ◌-◌, ◌<◌, ◌≤◌, true, false, arith, ap, length, length-append}
use Rattle.cql_journal.proofs.Finding.{still_kept, short_there}
use Rattle.cql_journal.proofs.reading.ReadAhead.reach.Goals as goal

pub loop-self-preserved : goal.loop-self-preserved
loop-self-preserved g c = still_kept _ _ _ _ _ _ c.loop-self.invariant c.in-Ok-true.ensures

pub loop-self-smaller : goal.loop-self-smaller
loop-self-smaller g c =
    let fill = c.in-Ok-true.ensures in
    let less : c.args.count - length c.fill.new.self < c.args.count - length c.loop-self.self =
    omega (arith, fill.came c.in-Ok-true.field-0-test, ap length fill.grown, length-append c.loop-self.self fill.piece, ap length c.as_slice.ensures, c.loop-self-test.true) in
    less

pub returns-in-Ok-false : goal.returns-in-Ok-false
returns-in-Ok-false g c =
    let fill = c.in-Ok-false.ensures in
    record {
      kept = still_kept _ _ _ _ _ _ c.loop-self.invariant fill;
      some = λ e. let no : false ≡ true = e in absurd cc;
      none = λ e. short_there _ _ _ _ _ _ c.in-Ok-false.field-0-test fill (omega (arith, ap length c.as_slice.ensures, c.loop-self-test.true));
    }

pub returns : goal.returns
returns g c = record {
  kept = c.loop-self.invariant;
  some = λ e. omega (arith, ap length c.as_slice.ensures, c.loop-self-test.false);
  none = λ e. let no : true ≡ false = e in absurd cc;
}
