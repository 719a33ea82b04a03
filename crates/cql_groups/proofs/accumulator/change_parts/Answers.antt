use Rattle.std.proofs.Common.{arith, rules}
use Rattle.cql_groups.specs.Parts.{part_changed}
use Rattle.cql_groups.proofs.Written.{written_on}
use Rattle.cql_groups.proofs.accumulator.change_parts.Goals as goal

pub loop-i-preserved : goal.loop-i-preserved
loop-i-preserved c =
    written_on (part_changed c.args.change.now) c.args.parts.now.items c.loop-i.parts.items c.loop-i.i c.index_mut.result.now c.change.new.self (omega (arith, c.len-i-end.ensures)) c.loop-i.invariant (search rules) c.in_ok-change.ensures
