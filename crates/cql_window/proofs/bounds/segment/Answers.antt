use Rattle.std.proofs.lemmas.Grind.{common_steps}
use Rattle.std.proofs.Common.{arith}
use Rattle.cql_window.proofs.Segments.{two_parts}
use Rattle.cql_window.proofs.bounds.segment.Goals as goal

pub returns-clause-rows : goal.returns-clause-rows
returns-clause-rows c =
    rw (c.range-first.ensures, c.range-second.ensures) (two_parts c.args.from c.args.to c.min.result c.min-2.result c.saturating_sub.result c.saturating_sub-2.result c.args.content.now c.args.unseen.now c.requires.order (omega (arith, c.min.ensures, c.len-settled.ensures.value)) (omega (arith, c.min-2.ensures, c.len-settled.ensures.value)) (omega (arith, c.saturating_sub.ensures, c.len-settled.ensures.value)) (omega (arith, c.saturating_sub-2.ensures, c.len-settled.ensures.value)))

pub returns-clause-size : goal.returns-clause-size
returns-clause-size c = grind (arith, common_steps)
