use Rattle.std.proofs.Common.{arith}
use Rattle.std.proofs.lemmas.Grind.{common_steps}
use Rattle.cql_journal.proofs.Stepping.{replaying_none, replaying_more, stops, replayed_all, no_other_line}
use Rattle.cql_journal.proofs.replaying.replay_lines.Goals as goal

pub loop-line-init : goal.loop-line-init
loop-line-init g c = replaying_none _ _ _ _ _ (omega arith) c.requires.lines

pub returns-in_default-record_in : goal.returns-in_default-record_in
returns-in_default-record_in g c = no_other_line _ _ _ _ _ _ _ _ _ _ c.requires.chain c.loop-line.invariant c.in-Some.ensures.cut c.in-Some.ensures.first c.in_default-record_in.ensures.none

pub returns-in-Err : goal.returns-in-Err
returns-in-Err g c = stops _ _ _ _ _ _ _ _ _ _ _ _ c.requires.chain c.loop-line.invariant c.in-Some.ensures.cut c.in-Some.ensures.first c.in-Some-record_in.ensures.some c.in-Some-record_in.ensures.fits c.in-Err.ensures

pub loop-line-preserved : goal.loop-line-preserved
loop-line-preserved g c =
    replaying_more _ _ _ _ _ _ _ _ _ _ _ _ _ c.requires.chain c.loop-line.invariant c.saturating_add-counts.ensures c.in-Some.ensures.cut c.in-Some.ensures.first c.in-Some-record_in.ensures.some c.in-Some-record_in.ensures.fits c.in_default-replay_record.ensures

pub returns : goal.returns
returns g c = replayed_all _ _ _ _ _ _ _ _ c.loop-line.invariant c.in_default.ensures.none

pub loop-line-smaller : goal.loop-line-smaller
loop-line-smaller g c = grind (arith, common_steps)
