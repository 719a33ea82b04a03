use Rattle.cql_journal.specs.Taken.{entry_of}
use Rattle.cql_journal.proofs.Stepping.{record_told, no_call}
use Rattle.cql_journal.proofs.replaying.replay_record.Goals as goal

pub returns-in-Ok : goal.returns-in-Ok
returns-in-Ok g c = record_told _ _ _ (entry_of c.args.given) _ _ _ _ c.in-Some.ensures.some c.in-Ok.ensures c.step-step.ensures c.outcome_of.ensures

pub returns-in-Err : goal.returns-in-Err
returns-in-Err g c = no_call _ _ (entry_of c.args.given) _ c.in-Err.ensures
