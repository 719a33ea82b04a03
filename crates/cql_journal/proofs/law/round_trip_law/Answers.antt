use Rattle.cql_journal.proofs.Batches.{round_trip_law}
use Rattle.cql_journal.proofs.law.round_trip_law.Goals as goal

pub returns : goal.returns
returns c = round_trip_law
