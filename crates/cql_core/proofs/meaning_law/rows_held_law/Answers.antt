use Rattle.cql_core.proofs.HeldRows.{rows_held_law}
use Rattle.cql_core.proofs.meaning_law.rows_held_law.Goals as goal

pub returns : goal.returns
returns c = rows_held_law
