use Rattle.std.proofs.Common.{◌≡◌, true, false}
use Rattle.cql_journal.proofs.Parsing.{has_it}
use Rattle.cql_journal.proofs.record.has_byte.Goals as goal

pub returns-in-Some : goal.returns-in-Some
returns-in-Some c = (λ no. absurd (let k : true ≡ false = no in cc), λ lacks. absurd (has_it _ _ _ _ c.in-Some.ensures.cut lacks))
