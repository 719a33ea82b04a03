use Rattle.std.proofs.Common.{subst}
use Rattle.cql_text.specs.Read.{IsSyntax}
use Rattle.cql_text.proofs.reader.Syntax.query.Goals as goal

pub returns-clause-valid : goal.returns-clause-valid
returns-clause-valid c = subst IsSyntax c.self.view_is c.self.invariant
