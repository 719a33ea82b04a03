use Rattle.std.proofs.Common.{rules}
use Rattle.cql_text.specs.Readers.{query}
use Rattle.cql_text.proofs.query.query.Goals as goal

pub returns : goal.returns
unfolding query
returns c = search rules
