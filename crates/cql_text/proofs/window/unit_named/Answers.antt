use Rattle.std.proofs.Common.{rules}
use Rattle.cql_text.specs.Meaning.{unit_named}
use Rattle.cql_text.proofs.window.unit_named.Goals as goal

pub returns-then-is_either-2-clause-value : goal.returns-then-is_either-2-clause-value
unfolding unit_named
returns-then-is_either-2-clause-value c = search rules
