use Rattle.std.proofs.Common.{rules}
use Rattle.cql_asked.proofs.rules.keys_rule.Goals as goal

pub returns : goal.returns
returns c = search rules
