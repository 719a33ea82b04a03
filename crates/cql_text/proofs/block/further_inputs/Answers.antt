use Rattle.std.proofs.Common.{rules}
use Rattle.cql_text.specs.Readers.{further_inputs}
use Rattle.cql_text.proofs.block.further_inputs.Goals as goal

pub returns : goal.returns
unfolding further_inputs
returns c = search rules
