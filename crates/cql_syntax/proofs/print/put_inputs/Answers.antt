use Rattle.cql_syntax.specs.Spelling.{spell_input}
use Rattle.cql_syntax.proofs.Pieces.{separated_end}
use Rattle.cql_syntax.proofs.print.put_inputs.Goals as goal

pub returns-in_ok-put_further_inputs : goal.returns-in_ok-put_further_inputs
returns-in_ok-put_further_inputs c =
    separated_end spell_input c.args.out.now c.put_input.new.out c.put_further_inputs.new.out c.first-item.result c.args.inputs.now c.in-len1-up.len_at_least c.first-item.is c.in_ok-put_input.ensures c.in_ok-put_further_inputs.ensures
