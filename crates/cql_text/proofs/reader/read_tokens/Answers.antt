use Rattle.std.proofs.lemmas.Grind.{common_steps}
use Rattle.std.proofs.Common.{rules, arith}
use Rattle.cql_text.specs.Read.{read_tokens}
use Rattle.cql_text.proofs.reader.read_tokens.Goals as goal

pub returns-in-Ok : goal.returns-in-Ok
unfolding read_tokens
returns-in-Ok c = search rules

pub returns-in_ok-at-in-Err : goal.returns-in_ok-at-in-Err
unfolding read_tokens
returns-in_ok-at-in-Err c = grind (arith, common_steps)
