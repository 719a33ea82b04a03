use Rattle.std.proofs.Common.{rules}
use Rattle.cql_text.specs.Read.{refusal, with_one}
use Rattle.cql_text.proofs.reader.refusal.Goals as goal

pub returns-then-branch : goal.returns-then-branch
unfolding refusal with_one
returns-then-branch c = search rules
