use Rattle.cql_syntax.specs.Tokens.{tokens_of}
use Rattle.cql_syntax.specs.Lex.{lexed}
use Rattle.cql_text.proofs.reader.read.Goals as goal

pub invariant_of-result : goal.invariant_of-result
invariant_of-result c = (tokens_of (lexed c.args.text.now).lexemes, (c.in-Ok.ensures).found.2)
