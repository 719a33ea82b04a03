use Rattle.cql_syntax.proofs.LexLemmas.{boundary_quote}
use Rattle.cql_syntax.proofs.lex.text_token.Goals as goal

pub range_from-requires : goal.range_from-requires
range_from-requires c _ = boundary_quote c.args.rest.now c.utf8.rest c.requires.some c.requires.begins
