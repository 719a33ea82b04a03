use Rattle.std.proofs.lemmas.Grind.{common_steps}
use Rattle.std.proofs.Common.{slice_index, arith}
use Rattle.cql_syntax.proofs.LexLemmas.{boundary_behind, word_starts}
use Rattle.cql_syntax.proofs.lex.word.Goals as goal
use Rattle.cql_syntax.specs.Lex.{word}

pub range-written-requires-clause-end_boundary : goal.range-written-requires-clause-end_boundary
range-written-requires-clause-end_boundary c =
    boundary_behind _ _ _ c.as_bytes.ensures.value c.as_bytes.ensures.utf8 c.requires.some (word_starts (slice_index c.args.rest.now 0) c.requires.begins) c.word_len-len.ensures.within c.word_len-len.ensures.moves c.word_len-len.ensures.ascii

pub returns-clause-value : goal.returns-clause-value
unfolding word
returns-clause-value c = grind (arith, common_steps, word_starts)
