use Rattle.std.proofs.Common.{◌≡◌, ◌+◌, take}
use Rattle.cql_chunks.specs.Beside.{words_of, HaveWords}
use Rattle.cql_chunks.proofs.words.words_of.Given as goal

abbrev pub invariant-loop-row : goal.invariant-loop-row
invariant-loop-row l = (l.words.items ≡ words_of (take l.row-index l.rows)) × HaveWords (l.values + 1) (take l.row-index l.rows)
