use Rattle.std.proofs.Common.{◌≡◌, ◌∷◌, ◌++◌, map, take}
use Rattle.cql_value.specs.Order.{number_of}
use Rattle.cql_chunks.specs.Beside.{AreNumbers}
use Rattle.cql_chunks.proofs.words.push_words.Given as goal

abbrev pub invariant-loop-value : goal.invariant-loop-value
invariant-loop-value l = (l.words.items ≡ l.fn.words.items ++ l.at ∷ map number_of (take l.value-index l.value-items)) × AreNumbers (take l.value-index l.value-items)
