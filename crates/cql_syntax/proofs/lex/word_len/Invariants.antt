use Rattle.std.proofs.Common.{◌≡◌, ◌+◌, ◌-◌, ◌≤◌, ◌<◌, length, drop, slice_index}
use Rattle.std.specs.List.{prefix_len}
use Rattle.cql_value.specs.Name.{is_word_byte}
use Rattle.cql_syntax.proofs.lex.word_len.Given as goal

abbrev pub invariant-loop-end : goal.invariant-loop-end
invariant-loop-end l = (l.end + prefix_len is_word_byte (drop l.end l.z) ≡ prefix_len is_word_byte l.z) × (l.end ≤ length l.z) × (0 < l.end → slice_index l.z (l.end - 1) < 128)

abbrev pub decreases-loop-end : goal.decreases-loop-end
decreases-loop-end l = length l.z - l.end
