-- The values from the one that was written last on stand at the end, with a comma before each; there is room for each that is left.
use Rattle.std.proofs.Common.{◌≡◌, ◌+◌, ◌*◌, ◌≤◌, true, length, drop}
use Rattle.cql_reply.specs.Line.{items_text, value_text}
use Rattle.cql_reply.proofs.row_place.write_numbers.Given as goal

abbrev pub invariant-loop-left : goal.invariant-loop-left
invariant-loop-left l =
    (drop l.from l.text ≡ items_text value_text true (drop l.left l.values)) × (l.left ≤ length l.values) × (l.from + 1 ≤ length l.text) × (length l.text + 21 * l.left ≤ l.from + 1 + 21 * length l.values)
    × (length l.text ≡ length l.fn.text)

abbrev pub decreases-loop-left : goal.decreases-loop-left
decreases-loop-left l = l.left
