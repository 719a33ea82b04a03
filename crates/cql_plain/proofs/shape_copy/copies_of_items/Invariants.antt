use Rattle.std.proofs.Common.{◌≡◌, take}
use Rattle.cql_plain.proofs.shape_copy.copies_of_items.Given as goal

-- the copies so far are the items so far
abbrev pub invariant-loop-item : goal.invariant-loop-item
invariant-loop-item l = l.copies.items ≡ take l.item-index l.items
