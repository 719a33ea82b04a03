use Rattle.std.proofs.Common.{◌≡◌, map, take, vec_len}
use Rattle.cql_hall.specs.Sent.{sent_as, AreNumbers}
use Rattle.cql_hall.proofs.sent.by_place.Given as goal

-- the numbers of the receipts so far
abbrev pub invariant-loop-number : goal.invariant-loop-number
invariant-loop-number l = record {
  room : vec_len l.numbers ≡ l.count;
  numbers : AreNumbers l.count (map sent_as (take l.number l.sent)) (map (λ list. list.items) l.numbers.items);
}
