use Rattle.std.proofs.Common.{◌≡◌, ℕ, [], map, get_or, vec_len}
use Rattle.cql_hall.proofs.sent.no_numbers.Given as goal

-- each list so far is without numbers
abbrev pub invariant-loop : goal.invariant-loop
invariant-loop l = record {
  room : vec_len l.numbers ≡ l.counter;
  empty : (place : ℕ) → get_or (map (λ list. list.items) l.numbers.items) place [] ≡ [];
}
