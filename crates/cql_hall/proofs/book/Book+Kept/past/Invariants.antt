-- As many receipts as places were passed have a place.
use Rattle.std.proofs.Common.{◌≡◌}
use Rattle.cql_hall.specs.Audit.{placed}
use Rattle.cql_hall.proofs.book.Book+Kept.past.Given as goal

abbrev pub invariant-loop-place : goal.invariant-loop-place
invariant-loop-place l = placed l.receipts.items ≡ l.place
