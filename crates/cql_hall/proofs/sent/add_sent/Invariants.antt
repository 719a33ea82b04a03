use Rattle.std.proofs.Common.{◌≡◌, ℕ, ◌++◌, map, take}
use Rattle.cql_hall.specs.Audit.{heard}
use Rattle.cql_hall.specs.Sent.{sent_as, sent_by}
use Rattle.cql_hall.proofs.sent.add_sent.Given as goal

-- the receipts so far were added
abbrev pub invariant-loop-receipt : goal.invariant-loop-receipt
invariant-loop-receipt l = (caller : ℕ) → map sent_as l.sent.items ≡ map sent_as l.fn.sent.items ++ sent_by l.tenant (map (heard caller) (take l.receipt-index l.receipts))
