use Rattle.std.proofs.Common.{◌≡◌, map, take}
use Rattle.cql_hall.specs.Audit.{in_order}
use Rattle.cql_hall.specs.Sent.{sent_as, sent_by}
use Rattle.cql_hall.proofs.sent.sent_by.Given as goal

-- the lists so far were added
abbrev pub invariant-loop-list : goal.invariant-loop-list
invariant-loop-list l = map sent_as l.sent.items ≡ sent_by l.tenant (in_order 0 (map (λ list. list.items) (take l.list-index l.receipts)))
