use denote.Param.{param}
use denote.Param.Send.{IsSend, IsSync, sendable}
use Rattle.cql_server.proofs.callers.WorkerSetup.serve.Goals as goal

-- The scope's closure asks for what its types owe. Each of these facts stands behind a function, since a search takes a record apart and then misses the whole.
pub scoped-requires : goal.scoped-requires
scoped-requires g c =
    let operator : Unit {0} → IsSend (param 0 g.row.O) = λ u. c.type_bounds.send-O in
    let clock : Unit {0} → IsSync (param 1 g.row.R) = λ u. c.type_bounds.sync-R in
    let callable : Unit {0} → IsSync (param 2 g.row.C) = λ u. c.type_bounds.sync-C in
    let gate : Unit {0} → IsSync (param 3 g.row.G) = λ u. c.type_bounds.sync-G in
    record {
      at = λ a. (search (sendable, operator) depth 20, search (sendable, clock) depth 20, search (sendable, callable) depth 20, search (sendable, gate) depth 20);
    }
