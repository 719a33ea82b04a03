use denote.Param.{param}
use denote.Param.Send.{IsSync, sendable}
use denote.Ref.{NamedLft}
use Rattle.std.proofs.Crossing.{crosses}
use Rattle.cql_sessions.specs.contracts.caller.Service as service_type
use Rattle.cql_benches.specs.contracts.shared_pool.SharedPool as pool_type
use Rattle.cql_benches.proofs.BenchesCrosses.{pool_sync}
use Rattle.cql_server.proofs.Crosses.{service_sync}
use Rattle.cql_server.proofs.sweeper.start_sweeper.Goals as goal

pub spawn_scoped-started-requires-send-F : goal.spawn_scoped-started-requires-send-F
spawn_scoped-started-requires-send-F g c κs within =
    let service : (a : NamedLft) → IsSync (service_type.the_row a (param 1 g.row.R) (param 2 g.row.C) (param 3 g.row.G)) = λ a. service_sync a (param 1 g.row.R) (param 2 g.row.C) (param 3 g.row.G) c.type_bounds.sync-R c.type_bounds.sync-C c.type_bounds.sync-G in
    let pool : Unit {0} → IsSync (pool_type.the_row (param 4 g.row.O) g.O.Operator) = λ u. pool_sync (param 4 g.row.O) g.O.Operator c.type_bounds.send-O in
    search (pool, service, crosses, sendable) depth 60 fits 20000
