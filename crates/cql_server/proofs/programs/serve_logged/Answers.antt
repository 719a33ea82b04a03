use denote.Param.{param}
use denote.Param.Send.{IsSync, sendable}
use denote.Ref.{NamedLft}
use Rattle.cql_server.specs.contracts.watch.Watch as watch_type
use Rattle.cql_server.proofs.Crosses.{watch_row_sync}
use Rattle.cql_server.proofs.programs.serve_logged.Goals as goal

-- the fact stands behind a function, since a search takes a record apart and then misses the whole
pub attend-requires-sync-G : goal.attend-requires-sync-G
attend-requires-sync-G g c κs within =
    let watch : (a : NamedLft) → IsSync (watch_type.the_row a (param 0 g.row.R)) = λ a. watch_row_sync a (param 0 g.row.R) c.type_bounds.sync-R in
    search (watch, sendable) depth 20
