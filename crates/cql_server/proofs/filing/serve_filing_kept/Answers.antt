use denote.Param.Send.{IsSend, sendable}
use Rattle.cql_hall.proofs.Crosses.{kept_row_send}
use Rattle.cql_hall.specs.contracts.journal.Kept as kept_type
use Rattle.cql_server.proofs.filing.serve_filing_kept.Goals as goal

pub ends_over-requires-send-J : goal.ends_over-requires-send-J
ends_over-requires-send-J g c κs within =
    let kept : Unit {0} → IsSend kept_type.the_row = λ u. kept_row_send in
    search (sendable, kept) depth 20
