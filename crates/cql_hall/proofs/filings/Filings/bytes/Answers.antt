use Rattle.std.proofs.Common.{ap, sym, ◌∙◌, length}
use Rattle.std.specs.Prelude.{sum_by}
use Rattle.cql_hall.specs.Queue.{Queued}
use Rattle.cql_hall.proofs.Queueing.{calls_bytes}
use Rattle.cql_hall.proofs.filings.Filings.bytes.Goals as goal

pub returns : goal.returns
returns c =
    let s = c.self.inside in
    c.len.ensures ∙ s.text.ok.0 ∙ sym (calls_bytes s.pieces.items s.text.items c.self.invariant) ∙ ap (sum_by (λ (call : Queued). length call.line)) c.self.view_is
