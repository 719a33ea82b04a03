use Rattle.std.proofs.Common.{ap, sym, ◌∙◌, length, ◌==◌}
use Rattle.cql_hall.proofs.Queueing.{calls_count}
use Rattle.cql_hall.proofs.filings.Filings.is_empty.Goals as goal

pub returns : goal.returns
returns c = c.is_empty.ensures ∙ ap (λ n. n == 0) (c.self.inside.pieces.ok.0 ∙ sym (calls_count c.self.inside.pieces.items c.self.inside.text.items) ∙ ap length c.self.view_is)
