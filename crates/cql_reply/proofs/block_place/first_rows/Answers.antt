use Rattle.std.proofs.Common.{ap, ◌∙◌, sym}
use Rattle.cql_reply.specs.Place.{first_rows}
use Rattle.cql_reply.proofs.block_place.first_rows.Goals as goal

pub returns-in-Signed : goal.returns-in-Signed
returns-in-Signed c = c.as_slice.ensures ∙ ap first_rows (sym c.in-Signed.is)
