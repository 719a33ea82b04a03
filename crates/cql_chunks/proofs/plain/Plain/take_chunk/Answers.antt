use Rattle.std.proofs.Common.{◌≤◌, ◌*◌, arith, rules, length}
use Rattle.cql_chunks.proofs.Rows.{trim_rows}
use Rattle.cql_chunks.proofs.plain.Plain.take_chunk.Goals as goal

pub returns : goal.returns
returns c =
    let s = c.self.inside in
    let bound : 1 ≤ length s.full.items = search rules in
    let below : 128 * 1 ≤ s.gone = omega arith in
    rw (c.pop_front.ensures.rest, ← c.self.view_is) (trim_rows s.full.items s.last.items s.gone s.end 1 c.self.invariant bound below)
