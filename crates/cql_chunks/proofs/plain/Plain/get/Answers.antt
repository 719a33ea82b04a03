use Rattle.std.proofs.lemmas.Grind.{common_steps}
use Rattle.std.proofs.Common.{◌≡◌, ◌+◌, ◌-◌, ◌<◌, ◌*◌, arith, rules, ap, sym, ◌∙◌, length, drop, get_or, length-drop}
use Rattle.std.proofs.lemmas.List.{get_or-drop}
use Rattle.cql_chunks.specs.Chunks.{rows_of, chunk_at}
use Rattle.cql_chunks.proofs.Rows.{index_before, rows_get, chunk_below, chunk_of}
use Rattle.cql_chunks.proofs.plain.Plain.get.Goals as goal

pub row_in-requires : goal.row_in-requires
row_in-requires c =
    let s = c.self.inside in
    let k = c.min-chunk.result in
    let rows = rows_of s.full.items s.last.items in
    let held : length (drop s.gone rows) ≡ length c.args.self.now = ap length c.self.view_is in
    let within : s.gone + c.args.index < length rows = omega (arith, c.requires, held, length-drop s.gone rows, c.self.invariant.all, c.self.invariant.within) in
    let is : k ≡ chunk_of (s.gone + c.args.index) (length s.full.items) = search rules in
    let chunk : c.chunk_of.result.now ≡ chunk_at s.full.items s.last.items k = search rules in
    let before : s.gone + c.args.index < 128 * k + length (chunk_at s.full.items s.last.items k) = rw is (index_before (s.gone + c.args.index) s.full.items s.last.items c.self.invariant.are_full within) in
    rw chunk (omega (arith, before, (chunk_below (s.gone + c.args.index) k s.full.items is).1))

pub returns : goal.returns
returns c =
    let s = c.self.inside in
    let k = c.min-chunk.result in
    let d = c.row_in.result.now in
    let rows = rows_of s.full.items s.last.items in
    let held : length (drop s.gone rows) ≡ length c.args.self.now = ap length c.self.view_is in
    let within : s.gone + c.args.index < length rows = omega (arith, c.requires, held, length-drop s.gone rows, c.self.invariant.all, c.self.invariant.within) in
    let is : k ≡ chunk_of (s.gone + c.args.index) (length s.full.items) = search rules in
    let chunk : c.chunk_of.result.now ≡ chunk_at s.full.items s.last.items k = search rules in
    let before : s.gone + c.args.index < 128 * k + length (chunk_at s.full.items s.last.items k) = rw is (index_before (s.gone + c.args.index) s.full.items s.last.items c.self.invariant.are_full within) in
    let below = chunk_below (s.gone + c.args.index) k s.full.items is in
    let at : 128 * k + (s.gone + c.args.index - 128 * k) ≡ s.gone + c.args.index = omega (arith, below.1) in
    c.row_in.ensures
    ∙ ap (λ l. get_or l (s.gone + c.args.index - 128 * k) d) chunk
    ∙ sym (rows_get k (s.gone + c.args.index - 128 * k) s.full.items s.last.items d c.self.invariant.are_full below.0 (omega (arith, before, below.1)))
    ∙ ap (λ n. get_or rows n d) at
    ∙ sym (get_or-drop s.gone rows c.args.index d)
    ∙ ap (λ l. get_or l c.args.index d) c.self.view_is

pub overflow_mul-chunk : goal.overflow_mul-chunk
overflow_mul-chunk c = grind (arith, common_steps)

pub overflow_add-at : goal.overflow_add-at
overflow_add-at c = grind (arith, common_steps)
