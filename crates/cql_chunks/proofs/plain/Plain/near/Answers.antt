use Rattle.std.proofs.lemmas.Grind.{common_steps}
use Rattle.std.proofs.Common.{◌≡◌, ◌+◌, ◌-◌, ◌≤◌, ◌<◌, ◌*◌, arith, rules, ap, ◌∙◌, length, drop, take, length-drop, length-take, refl}
use Rattle.cql_chunks.specs.Chunks.{rows_of, chunk_at}
use Rattle.cql_chunks.proofs.Rows.{index_before, chunk_below, chunk_of, run_rows}
use Rattle.cql_chunks.proofs.plain.Plain.near.Goals as goal

pub slice_in-requires-clause-order : goal.slice_in-requires-clause-order
slice_in-requires-clause-order c =
    let s = c.self.inside in
    let k = c.min-chunk.result in
    let start = s.gone + c.args.from in
    let first = start - 128 * k in
    let rows = rows_of s.full.items s.last.items in
    let held : length (drop s.gone rows) ≡ length c.args.self.now = ap length c.self.view_is in
    let within : start < length rows = omega (arith, c.requires.order, c.requires.within, held, length-drop s.gone rows, c.self.invariant.all, c.self.invariant.within) in
    let is : k ≡ chunk_of start (length s.full.items) = search rules in
    let chunk : c.chunk_of-rows.result.now ≡ chunk_at s.full.items s.last.items k = search rules in
    let before : start < 128 * k + length (chunk_at s.full.items s.last.items k) = rw is (index_before start s.full.items s.last.items c.self.invariant.are_full within) in
    let below = chunk_below start k s.full.items is in
    let long : length c.chunk_of-rows.result.now ≡ length (chunk_at s.full.items s.last.items k) = ap length chunk in
    omega (arith, c.min.ensures, long, before, below.1)

pub returns-clause-some : goal.returns-clause-some
returns-clause-some c =
    let s = c.self.inside in
    let k = c.min-chunk.result in
    let start = s.gone + c.args.from in
    let first = start - 128 * k in
    let rows = rows_of s.full.items s.last.items in
    let held : length (drop s.gone rows) ≡ length c.args.self.now = ap length c.self.view_is in
    let within : start < length rows = omega (arith, c.requires.order, c.requires.within, held, length-drop s.gone rows, c.self.invariant.all, c.self.invariant.within) in
    let is : k ≡ chunk_of start (length s.full.items) = search rules in
    let chunk : c.chunk_of-rows.result.now ≡ chunk_at s.full.items s.last.items k = search rules in
    let before : start < 128 * k + length (chunk_at s.full.items s.last.items k) = rw is (index_before start s.full.items s.last.items c.self.invariant.are_full within) in
    let below = chunk_below start k s.full.items is in
    let long : length c.chunk_of-rows.result.now ≡ length (chunk_at s.full.items s.last.items k) = ap length chunk in
    let size : length c.slice_in.result.now ≡ c.min.result - first = omega (arith, ap length c.slice_in.ensures, length-take (c.min.result - first) (drop first c.chunk_of-rows.result.now), length-drop first c.chunk_of-rows.result.now, c.min.ensures, long, before, below.1) in
    omega (arith, size, c.min.ensures, long, before, below.1, c.requires.order)

pub returns-clause-rows : goal.returns-clause-rows
returns-clause-rows c =
    let s = c.self.inside in
    let k = c.min-chunk.result in
    let start = s.gone + c.args.from in
    let first = start - 128 * k in
    let rows = rows_of s.full.items s.last.items in
    let held : length (drop s.gone rows) ≡ length c.args.self.now = ap length c.self.view_is in
    let within : start < length rows = omega (arith, c.requires.order, c.requires.within, held, length-drop s.gone rows, c.self.invariant.all, c.self.invariant.within) in
    let is : k ≡ chunk_of start (length s.full.items) = search rules in
    let chunk : c.chunk_of-rows.result.now ≡ chunk_at s.full.items s.last.items k = search rules in
    let before : start < 128 * k + length (chunk_at s.full.items s.last.items k) = rw is (index_before start s.full.items s.last.items c.self.invariant.are_full within) in
    let below = chunk_below start k s.full.items is in
    let long : length c.chunk_of-rows.result.now ≡ length (chunk_at s.full.items s.last.items k) = ap length chunk in
    let size : length c.slice_in.result.now ≡ c.min.result - first = omega (arith, ap length c.slice_in.ensures, length-take (c.min.result - first) (drop first c.chunk_of-rows.result.now), length-drop first c.chunk_of-rows.result.now, c.min.ensures, long, before, below.1) in
    let n = c.min.result - first in
    let inside : first + n ≤ length (chunk_at s.full.items s.last.items k) = omega (arith, c.min.ensures, long, before, below.1) in
    rw size (c.slice_in.ensures ∙ ap (λ l. take n (drop first l)) chunk ∙ run_rows k start s.gone c.args.from n s.full.items s.last.items c.self.invariant.are_full below.0 below.1 inside refl ∙ ap (λ l. take n (drop c.args.from l)) c.self.view_is)

pub overflow_add-first : goal.overflow_add-first
overflow_add-first c = grind (arith, common_steps)

pub overflow_mul-first : goal.overflow_mul-first
overflow_mul-first c = grind (arith, common_steps)

pub returns-clause-within : goal.returns-clause-within
returns-clause-within c = grind (arith, common_steps)

pub overflow_add-start : goal.overflow_add-start
overflow_add-start c = grind (arith, common_steps)
