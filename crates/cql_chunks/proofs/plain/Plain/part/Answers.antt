use Rattle.std.proofs.lemmas.Grind.{common_steps}
use Rattle.std.proofs.Common.{◌≡◌, ◌+◌, ◌-◌, ◌≤◌, ◌<◌, ◌*◌, ◌/◌, ◌^◌, arith, rules, ap, length, drop, take, length-drop, refl}
use Rattle.cql_chunks.specs.Chunks.{rows_of, chunk_at}
use Rattle.cql_chunks.proofs.Rows.{index_within, chunk_of, chunk_short, one_rows, more_rows, more_chunks}
use Rattle.cql_chunks.proofs.plain.Plain.part.Goals as goal

pub copies_in-requires-clause-within : goal.copies_in-requires-clause-within
copies_in-requires-clause-within c =
    let s = c.self.inside in
    let k = c.min-whole.result in
    let stop = s.gone + c.args.to in
    let rows = rows_of s.full.items s.last.items in
    let held : length (drop s.gone rows) ≡ length c.args.self.now = ap length c.self.view_is in
    let bound : stop ≤ length rows = omega (arith, c.requires.within, held, length-drop s.gone rows, c.self.invariant.all, c.self.invariant.within) in
    let is : k ≡ chunk_of stop (length s.full.items) = search rules in
    let chunk : c.chunk_of-rest.result.now ≡ chunk_at s.full.items s.last.items k = search rules in
    let within : stop ≤ 128 * k + length (chunk_at s.full.items s.last.items k) = rw is (index_within stop s.full.items s.last.items c.self.invariant.are_full bound) in
    rw chunk (omega (arith, within))

pub copies_in-requires-2-clause-within : goal.copies_in-requires-2-clause-within
copies_in-requires-2-clause-within c =
    let s = c.self.inside in
    let k = c.min-whole.result in
    let stop = s.gone + c.args.to in
    let rows = rows_of s.full.items s.last.items in
    let held : length (drop s.gone rows) ≡ length c.args.self.now = ap length c.self.view_is in
    let bound : stop ≤ length rows = omega (arith, c.requires.within, held, length-drop s.gone rows, c.self.invariant.all, c.self.invariant.within) in
    let is : k ≡ chunk_of stop (length s.full.items) = search rules in
    let chunk : c.chunk_of-rest.result.now ≡ chunk_at s.full.items s.last.items k = search rules in
    let within : stop ≤ 128 * k + length (chunk_at s.full.items s.last.items k) = rw is (index_within stop s.full.items s.last.items c.self.invariant.are_full bound) in
    rw chunk (omega (arith, within))

pub returns-then-whole-first : goal.returns-then-whole-first
returns-then-whole-first c =
    let s = c.self.inside in
    let k = c.min-whole.result in
    let start = s.gone + c.args.from in
    let stop = s.gone + c.args.to in
    let rows = rows_of s.full.items s.last.items in
    let held : length (drop s.gone rows) ≡ length c.args.self.now = ap length c.self.view_is in
    let bound : stop ≤ length rows = omega (arith, c.requires.within, held, length-drop s.gone rows, c.self.invariant.all, c.self.invariant.within) in
    let is : k ≡ chunk_of stop (length s.full.items) = search rules in
    let chunk : c.chunk_of-rest.result.now ≡ chunk_at s.full.items s.last.items k = search rules in
    let copied : c.in_ok-last.last.items ≡ take (stop - 128 * k - (start - 128 * k)) (drop (start - 128 * k) c.chunk_of-rest.result.now) = search rules in
    rw (c.new-full.ensures.items, copied, chunk, ← c.self.view_is) (one_rows k start stop s.gone c.args.from c.args.to s.full.items s.last.items c.self.invariant.are_full is c.if-whole-first.true bound c.requires.order refl refl)

pub invariant_of-result-2 : goal.invariant_of-result-2
invariant_of-result-2 c =
    let s = c.self.inside in
    let k = c.min-whole.result in
    let start = s.gone + c.args.from in
    let stop = s.gone + c.args.to in
    let rows = rows_of s.full.items s.last.items in
    let held : length (drop s.gone rows) ≡ length c.args.self.now = ap length c.self.view_is in
    let bound : stop ≤ length rows = omega (arith, c.requires.within, held, length-drop s.gone rows, c.self.invariant.all, c.self.invariant.within) in
    let is : k ≡ chunk_of stop (length s.full.items) = search rules in
    let chunk : c.chunk_of-rest.result.now ≡ chunk_at s.full.items s.last.items k = search rules in
    let copied : c.in_ok-last-2.last.items ≡ take (stop - 128 * k) c.chunk_of-rest.result.now = search rules in
    let shared : c.in_ok-full.full.items ≡ take (k - start / 128) (drop (start / 128) s.full.items) = search rules in
    let fits : stop < 2 ^ 63 = omega (arith, bound, c.self.invariant.all, c.self.invariant.fits) in
    rw (shared, copied, chunk) (more_chunks k start stop s.end s.full.items s.last.items c.self.invariant.are_full is c.if-whole-first.false bound (omega (arith, c.requires.order)) fits (chunk_short k s.full.items s.last.items c.self.invariant.are_full c.self.invariant.short))

pub returns : goal.returns
returns c =
    let s = c.self.inside in
    let k = c.min-whole.result in
    let start = s.gone + c.args.from in
    let stop = s.gone + c.args.to in
    let rows = rows_of s.full.items s.last.items in
    let held : length (drop s.gone rows) ≡ length c.args.self.now = ap length c.self.view_is in
    let bound : stop ≤ length rows = omega (arith, c.requires.within, held, length-drop s.gone rows, c.self.invariant.all, c.self.invariant.within) in
    let is : k ≡ chunk_of stop (length s.full.items) = search rules in
    let chunk : c.chunk_of-rest.result.now ≡ chunk_at s.full.items s.last.items k = search rules in
    let copied : c.in_ok-last-2.last.items ≡ take (stop - 128 * k) c.chunk_of-rest.result.now = search rules in
    let shared : c.in_ok-full.full.items ≡ take (k - start / 128) (drop (start / 128) s.full.items) = search rules in
    rw (shared, copied, chunk, ← c.self.view_is) (more_rows k start stop s.gone c.args.from c.args.to s.full.items s.last.items c.self.invariant.are_full is c.if-whole-first.false bound c.requires.order refl refl)

pub invariant_of-result : goal.invariant_of-result
invariant_of-result c = grind (arith, common_steps)

pub overflow_mul-over : goal.overflow_mul-over
overflow_mul-over c = grind (arith, common_steps)

pub overflow_mul-result : goal.overflow_mul-result
overflow_mul-result c = grind (arith, common_steps)

pub overflow_mul-result-2 : goal.overflow_mul-result-2
overflow_mul-result-2 c = grind (arith, common_steps)

pub overflow_mul-whole : goal.overflow_mul-whole
overflow_mul-whole c = grind (arith, common_steps)

pub overflow_add-stop : goal.overflow_add-stop
overflow_add-stop c = grind (arith, common_steps)

pub overflow_add-start : goal.overflow_add-start
overflow_add-start c = grind (arith, common_steps)
