-- Rows in chunks of 128.
use Rattle.std.proofs.Common.{inl, inr, ◌≡◌, ◌↔◌, ℕ, zero, suc, ◌+◌, ◌-◌, ◌*◌, ◌/◌, ◌^◌, min, ◌≤◌, ◌<◌, List, [], ◌∷◌, ◌++◌, length, take, drop, get_or, refl, sym, ap, ◌∙◌, arith, append_assoc, append-nil, length-append, length-drop, length-take}
use Rattle.std.proofs.lemmas.Bool.{cases_lt}
use Rattle.std.proofs.Math.Seq.{take-add, take-append-add}
use Rattle.std.proofs.lemmas.List.{drop-take, take-append-drop, take-append-le, drop-append-le, length_push, drop_at, drop-drop, get_or_append_left, get_or-drop}
use Rattle.cql_value.specs.Element.{Element}
use Rattle.cql_chunks.specs.Chunks.{rows_of, AreFull, AreChunks, chunk_at}

-- one more full chunk takes the rows before the last ones
pub rows_close : (full : List (List Element)) (c last : List Element) → rows_of (full ++ c ∷ []) last ≡ rows_of full (c ++ last)
rows_close [] c last = refl
rows_close (b ∷ full) c last = ap (λ l. b ++ l) (rows_close full c last)

pub full_close : (full : List (List Element)) (c : List Element) → AreFull full → length c ≡ 128 → AreFull (full ++ c ∷ [])
full_close [] c are is = (is, tt)
full_close (b ∷ full) c are is = (are.0, full_close full c are.1 is)

-- one more row is one more of the last
pub rows_append : (full : List (List Element)) (last more : List Element) → rows_of full (last ++ more) ≡ rows_of full last ++ more
rows_append [] last more = refl
rows_append (b ∷ full) last more = ap (λ l. b ++ l) (rows_append full last more) ∙ sym (append_assoc b (rows_of full last) more)

pub rows_length : (full : List (List Element)) (last : List Element) → AreFull full → length (rows_of full last) ≡ 128 * length full + length last
rows_length [] last are = omega arith
rows_length (b ∷ full) last are = omega (arith, length-append b (rows_of full last), are.0, rows_length full last are.1)

pub full_drop : (k : ℕ) (full : List (List Element)) → AreFull full → AreFull (drop k full)
full_drop zero full are = are
full_drop (suc k) [] are = are
full_drop (suc k) (b ∷ full) are = full_drop k full are.1

pub full_take : (k : ℕ) (full : List (List Element)) → AreFull full → AreFull (take k full)
full_take zero full are = tt
full_take (suc k) [] are = tt
full_take (suc k) (b ∷ full) are = (are.0, full_take k full are.1)

-- the rows behind the first chunks
pub rows_drop : (k : ℕ) (full : List (List Element)) (last : List Element) → AreFull full → k ≤ length full → drop (128 * k) (rows_of full last) ≡ rows_of (drop k full) last
rows_drop zero full last are bound = refl
rows_drop (suc k) [] last are bound = absurd (omega (arith, bound))
rows_drop (suc k) (b ∷ full) last are bound =
    let e : 128 * suc k ≡ 128 + 128 * k = omega arith in
    ap (λ n. drop n (b ++ rows_of full last)) e
    ∙ sym (drop-drop (128 * k) 128 (b ++ rows_of full last))
    ∙ ap (drop (128 * k)) (drop_at b (rows_of full last) 128 are.0)
    ∙ rows_drop k full last are.1 (omega (arith, bound))

-- the rows up to one behind the first chunks
pub rows_take : (k n : ℕ) (full : List (List Element)) (last : List Element) → AreFull full → k ≤ length full → take (128 * k + n) (rows_of full last) ≡ rows_of (take k full) (take n (rows_of (drop k full) last))
rows_take zero n full last are bound =
    let e : 128 * zero + n ≡ n = omega arith in
    ap (λ m. take m (rows_of full last)) e
rows_take (suc k) n [] last are bound = absurd (omega (arith, bound))
rows_take (suc k) n (b ∷ full) last are bound =
    let e : 128 * suc k + n ≡ 128 + (128 * k + n) = omega arith in
    ap (λ m. take m (b ++ rows_of full last)) e
    ∙ ap (λ m. take (m + (128 * k + n)) (b ++ rows_of full last)) (sym are.0)
    ∙ take-append-add b (rows_of full last) (128 * k + n)
    ∙ ap (λ l. b ++ l) (rows_take k n full last are.1 (omega (arith, bound)))

-- a chunk begins the rows from it on
pub chunk_first : (k : ℕ) (full : List (List Element)) (last : List Element) → k ≤ length full → (more : List Element) × (rows_of (drop k full) last ≡ chunk_at full last k ++ more)
chunk_first zero [] last bound = ([], sym (append-nil last))
chunk_first zero (b ∷ full) last bound = (rows_of full last, refl)
chunk_first (suc k) [] last bound = absurd (omega (arith, bound))
chunk_first (suc k) (b ∷ full) last bound = chunk_first k full last (omega (arith, bound))

-- a full chunk has 128 rows
pub chunk_full : (k : ℕ) (full : List (List Element)) (last : List Element) → AreFull full → k < length full → length (chunk_at full last k) ≡ 128
chunk_full k [] last are bound = absurd (omega (arith, bound))
chunk_full zero (b ∷ full) last are bound = are.0
chunk_full (suc k) (b ∷ full) last are bound = chunk_full k full last are.1 (omega (arith, bound))

pub chunk_last : (full : List (List Element)) (last : List Element) → chunk_at full last (length full) ≡ last
chunk_last [] last = refl
chunk_last (b ∷ full) last = chunk_last full last

-- the number of the chunk in which an index stands
abbrev pub chunk_of : ℕ → ℕ → ℕ
chunk_of at count = min (at / 128) count

-- an index up to the end stands in its chunk, or at its end where that is the last
pub index_within : (at : ℕ) (full : List (List Element)) (last : List Element) → AreFull full → at ≤ length (rows_of full last) → at ≤ 128 * chunk_of at (length full) + length (chunk_at full last (chunk_of at (length full)))
index_within at full last are bound =
    let len = rows_length full last are in
    elim (cases_lt (at / 128) (length full)) [
      | inl less ↦
          let is : chunk_of at (length full) ≡ at / 128 = omega (arith, less) in
          rw is (omega (arith, chunk_full (at / 128) full last are less))
      | inr more ↦
          let is : chunk_of at (length full) ≡ length full = omega (arith, more) in
          rw is (rw chunk_last (omega (arith, len, bound)))
    ]

pub index_before : (at : ℕ) (full : List (List Element)) (last : List Element) → AreFull full → at < length (rows_of full last) → at < 128 * chunk_of at (length full) + length (chunk_at full last (chunk_of at (length full)))
index_before at full last are bound =
    let len = rows_length full last are in
    elim (cases_lt (at / 128) (length full)) [
      | inl less ↦
          let is : chunk_of at (length full) ≡ at / 128 = omega (arith, less) in
          rw is (omega (arith, chunk_full (at / 128) full last are less))
      | inr more ↦
          let is : chunk_of at (length full) ≡ length full = omega (arith, more) in
          rw is (rw chunk_last (omega (arith, len, bound)))
    ]

-- the row at an index
pub rows_get : (k j : ℕ) (full : List (List Element)) (last : List Element) (d : Element) → AreFull full → k ≤ length full → j < length (chunk_at full last k) → get_or (rows_of full last) (128 * k + j) d ≡ get_or (chunk_at full last k) j d
rows_get k j full last d are bound within =
    let first = chunk_first k full last bound in
    sym (get_or-drop (128 * k) (rows_of full last) j d)
    ∙ ap (λ l. get_or l j d) (rows_drop k full last are bound ∙ first.1)
    ∙ get_or_append_left (chunk_at full last k) first.0 d j within

-- rows of one chunk
pub part_one : (k m n : ℕ) (full : List (List Element)) (last : List Element) → AreFull full → k ≤ length full → m + n ≤ length (chunk_at full last k) → take n (drop m (chunk_at full last k)) ≡ take n (drop (128 * k + m) (rows_of full last))
part_one k m n full last are bound within =
    let first = chunk_first k full last bound in
    let chunk = chunk_at full last k in
    let len : n ≤ length (drop m chunk) = omega (arith, length-drop m chunk) in
    sym (take-append-le n (drop m chunk) first.0 len)
    ∙ ap (take n) (sym (drop-append-le m chunk first.0 (omega (arith, within))))
    ∙ ap (λ l. take n (drop m l)) (sym first.1 ∙ sym (rows_drop k full last are bound))
    ∙ ap (take n) (drop-drop m (128 * k) (rows_of full last))

-- rows that begin in one chunk and end in a later one
pub part_more : (f w s o n : ℕ) (full : List (List Element)) (last : List Element) → AreFull full → f ≤ w → w ≤ length full → o ≤ length (chunk_at full last w) → s + n ≡ 128 * (w - f) + o → drop s (rows_of (take (w - f) (drop f full)) (take o (chunk_at full last w))) ≡ take n (drop (128 * f + s) (rows_of full last))
part_more f w s o n full last are order bound within sum =
    let first = chunk_first w full last bound in
    let at : f + (w - f) ≡ w = omega (arith, order) in
    let chunk : take o (chunk_at full last w) ≡ take o (rows_of (drop (w - f) (drop f full)) last) =
    sym (take-append-le o (chunk_at full last w) first.0 within)
    ∙ ap (take o) (sym first.1 ∙ ap (λ k. rows_of (drop k full) last) (sym at) ∙ ap (λ l. rows_of l last) (sym (drop-drop (w - f) f full))) in
    let less : w - f ≤ length (drop f full) = omega (arith, length-drop f full, bound) in
    ap (λ l. drop s (rows_of (take (w - f) (drop f full)) l)) chunk
    ∙ ap (drop s) (sym (rows_take (w - f) o (drop f full) last (full_drop f full are) less))
    ∙ ap (λ m. drop s (take m (rows_of (drop f full) last))) (sym sum)
    ∙ drop-take s n (rows_of (drop f full) last)
    ∙ ap (λ l. take n (drop s l)) (sym (rows_drop f full last are (omega (arith, order, bound))))
    ∙ ap (take n) (drop-drop s (128 * f) (rows_of full last))

-- one more of the last rows
pub push_chunks : (full next : List (List Element)) (last more : List Element) (gone end : ℕ) (x : Element) → AreChunks full last gone end → rows_of next more ≡ rows_of full last → AreFull next → length more < 128 → end + 1 < 2 ^ 63 → AreChunks next (more ++ x ∷ []) gone (end + 1)
push_chunks full next last more gone end x are same full_next room fits = record {
  are_full = full_next;
  short = omega (arith, length_push more x, room);
  all = omega (arith, ap length (rows_append next more (x ∷ [])), length_push (rows_of next more) x, ap length same, are.all);
  within = omega (arith, are.within);
  fits = fits;
}

pub push_rows : (full next : List (List Element)) (last more : List Element) (gone end : ℕ) (x : Element) → AreChunks full last gone end → rows_of next more ≡ rows_of full last → drop gone (rows_of next (more ++ x ∷ [])) ≡ drop gone (rows_of full last) ++ x ∷ []
push_rows full next last more gone end x are same =
    ap (drop gone) (rows_append next more (x ∷ []) ∙ ap (λ l. l ++ x ∷ []) same)
    ∙ drop-append-le gone (rows_of full last) (x ∷ []) (omega (arith, are.all, are.within))

-- the same rows with whole chunks gone
pub trim_chunks : (full : List (List Element)) (last : List Element) (gone end k : ℕ) → AreChunks full last gone end → k ≤ length full → 128 * k ≤ gone → AreChunks (drop k full) last (gone - 128 * k) (end - 128 * k)
trim_chunks full last gone end k are bound less = record {
  are_full = full_drop k full are.are_full;
  short = are.short;
  all = omega (arith, ap length (rows_drop k full last are.are_full bound), length-drop (128 * k) (rows_of full last), are.all);
  within = omega (arith, are.within);
  fits = omega (arith, are.fits);
}

pub trim_rows : (full : List (List Element)) (last : List Element) (gone end k : ℕ) → AreChunks full last gone end → k ≤ length full → 128 * k ≤ gone → drop (gone - 128 * k) (rows_of (drop k full) last) ≡ drop gone (rows_of full last)
trim_rows full last gone end k are bound less =
    let sum : 128 * k + (gone - 128 * k) ≡ gone = omega (arith, less) in
    ap (drop (gone - 128 * k)) (sym (rows_drop k full last are.are_full bound))
    ∙ drop-drop (gone - 128 * k) (128 * k) (rows_of full last)
    ∙ ap (λ n. drop n (rows_of full last)) sum

-- ---- parts of the rows

-- k chunks from the front lie before an index
pub chunk_below : (at k : ℕ) (full : List (List Element)) → k ≡ chunk_of at (length full) → (k ≤ length full) × (128 * k ≤ at)
chunk_below at k full is = (omega (arith, is), omega (arith, is))

-- a part that lies in one chunk
pub one_rows : (k start stop gone from to : ℕ) (full : List (List Element)) (last : List Element) → AreFull full → k ≡ chunk_of stop (length full) → k ≤ start / 128 → stop ≤ length (rows_of full last) → from ≤ to → start ≡ gone + from → stop ≡ gone + to → take (stop - 128 * k - (start - 128 * k)) (drop (start - 128 * k) (chunk_at full last k)) ≡ take (to - from) (drop from (drop gone (rows_of full last)))
one_rows k start stop gone from to full last are is before bound order begins ends =
    let low : 128 * k ≤ start = omega (arith, before) in
    let count : stop - 128 * k - (start - 128 * k) ≡ to - from = omega (arith, low, begins, ends, order) in
    let within : stop ≤ 128 * k + length (chunk_at full last k) = rw is (index_within stop full last are bound) in
    let at : 128 * k + (start - 128 * k) ≡ gone + from = omega (arith, low, begins) in
    ap (λ n. take n (drop (start - 128 * k) (chunk_at full last k))) count
    ∙ part_one k (start - 128 * k) (to - from) full last are (omega (arith, is)) (omega (arith, within, low, begins, ends, order))
    ∙ ap (λ n. take (to - from) (drop n (rows_of full last))) at
    ∙ ap (take (to - from)) (sym (drop-drop from gone (rows_of full last)))

-- a part that ends in a later chunk than it begins in
pub more_rows : (k start stop gone from to : ℕ) (full : List (List Element)) (last : List Element) → AreFull full → k ≡ chunk_of stop (length full) → start / 128 < k → stop ≤ length (rows_of full last) → from ≤ to → start ≡ gone + from → stop ≡ gone + to → drop (start - 128 * (start / 128)) (rows_of (take (k - start / 128) (drop (start / 128) full)) (take (stop - 128 * k) (chunk_at full last k))) ≡ take (to - from) (drop from (drop gone (rows_of full last)))
more_rows k start stop gone from to full last are is before bound order begins ends =
    let within : stop ≤ 128 * k + length (chunk_at full last k) = rw is (index_within stop full last are bound) in
    let at : 128 * (start / 128) + (start - 128 * (start / 128)) ≡ gone + from = omega (arith, begins) in
    part_more (start / 128) k (start - 128 * (start / 128)) (stop - 128 * k) (to - from) full last are (omega (arith, before)) (omega (arith, is)) (omega (arith, within)) (omega (arith, is, before, begins, ends, order))
    ∙ ap (λ n. take (to - from) (drop n (rows_of full last))) at
    ∙ ap (take (to - from)) (sym (drop-drop from gone (rows_of full last)))

-- the chunks of such a part
pub more_chunks : (k start stop end : ℕ) (full : List (List Element)) (last : List Element) → AreFull full → k ≡ chunk_of stop (length full) → start / 128 < k → stop ≤ length (rows_of full last) → start ≤ stop → stop < 2 ^ 63 → length (chunk_at full last k) ≤ 128 → AreChunks (take (k - start / 128) (drop (start / 128) full)) (take (stop - 128 * k) (chunk_at full last k)) (start - 128 * (start / 128)) (stop - 128 * (start / 128))
more_chunks k start stop end full last are is before bound order fits short =
    let within : stop ≤ 128 * k + length (chunk_at full last k) = rw is (index_within stop full last are bound) in
    let chunk = chunk_at full last k in
    let few = full_take (k - start / 128) (drop (start / 128) full) (full_drop (start / 128) full are) in
    record {
      are_full = few;
      short = omega (arith, length-take (stop - 128 * k) chunk, short);
      all = omega (arith, rows_length (take (k - start / 128) (drop (start / 128) full)) (take (stop - 128 * k) chunk) few, length-take (k - start / 128) (drop (start / 128) full), length-drop (start / 128) full, length-take (stop - 128 * k) chunk, within, is, before);
      within = omega (arith, order);
      fits = omega (arith, fits);
    }

-- no chunk has more than 128 rows
pub chunk_short : (k : ℕ) (full : List (List Element)) (last : List Element) → AreFull full → length last ≤ 128 → length (chunk_at full last k) ≤ 128
chunk_short k [] last are short = short
chunk_short zero (b ∷ full) last are short = omega (arith, are.0)
chunk_short (suc k) (b ∷ full) last are short = chunk_short k full last are.1 short

-- rows from an index on that lie in one chunk
pub run_rows : (k start gone from n : ℕ) (full : List (List Element)) (last : List Element) → AreFull full → k ≤ length full → 128 * k ≤ start → start - 128 * k + n ≤ length (chunk_at full last k) → start ≡ gone + from → take n (drop (start - 128 * k) (chunk_at full last k)) ≡ take n (drop from (drop gone (rows_of full last)))
run_rows k start gone from n full last are low before within begins =
    let at : 128 * k + (start - 128 * k) ≡ gone + from = omega (arith, before, begins) in
    part_one k (start - 128 * k) n full last are low within
    ∙ ap (λ m. take n (drop m (rows_of full last))) at
    ∙ ap (take n) (sym (drop-drop from gone (rows_of full last)))

-- the rows of one chunk and those behind them
pub stretch_more : (at to n : ℕ) (xs run : List Element) → run ≡ take n (drop at xs) → at + n ≤ to → run ++ take (to - (at + n)) (drop (at + n) xs) ≡ take (to - at) (drop at xs)
stretch_more at to n xs run is within =
    let sum : n + (to - (at + n)) ≡ to - at = omega (arith, within) in
    ap (λ l. l ++ take (to - (at + n)) (drop (at + n) xs)) is
    ∙ ap (λ l. take n (drop at xs) ++ take (to - (at + n)) l) (sym (drop-drop n at xs))
    ∙ sym (take-add n (to - (at + n)) (drop at xs))
    ∙ ap (λ m. take m (drop at xs)) sum

-- where lists begin alike with so many elements, they are the same exactly where the rest is
pub same_fronts : {X : Type 0} (k : ℕ) (xs ys r s : List X) → k ≤ length xs → k ≤ length ys → xs ++ r ≡ ys ++ s → take k xs ≡ take k ys
same_fronts k xs ys r s short below is = sym (take-append-le k xs r short) ∙ ap (take k) is ∙ take-append-le k ys s below

pub peeled : {X : Type 0} (k : ℕ) (xs ys r s : List X) → k ≤ length xs → k ≤ length ys → take k xs ≡ take k ys
    → (drop k xs ++ r ≡ drop k ys ++ s) ↔ (xs ++ r ≡ ys ++ s)
peeled {X} k xs ys r s short below same = (
  λ is. whole xs r ∙ ap (λ l. l ++ (drop k xs ++ r)) same ∙ ap (λ l. take k ys ++ l) is ∙ sym (whole ys s),
  λ is. sym (drop-append-le k xs r short) ∙ ap (drop k) is ∙ drop-append-le k ys s below,
)
  where
    whole : (zs t : List X) → zs ++ t ≡ take k zs ++ (drop k zs ++ t)
    whole zs t = ap (λ l. l ++ t) (sym (take-append-drop k zs)) ∙ append_assoc (take k zs) (drop k zs) t
