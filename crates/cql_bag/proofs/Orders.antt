-- Rows that wait, and the bag of them and of those in order.
use Rattle.std.proofs.Common.{◌≡◌, ℕ, zero, suc, ◌+◌, ◌-◌, ◌<◌, List, [], ◌∷◌, ◌++◌, length, drop, slice_get, slice_index_or, Some, if◌then◌else◌, Bool, true, false, refl, ap, sym, ◌∙◌, arith}
use Rattle.std.specs.Ordering.{is_eq}
use Rattle.cql_value.specs.Order.{row_cmp}
use Rattle.cql_value.specs.declared.value.Value.{Value}
use Rattle.cql_value.proofs.Ties.{tied}
use Rattle.cql_bag.specs.Bag.{Counts, IsBag, count, put, put_rows, less_one}
use Rattle.cql_bag.specs.Law.{times_in}
use Rattle.cql_bag.proofs.Rows.{bag_put, count_put, bag_less, count_less, same_counts_law}

pub is_bag : (rows : List (List Value)) (bag : Counts) → IsBag bag → IsBag (put_rows rows bag)
is_bag [] bag is = is
is_bag (x ∷ rows) bag is = is_bag rows (put x bag) (bag_put x 1 bag (omega arith) is)

counts : (q : List Value) (rows : List (List Value)) (bag : Counts) → count q (put_rows rows bag) ≡ count q bag + times_in q rows
counts q [] bag = omega arith
counts q (x ∷ rows) bag = omega (arith, counts q rows (put x bag), count_put q x 1 bag)

-- one that comes waits at the end
pub at_end : (rows : List (List Value)) (row : List Value) (bag : Counts) → put_rows (rows ++ row ∷ []) bag ≡ put row (put_rows rows bag)
at_end [] row bag = refl
at_end (x ∷ rows) row bag = at_end rows row (put x bag)

-- the first one goes
pub first_goes : (rows others : List (List Value)) (row : List Value) (bag : Counts) → IsBag bag → rows ≡ row ∷ others → put_rows others bag ≡ less_one row (put_rows rows bag)
first_goes rows others row bag is e =
    let whole : IsBag (put_rows (row ∷ others) bag) = is_bag (row ∷ others) bag is in
    same_counts_law (put_rows others bag) (less_one row (put_rows (row ∷ others) bag)) (is_bag others bag is) (bag_less row (put_rows (row ∷ others) bag) whole) (λ q. omega (arith, counts q others bag, counts q (row ∷ others) bag, count_less q row (put_rows (row ∷ others) bag) whole)) ∙ ap (λ z. less_one row (put_rows z bag)) (sym e)

-- of a row that is there, as the bag counts it or another
less_there : (t : Bool) (c d n : ℕ) → (t ≡ true → 0 < c) → d ≡ c - (if t then 1 else 0) → d + n ≡ (c + n) - (if t then 1 else 0)
less_there true c d n some e = let h = some refl in omega arith
less_there false c d n some e = omega arith

-- one of those in order goes
pub ordered_goes : (rows : List (List Value)) (row : List Value) (bag : Counts) → IsBag bag → 0 < count row bag → put_rows rows (less_one row bag) ≡ less_one row (put_rows rows bag)
ordered_goes rows row bag is some =
    let whole : IsBag (put_rows rows bag) = is_bag rows bag is in
    same_counts_law (put_rows rows (less_one row bag)) (less_one row (put_rows rows bag)) (is_bag rows (less_one row bag) (bag_less row bag is)) (bag_less row (put_rows rows bag) whole) each
  where
    each : (q : List Value) → count q (put_rows rows (less_one row bag)) ≡ count q (less_one row (put_rows rows bag))
    each q =
        let there : is_eq (row_cmp row q) ≡ true → 0 < count q bag = λ t. rw (sym (tied row q t)) some in
        let on : count q (less_one row bag) + times_in q rows ≡ (count q bag + times_in q rows) - (if is_eq (row_cmp row q) then 1 else 0) = less_there (is_eq (row_cmp row q)) (count q bag) (count q (less_one row bag)) (times_in q rows) there (count_less q row bag is) in
        counts q rows (less_one row bag) ∙ on ∙ sym (count_less q row (put_rows rows bag) (is_bag rows bag is) ∙ ap (λ n. n - (if is_eq (row_cmp row q) then 1 else 0)) (counts q rows bag))

-- one that isn't there leaves all as they are
less_gone : (t : Bool) (c d : ℕ) → (t ≡ true → c ≡ 0) → d ≡ c - (if t then 1 else 0) → d ≡ c
less_gone true c d none e = let h = none refl in omega (arith, e, h)
less_gone false c d none e = omega (arith, e)

pub none_goes : (row : List Value) (bag : Counts) → IsBag bag → count row bag ≡ 0 → less_one row bag ≡ bag
none_goes row bag is none = same_counts_law (less_one row bag) bag (bag_less row bag is) is each
  where
    each : (q : List Value) → count q (less_one row bag) ≡ count q bag
    each q = less_gone (is_eq (row_cmp row q)) (count q bag) (count q (less_one row bag)) (λ t. rw (sym (tied row q t)) none) (count_less q row bag is)

pub no_more : (n : ℕ) → (0 < n → true ≡ false) → n ≡ 0
no_more zero h = refl
no_more (suc n) h = absurd (let f : true ≡ false = h (omega arith) in cc)

-- the first of some rows
pub first_at : (rows : List (List Value)) (row : List Value) → 0 < length rows → row ≡ slice_index_or rows 0 row → slice_get rows 0 ≡ Some row
first_at [] row some is = absurd (omega (arith, some))
first_at (x ∷ rows) row some is = ap (λ r. Some r) (sym is)

pub first_of : (rows : List (List Value)) (row : List Value) → slice_get rows 0 ≡ Some row → rows ≡ row ∷ drop 1 rows
first_of [] row is = absurd cc
first_of (x ∷ rows) row is = ap (λ r. r ∷ rows) (same x row is)
  where
    same : (a b : List Value) → Some a ≡ Some b → a ≡ b
    same a b h = cc
