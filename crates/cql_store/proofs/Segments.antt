-- In rows part by part: what stands before a part, and what is of it.
use Rattle.std.proofs.Common.{◌≡◌, ℕ, zero, suc, ◌+◌, ◌<◌, List, [], ◌∷◌, ◌++◌, length, Some, Bool, true, false, ◌||◌, ◌&&◌, cond, refl, sym, ap, ◌∙◌, subst, arith}
use Rattle.std.specs.Prelude.{slice_get}
use Rattle.std.specs.List.{filter, insert, remove, prefix_len, AllByRecursion}
use Rattle.std.specs.declared.cmp.Ordering.{Ordering}
use Rattle.std.specs.declared.cmp.Ordering.TheVariants.{Less, Equal, Greater}
use Rattle.std.specs.Ordering.{is_lt, is_eq}
use Rattle.cql_chunks.specs.declared.seq.Numbered.{Numbered}
use Rattle.cql_chunks.specs.Seq.{IsDown}

-- ---- by what a test says of the first

pub filter_true : (s : Numbered → Bool) (x : Numbered) (xs : List Numbered) → s x ≡ true → filter s (x ∷ xs) ≡ x ∷ filter s xs
filter_true s x xs is = ap (λ b. cond b (x ∷ filter s xs) (filter s xs)) is

pub filter_false : (s : Numbered → Bool) (x : Numbered) (xs : List Numbered) → s x ≡ false → filter s (x ∷ xs) ≡ filter s xs
filter_false s x xs is = ap (λ b. cond b (x ∷ filter s xs) (filter s xs)) is

pub prefix_true : (p : Numbered → Bool) (x : Numbered) (xs : List Numbered) → p x ≡ true → prefix_len p (x ∷ xs) ≡ suc (prefix_len p xs)
prefix_true p x xs is =
    let one : 1 + prefix_len p xs ≡ suc (prefix_len p xs) = omega arith in
    ap (λ b. cond b (1 + prefix_len p xs) 0) is ∙ one

pub prefix_false : (p : Numbered → Bool) (x : Numbered) (xs : List Numbered) → p x ≡ false → prefix_len p (x ∷ xs) ≡ 0
prefix_false p x xs is = ap (λ b. cond b (1 + prefix_len p xs) 0) is

-- ---- what holds of each

pub all_insert : (P : Numbered → Type 0) (xs : List Numbered) (n : ℕ) (e : Numbered) → P e → AllByRecursion P xs → AllByRecursion P (insert xs n e)
all_insert P [] zero e here rest = (here, tt)
all_insert P [] (suc n) e here rest = (here, tt)
all_insert P (x ∷ xs) zero e here rest = (here, rest)
all_insert P (x ∷ xs) (suc n) e here rest = (rest.0, all_insert P xs n e here rest.1)

pub all_remove : (P : Numbered → Type 0) (xs : List Numbered) (n : ℕ) → AllByRecursion P xs → AllByRecursion P (remove xs n)
all_remove P [] zero each = tt
all_remove P [] (suc n) each = tt
all_remove P (x ∷ xs) zero each = each.1
all_remove P (x ∷ xs) (suc n) each = (each.0, all_remove P xs n each.1)

pub all_so : (P Q : Numbered → Type 0) → ((x : Numbered) → P x → Q x) → (xs : List Numbered) → AllByRecursion P xs → AllByRecursion Q xs
all_so P Q so [] each = tt
all_so P Q so (x ∷ xs) each = (so x each.0, all_so P Q so xs each.1)

pub filter_none : (s : Numbered → Bool) (xs : List Numbered) → AllByRecursion (λ y. s y ≡ false) xs → filter s xs ≡ []
filter_none s [] none = refl
filter_none s (x ∷ xs) none = filter_false s x xs none.0 ∙ filter_none s xs none.1

pub prefix_none : (p : Numbered → Bool) (xs : List Numbered) → AllByRecursion (λ y. p y ≡ false) xs → prefix_len p xs ≡ 0
prefix_none p [] none = refl
prefix_none p (x ∷ xs) none = prefix_false p x xs none.0

-- ---- one that the test doesn't pass comes or goes

pub other_removed : (s : Numbered → Bool) (xs : List Numbered) (n : ℕ) (e : Numbered) → slice_get xs n ≡ Some e → s e ≡ false → filter s (remove xs n) ≡ filter s xs
other_removed s [] zero e at fails = absurd cc
other_removed s [] (suc n) e at fails = absurd cc
other_removed s (x ∷ xs) zero e at fails =
    let same : x ≡ e = cc at in
    sym (filter_false s x xs (ap s same ∙ fails))
other_removed s (x ∷ xs) (suc n) e at fails = let rest = other_removed s xs n e at fails in λ k. cond (s x) (x ∷ rest k) (rest k)

pub other_inserted : (s : Numbered → Bool) (xs : List Numbered) (n : ℕ) (e : Numbered) → s e ≡ false → filter s (insert xs n e) ≡ filter s xs
other_inserted s [] zero e fails = filter_false s e [] fails
other_inserted s [] (suc n) e fails = filter_false s e [] fails
other_inserted s (x ∷ xs) zero e fails = filter_false s e (x ∷ xs) fails
other_inserted s (x ∷ xs) (suc n) e fails = let rest = other_inserted s xs n e fails in λ k. cond (s x) (x ∷ rest k) (rest k)

-- ---- where one has not P, no later one has, also after one came or went

pub down_remove : (p : Numbered → Bool) (xs : List Numbered) (n : ℕ) → IsDown p xs → IsDown p (remove xs n)
down_remove p [] zero down = tt
down_remove p [] (suc n) down = tt
down_remove p (x ∷ xs) zero down = down.1
down_remove p (x ∷ xs) (suc n) down = (λ fails. all_remove (λ y. p y ≡ false) xs n (down.0 fails), down_remove p xs n down.1)

pub down_insert : (p q : Numbered → Bool) (e : Numbered) → ((x : Numbered) → q x ≡ true → p e ≡ true → p x ≡ true) → ((x : Numbered) → q x ≡ false → p e ≡ false → p x ≡ false) → (xs : List Numbered) → IsDown p xs → IsDown p (insert xs (prefix_len q xs) e)
down_insert p q e low high [] down = (λ fails. tt, tt)
down_insert p q e low high (x ∷ xs) down = by_test (down_insert p q e low high xs down.1) (q x) refl
  where
    by_entry : q x ≡ true → p x ≡ false → (b : Bool) → p e ≡ b → p e ≡ false
    by_entry passes fails true is = absurd (let both : true ≡ false = sym (low x passes is) ∙ fails in cc)
    by_entry passes fails false is = is

    by_test : IsDown p (insert xs (prefix_len q xs) e) → (b : Bool) → q x ≡ b → IsDown p (insert (x ∷ xs) (prefix_len q (x ∷ xs)) e)
    by_test rest true is = subst (λ n. IsDown p (insert (x ∷ xs) n e)) (sym (prefix_true q x xs is)) (λ fails. all_insert (λ y. p y ≡ false) xs (prefix_len q xs) e (by_entry is fails (p e) refl) (down.0 fails), rest)
    by_test rest false is = subst (λ n. IsDown p (insert (x ∷ xs) n e)) (sym (prefix_false q x xs is)) (λ fails. (high x is fails, down.0 (high x is fails)), down)

-- ---- a part, where o says how each stands to it

abbrev pub lo : (Numbered → Ordering) → Numbered → Bool
lo o x = is_lt (o x) || (false && is_eq (o x))

abbrev pub up : (Numbered → Ordering) → Numbered → Bool
up o x = is_lt (o x) || (true && is_eq (o x))

abbrev pub mid : (Numbered → Ordering) → Numbered → Bool
mid o x = is_eq (o x)

not_up : (r : Ordering) → (is_lt r || (true && is_eq r)) ≡ false → is_eq r ≡ false
not_up Less h = refl
not_up Equal h = h
not_up Greater h = refl

-- none is of a part where none is up to it
none_of : (o : Numbered → Ordering) (x : Numbered) (xs : List Numbered) → IsDown (up o) (x ∷ xs) → o x ≡ Greater → filter (mid o) (x ∷ xs) ≡ []
none_of o x xs down is = filter_false (mid o) x xs (ap is_eq is) ∙ filter_none (mid o) xs (all_so (λ y. up o y ≡ false) (λ y. mid o y ≡ false) (λ y. not_up (o y)) xs (down.0 (ap (λ r. is_lt r || (true && is_eq r)) is)))

-- between the two indices stand as many as are of the part
pub seg_count : (o : Numbered → Ordering) (xs : List Numbered) → IsDown (lo o) xs → IsDown (up o) xs → prefix_len (up o) xs ≡ prefix_len (lo o) xs + length (filter (mid o) xs)
seg_count o [] low high = refl
seg_count o (x ∷ xs) low high = by_order (seg_count o xs low.1 high.1) (o x) refl
  where
    by_order : prefix_len (up o) xs ≡ prefix_len (lo o) xs + length (filter (mid o) xs) → (r : Ordering) → o x ≡ r → prefix_len (up o) (x ∷ xs) ≡ prefix_len (lo o) (x ∷ xs) + length (filter (mid o) (x ∷ xs))
    by_order rest Less is = omega (arith, rest, prefix_true (up o) x xs (ap (λ r. is_lt r || (true && is_eq r)) is), prefix_true (lo o) x xs (ap (λ r. is_lt r || (false && is_eq r)) is), ap length (filter_false (mid o) x xs (ap is_eq is)))
    by_order rest Equal is =
        let at : lo o x ≡ false = ap (λ r. is_lt r || (false && is_eq r)) is in
        omega (arith, rest, prefix_true (up o) x xs (ap (λ r. is_lt r || (true && is_eq r)) is), prefix_false (lo o) x xs at, prefix_none (lo o) xs (low.0 at), ap length (filter_true (mid o) x xs (ap is_eq is)))
    by_order rest Greater is = omega (arith, prefix_false (up o) x xs (ap (λ r. is_lt r || (true && is_eq r)) is), prefix_false (lo o) x xs (ap (λ r. is_lt r || (false && is_eq r)) is), ap length (none_of o x xs high is))

-- the first of the part stands at the first index
pub seg_first : (o : Numbered → Ordering) (xs : List Numbered) (e : Numbered) → IsDown (up o) xs → slice_get xs (prefix_len (lo o) xs) ≡ Some e → 0 < length (filter (mid o) xs) → filter (mid o) xs ≡ e ∷ filter (mid o) (remove xs (prefix_len (lo o) xs))
seg_first o [] e high at some = absurd (omega (arith, some))
seg_first o (x ∷ xs) e high at some = by_order (λ here some. seg_first o xs e high.1 here some) (o x) refl
  where
    k : ℕ
    k = prefix_len (lo o) xs

    by_order : (slice_get xs k ≡ Some e → 0 < length (filter (mid o) xs) → filter (mid o) xs ≡ e ∷ filter (mid o) (remove xs k)) → (r : Ordering) → o x ≡ r → filter (mid o) (x ∷ xs) ≡ e ∷ filter (mid o) (remove (x ∷ xs) (prefix_len (lo o) (x ∷ xs)))
    by_order along Less is =
        let pre : prefix_len (lo o) (x ∷ xs) ≡ suc k = prefix_true (lo o) x xs (ap (λ r. is_lt r || (false && is_eq r)) is) in
        let here : slice_get xs k ≡ Some e = subst (λ n. slice_get (x ∷ xs) n ≡ Some e) pre at in
        let out : mid o x ≡ false = ap is_eq is in
        let rest = along here (subst (λ l. 0 < length l) (filter_false (mid o) x xs out) some) in
        filter_false (mid o) x xs out ∙ rest ∙ ap (λ l. e ∷ l) (sym (filter_false (mid o) x (remove xs k) out)) ∙ ap (λ n. e ∷ filter (mid o) (remove (x ∷ xs) n)) (sym pre)
    by_order along Equal is =
        let pre : prefix_len (lo o) (x ∷ xs) ≡ 0 = prefix_false (lo o) x xs (ap (λ r. is_lt r || (false && is_eq r)) is) in
        let here : Some x ≡ Some e = subst (λ n. slice_get (x ∷ xs) n ≡ Some e) pre at in
        let same : x ≡ e = cc here in
        filter_true (mid o) x xs (ap is_eq is) ∙ ap (λ y. y ∷ filter (mid o) xs) same ∙ ap (λ n. e ∷ filter (mid o) (remove (x ∷ xs) n)) (sym pre)
    by_order along Greater is = absurd (omega (arith, some, ap length (none_of o x xs high is)))

-- one more of the part comes behind it
pub seg_insert : (o : Numbered → Ordering) (xs : List Numbered) (e : Numbered) → IsDown (up o) xs → o e ≡ Equal → filter (mid o) (insert xs (prefix_len (up o) xs) e) ≡ filter (mid o) xs ++ e ∷ []
seg_insert o [] e high own = filter_true (mid o) e [] (ap is_eq own)
seg_insert o (x ∷ xs) e high own = by_order (seg_insert o xs e high.1 own) (o x) refl
  where
    k : ℕ
    k = prefix_len (up o) xs

    by_order : filter (mid o) (insert xs k e) ≡ filter (mid o) xs ++ e ∷ [] → (r : Ordering) → o x ≡ r → filter (mid o) (insert (x ∷ xs) (prefix_len (up o) (x ∷ xs)) e) ≡ filter (mid o) (x ∷ xs) ++ e ∷ []
    by_order rest Less is =
        let pre : prefix_len (up o) (x ∷ xs) ≡ suc k = prefix_true (up o) x xs (ap (λ r. is_lt r || (true && is_eq r)) is) in
        let out : mid o x ≡ false = ap is_eq is in
        ap (λ n. filter (mid o) (insert (x ∷ xs) n e)) pre ∙ filter_false (mid o) x (insert xs k e) out ∙ rest ∙ ap (λ l. l ++ e ∷ []) (sym (filter_false (mid o) x xs out))
    by_order rest Equal is =
        let pre : prefix_len (up o) (x ∷ xs) ≡ suc k = prefix_true (up o) x xs (ap (λ r. is_lt r || (true && is_eq r)) is) in
        let of : mid o x ≡ true = ap is_eq is in
        ap (λ n. filter (mid o) (insert (x ∷ xs) n e)) pre ∙ filter_true (mid o) x (insert xs k e) of ∙ ap (λ l. x ∷ l) rest ∙ ap (λ l. l ++ e ∷ []) (sym (filter_true (mid o) x xs of))
    by_order rest Greater is =
        let pre : prefix_len (up o) (x ∷ xs) ≡ 0 = prefix_false (up o) x xs (ap (λ r. is_lt r || (true && is_eq r)) is) in
        let none : filter (mid o) (x ∷ xs) ≡ [] = none_of o x xs high is in
        ap (λ n. filter (mid o) (insert (x ∷ xs) n e)) pre ∙ filter_true (mid o) e (x ∷ xs) (ap is_eq own) ∙ ap (λ l. e ∷ l) none ∙ ap (λ l. l ++ e ∷ []) (sym none)
