-- Rows that are put to their keys' groups, one after another.
use Rattle.std.proofs.Common.{◌≡◌, ℕ, suc, ◌+◌, ◌<◌, ◌≤◌, List, [], ◌∷◌, ◌++◌, map, filter, length, drop, get_or, add-one, Bool, true, false, if◌then◌else◌, cond, Some, None, slice_get, refl, sym, ap, ◌∙◌, subst, append_assoc, append-nil, arith, Ordering, Less, Equal, Greater}
use Rattle.std.specs.List.{All}
use Rattle.std.proofs.Math.Seq.{drop-cons}
use Rattle.std.proofs.lemmas.List.{drop_all}
use Rattle.cql_algebra.specs.Shape.{present, key_of}
use Rattle.std.specs.Option.{unwrap_or}
use Rattle.std.specs.Map.{lookup}
use Rattle.std.specs.BTreeMap.{is_at, insert_entry}
use Rattle.std.specs.Ordering.{is_eq, ordering_reverse, match_ordering}
use Rattle.std.specs.Cmp.{IsTotalOrder, tied_itself}
use Rattle.std.proofs.lemmas.List.Elements.{All-cons, All-head, All-tail}
use Rattle.cql_value.specs.Order.{row_cmp, row_cmp_total, row_cmp_exact}
use Rattle.cql_value.specs.declared.value.Value.{Value}
use Rattle.cql_bag.specs.Bag.{Counts, IsBag, IsBagBy, put_in, count_in, put_times, put_all, count}
use Rattle.cql_bag.specs.Law.{ArePositive, IsPutAllLaw, IsSameCountsLaw}
use Rattle.cql_plain.specs.Grouping.{Groups, with_row, gather}
use Rattle.cql_plain.proofs.Choosing.{put_all-append}

abbrev Stands : List Value × ℕ → Type 0
Stands e = 1 ≤ e.1

-- ---- rows that are put from the last one on

count-append : (k : List Value) (xs ys : Counts) → count k (xs ++ ys) ≡ count k xs + count k ys
count-append k [] ys = omega arith
count-append k (x ∷ xs) ys = let on = count-append k xs ys in elim (is_eq (row_cmp x.0 k)) as (λ b. (if b then x.1 else 0) + count k (xs ++ ys) ≡ ((if b then x.1 else 0) + count k xs) + count k ys) [ true ↦ omega (arith, on) | false ↦ omega (arith, on) ]

pub positive_more : (xs : Counts) (e : List Value × ℕ) → ArePositive xs → 1 ≤ e.1 → ArePositive (xs ++ e ∷ [])
positive_more [] e all one = All-cons Stands e [] one all
positive_more (x ∷ xs) e all one = All-cons Stands x (xs ++ e ∷ []) (All-head Stands x xs all) (positive_more xs e (All-tail Stands x xs all) one)

pub last_positive : (front : Counts) (e : List Value × ℕ) → ArePositive (front ++ e ∷ []) → ArePositive front × (1 ≤ e.1)
last_positive [] e all = (λ j d lt. absurd (omega arith), All-head Stands e [] all)
last_positive (x ∷ xs) e all = let r = last_positive xs e (All-tail Stands x (xs ++ e ∷ []) all) in (All-cons Stands x xs (All-head Stands x (xs ++ e ∷ []) all) r.0, r.1)

-- the last one is put
pub last_put : IsPutAllLaw → (front group : Counts) (e : List Value × ℕ) (k : List Value) (n : ℕ) → count k group + count k (front ++ e ∷ []) ≡ n → count k (put_times e.0 e.1 group) + count k front ≡ n
last_put law front group e k n is = omega (arith, is, count-append k front (e ∷ []), (law (e ∷ []) group).1 k)

pub bag_put : IsPutAllLaw → (group : Counts) (e : List Value × ℕ) → IsBag group → 1 ≤ e.1 → IsBag (put_times e.0 e.1 group)
bag_put law group e is one = (law (e ∷ []) group).0 is (All-cons Stands e [] one (λ j d lt. absurd (omega arith)))

pub all_put : IsSameCountsLaw → IsPutAllLaw → (run group made : Counts) → IsBag group → ArePositive run → IsBag made → ((k : List Value) → count k made ≡ count k group + count k run) → made ≡ put_all run group
all_put same law run group made is all bag counts = same made (put_all run group) bag ((law run group).0 is all) (λ k. counts k ∙ sym ((law run group).1 k))

-- ---- a map that has a value for each key of a bag

abbrev pub table : {K V : Type 0} → (K → V) → List (K × ℕ) → List (K × V)
table g ks = map (λ e. (e.0, g e.0)) ks

module _ {K : Type 0} (R : K → K → Ordering) (total : IsTotalOrder R) where
  turned : (x k : K) (r : Ordering) → R k x ≡ r → R x k ≡ ordering_reverse r
  turned x k r h = total.antisymm x k ∙ ap ordering_reverse h

  lower : (x : K × ℕ) (es : List (K × ℕ)) (k : K) → R k x.0 ≡ Less → All (λ f. R x.0 f.0 ≡ Less) es → All (λ f. R k f.0 ≡ Less) es
  lower x es k h all j d lt = total.trans k x.0 _ h (all j d lt)

module _ {K V : Type 0} (R : K → K → Ordering) (total : IsTotalOrder R) (exact : (x y : K) → R x y ≡ Equal → x ≡ y) where
  -- what is found at a key is its value, where an absent key has the default
  pub found_or : (g : K → V) (none : V) (ks : List (K × ℕ)) (k : K) → (count_in R k ks ≡ 0 → g k ≡ none) → unwrap_or (lookup (is_at (R k)) (table g ks)) none ≡ g k
  found_or g none [] k absent = sym (absent refl)
  found_or g none (x ∷ es) k absent =
      elim (R k x.0) as (λ r. R k x.0 ≡ r → unwrap_or (cond (is_eq r) (Some (g x.0)) (lookup (is_at (R k)) (table g es))) none ≡ g k) [
        | Less ↦ λ h. found_or g none es k (λ z. absent (rw (turned R total x.0 k Less h) (omega arith)))
        | Equal ↦ λ h. ap g (sym (exact k x.0 h))
        | Greater ↦ λ h. found_or g none es k (λ z. absent (rw (turned R total x.0 k Greater h) (omega arith)))
      ] refl

  -- two that differ at k alone are the same above it
  same_above : (g h : K → V) (es : List (K × ℕ)) (k : K) → All (λ f. R k f.0 ≡ Less) es → ((x : K) → is_eq (R k x) ≡ false → h x ≡ g x) → table g es ≡ table h es
  same_above g h [] k all apart = refl
  same_above g h (x ∷ es) k all apart =
      let below : R k x.0 ≡ Less = All-head (λ f. R k f.0 ≡ Less) x es all in
      let same : h x.0 ≡ g x.0 = apart x.0 (ap is_eq below) in
      ap (λ v. (x.0, v) ∷ table g es) (sym same) ∙ ap (λ l. (x.0, h x.0) ∷ l) (same_above g h es k (All-tail (λ f. R k f.0 ≡ Less) x es all) apart)

  -- one more key, and its value
  pub inserted : (g h : K → V) (ks : List (K × ℕ)) (k : K) (n : ℕ) (v : V) → IsBagBy R ks → h k ≡ v → ((x : K) → is_eq (R k x) ≡ false → h x ≡ g x) → insert_entry R (table g ks) k v ≡ table h (put_in R k n ks)
  inserted g h [] k n v bag is apart = ap (λ w. (k, w) ∷ []) (sym is)
  inserted g h (x ∷ es) k n v bag is apart =
      elim (R k x.0) as (λ r. R k x.0 ≡ r → match_ordering r ((k, v) ∷ (x.0, g x.0) ∷ table g es) ((x.0, v) ∷ table g es) ((x.0, g x.0) ∷ insert_entry R (table g es) k v) ≡ table h (put_in R k n (x ∷ es))) [
        | Less ↦ λ q.
            let same : table g es ≡ table h es = same_above g h es k (lower R total x es k q bag.1) apart in
            let first : h x.0 ≡ g x.0 = apart x.0 (ap is_eq q) in
            rw (turned R total x.0 k Less q) (ap (λ w. (k, w) ∷ (x.0, g x.0) ∷ table g es) (sym is) ∙ ap (λ w. (k, h k) ∷ (x.0, w) ∷ table g es) (sym first) ∙ ap (λ l. (k, h k) ∷ (x.0, h x.0) ∷ l) same)
        | Equal ↦ λ q.
            let e : k ≡ x.0 = exact k x.0 q in
            let same : table g es ≡ table h es = same_above g h es k (subst (λ y. All (λ f. R y f.0 ≡ Less) es) (sym e) bag.1) apart in
            let here : h x.0 ≡ v = ap h (sym e) ∙ is in
            rw (turned R total x.0 k Equal q) (ap (λ w. (x.0, w) ∷ table g es) (sym here) ∙ ap (λ l. (x.0, h x.0) ∷ l) same)
        | Greater ↦ λ q.
            let first : h x.0 ≡ g x.0 = apart x.0 (ap is_eq q) in
            rw (turned R total x.0 k Greater q) (ap (λ w. (x.0, w) ∷ insert_entry R (table g es) k v) (sym first) ∙ ap (λ l. (x.0, h x.0) ∷ l) (inserted g h es k n v bag.2 is apart))
      ] refl

-- ---- the key in the columns from one on

pub key_goes_on : (columns : List ℕ) (row : List Value) (i : ℕ) (v : Value) (left rest : List Value) → i < length columns → Some v ≡ slice_get row (get_or columns i 0) → left ≡ v ∷ rest → key_of (drop (i + 1) columns) row ≡ rest → key_of (drop i columns) row ≡ left
key_goes_on columns row i v left rest lt is cut after =
    ap (λ l. key_of l row) (drop-cons columns i 0 lt) ∙ ap (λ o. present (o ∷ map (slice_get row) (drop (suc i) columns))) (sym is) ∙ ap (λ n. v ∷ key_of (drop n columns) row) (sym (add-one i)) ∙ ap (λ l. v ∷ l) after ∙ sym cut

pub key_passes : (columns : List ℕ) (row : List Value) (i : ℕ) (left : List Value) → i < length columns → None ≡ slice_get row (get_or columns i 0) → key_of (drop (i + 1) columns) row ≡ left → key_of (drop i columns) row ≡ left
key_passes columns row i left lt is after =
    ap (λ l. key_of l row) (drop-cons columns i 0 lt) ∙ ap (λ o. present (o ∷ map (slice_get row) (drop (suc i) columns))) (sym is) ∙ ap (λ n. key_of (drop n columns) row) (sym (add-one i)) ∙ after

pub no_length : {A : Type 0} (xs : List A) → length xs ≡ 0 → xs ≡ []
no_length [] none = refl
no_length (x ∷ xs) none = absurd (omega arith)

pub key_ends : (columns : List ℕ) (row : List Value) (i : ℕ) → length columns ≤ i → key_of (drop i columns) row ≡ []
key_ends columns row i le = ap (λ l. key_of l row) (drop_all i columns le)

-- ---- a row more of a key that has just been put

pub found_same : (k : List Value) (v : Counts) (es : Groups) → lookup (is_at (row_cmp k)) (insert_entry row_cmp es k v) ≡ Some v
found_same k v [] = ap (λ r. cond (is_eq r) (Some v) (lookup (is_at (row_cmp k)) [])) (tied_itself row_cmp_total k)
found_same k v (x ∷ es) =
    elim (row_cmp k x.0) as (λ r. row_cmp k x.0 ≡ r → lookup (is_at (row_cmp k)) (match_ordering r ((k, v) ∷ x ∷ es) ((x.0, v) ∷ es) (x ∷ insert_entry row_cmp es k v)) ≡ Some v) [
      | Less ↦ λ q. ap (λ r. cond (is_eq r) (Some v) (lookup (is_at (row_cmp k)) (x ∷ es))) (tied_itself row_cmp_total k)
      | Equal ↦ λ q. ap (λ r. cond (is_eq r) (Some v) (lookup (is_at (row_cmp k)) es)) q
      | Greater ↦ λ q. ap (λ r. cond (is_eq r) (Some x.1) (lookup (is_at (row_cmp k)) (insert_entry row_cmp es k v))) q ∙ found_same k v es
    ] refl

pub insert_same : (k : List Value) (v w : Counts) (es : Groups) → insert_entry row_cmp (insert_entry row_cmp es k v) k w ≡ insert_entry row_cmp es k w
insert_same k v w [] = ap (λ r. match_ordering r ((k, w) ∷ (k, v) ∷ []) ((k, w) ∷ []) ((k, v) ∷ insert_entry row_cmp [] k w)) (tied_itself row_cmp_total k)
insert_same k v w (x ∷ es) =
    elim (row_cmp k x.0) as (λ r. row_cmp k x.0 ≡ r → insert_entry row_cmp (match_ordering r ((k, v) ∷ x ∷ es) ((x.0, v) ∷ es) (x ∷ insert_entry row_cmp es k v)) k w ≡ match_ordering r ((k, w) ∷ x ∷ es) ((x.0, w) ∷ es) (x ∷ insert_entry row_cmp es k w)) [
      | Less ↦ λ q. ap (λ r. match_ordering r ((k, w) ∷ (k, v) ∷ x ∷ es) ((k, w) ∷ x ∷ es) ((k, v) ∷ insert_entry row_cmp (x ∷ es) k w)) (tied_itself row_cmp_total k)
      | Equal ↦ λ q. ap (λ r. match_ordering r ((k, w) ∷ (x.0, v) ∷ es) ((x.0, w) ∷ es) ((x.0, v) ∷ insert_entry row_cmp es k w)) q
      | Greater ↦ λ q. ap (λ r. match_ordering r ((k, w) ∷ x ∷ insert_entry row_cmp es k v) ((x.0, w) ∷ insert_entry row_cmp es k v) (x ∷ insert_entry row_cmp (insert_entry row_cmp es k v) k w)) q ∙ ap (λ l. x ∷ l) (insert_same k v w es)
    ] refl

pub one_more : (key : List Value → List Value) (k : List Value) (e : List Value × ℕ) (es : Counts) (group : Counts) → key e.0 ≡ k → (groups : Groups) → gather key (e ∷ es) (insert_entry row_cmp groups k group) ≡ gather key es (insert_entry row_cmp groups k (put_times e.0 e.1 group))
one_more key k e es group is groups =
    let put : List Value → Groups = λ x. with_row x e.0 e.1 (insert_entry row_cmp groups k group) in
    ap (λ x. gather key es (put x)) is
    ∙ ap (λ o. gather key es (insert_entry row_cmp (insert_entry row_cmp groups k group) k (put_times e.0 e.1 (unwrap_or o [])))) (found_same k group groups)
    ∙ ap (gather key es) (insert_same k group (put_times e.0 e.1 group) groups)

-- ---- rows by key

filter-append : {A : Type 0} (p : A → Bool) (xs ys : List A) → filter p (xs ++ ys) ≡ filter p xs ++ filter p ys
filter-append p [] ys = refl
filter-append p (x ∷ xs) ys =
    elim (p x) as (λ b. (if b then x ∷ filter p (xs ++ ys) else filter p (xs ++ ys)) ≡ (if b then x ∷ filter p xs else filter p xs) ++ filter p ys) [
      | true ↦ ap (λ l. x ∷ l) (filter-append p xs ys)
      | false ↦ filter-append p xs ys
    ]

map-append : {A B : Type 0} (f : A → B) (xs ys : List A) → map f (xs ++ ys) ≡ map f xs ++ map f ys
map-append f [] ys = refl
map-append f (x ∷ xs) ys = ap (λ l. f x ∷ l) (map-append f xs ys)

module _ (f : List Value → List Value) where
  -- the keys of the rows
  abbrev pub keyed : Counts → Counts
  keyed bag = map (λ e. (f e.0, e.1)) bag

  abbrev pub keys_in : Counts → Counts
  keys_in bag = put_all (keyed bag) []

  -- the rows of a key
  abbrev pub of_key : Counts → List Value → Counts
  of_key bag key = filter (λ e. is_eq (row_cmp (f e.0) key)) bag

  -- a bag of the rows of each key
  abbrev pub gathered : Counts → Groups
  gathered bag = table (λ k. put_all (of_key bag k) []) (keys_in bag)

  positive_keys : (bag : Counts) → ArePositive bag → ArePositive (keyed bag)
  positive_keys [] all = λ j d lt. absurd (omega arith)
  positive_keys (e ∷ es) all = All-cons Stands (f e.0, e.1) (keyed es) (All-head Stands e es all) (positive_keys es (All-tail Stands e es all))

  -- a key that no row has has no rows
  none_of : (bag : Counts) (k : List Value) → ArePositive bag → count k (keyed bag) ≡ 0 → of_key bag k ≡ []
  none_of [] k all none = refl
  none_of (e ∷ es) k all none =
      let one : 1 ≤ e.1 = All-head Stands e es all in
      elim (is_eq (row_cmp (f e.0) k)) as (λ b. (if b then e.1 else 0) + count k (keyed es) ≡ 0 → (if b then e ∷ of_key es k else of_key es k) ≡ []) [
        | true ↦ λ h. absurd (omega arith)
        | false ↦ λ h. none_of es k (All-tail Stands e es all) (omega arith)
      ] none

  keys_more : (done : Counts) (e : List Value × ℕ) → keys_in (done ++ e ∷ []) ≡ put_times (f e.0) e.1 (keys_in done)
  keys_more done e =
      let more : keyed (done ++ e ∷ []) ≡ keyed done ++ (f e.0, e.1) ∷ [] = map-append (λ (x : List Value × ℕ). (f x.0, x.1)) done (e ∷ []) in
      ap (λ l. put_all l []) more ∙ put_all-append (keyed done) ((f e.0, e.1) ∷ []) []

  -- one row more
  next : IsPutAllLaw → (done : Counts) (e : List Value × ℕ) → ArePositive done → with_row (f e.0) e.0 e.1 (gathered done) ≡ gathered (done ++ e ∷ [])
  next law done e all =
      let g : List Value → Counts = λ k. put_all (of_key done k) [] in
      let h : List Value → Counts = λ k. put_all (of_key (done ++ e ∷ []) k) [] in
      let k : List Value = f e.0 in
      let put = law (keyed done) [] in
      let is_bag : IsBag (keys_in done) = put.0 tt (positive_keys done all) in
      let absent : count k (keys_in done) ≡ 0 → g k ≡ [] = λ z. ap (λ l. put_all l []) (none_of done k all (let c : count k (keys_in done) ≡ 0 + count k (keyed done) = put.1 k in omega arith)) in
      let found : unwrap_or (lookup (is_at (row_cmp k)) (gathered done)) [] ≡ g k = found_or row_cmp row_cmp_total row_cmp_exact g [] (keys_in done) k absent in
      let more : (x : List Value) → h x ≡ put_all (of_key (e ∷ []) x) (g x) = λ x. ap (λ l. put_all l []) (filter-append (λ y. is_eq (row_cmp (f y.0) x)) done (e ∷ [])) ∙ put_all-append (of_key done x) (of_key (e ∷ []) x) [] in
      let ties : is_eq (row_cmp k k) ≡ true = ap is_eq (tied_itself row_cmp_total k) in
      let here : h k ≡ put_times e.0 e.1 (g k) = more k ∙ ap (λ b. put_all (if b then e ∷ [] else []) (g k)) ties in
      let apart : (x : List Value) → is_eq (row_cmp k x) ≡ false → h x ≡ g x = λ x off. more x ∙ ap (λ b. put_all (if b then e ∷ [] else []) (g x)) off in
      let keys : put_times k e.1 (keys_in done) ≡ keys_in (done ++ e ∷ []) = sym (keys_more done e) in
      ap (λ v. insert_entry row_cmp (gathered done) k (put_times e.0 e.1 v)) found
      ∙ inserted row_cmp row_cmp_total row_cmp_exact g h (keys_in done) k e.1 (put_times e.0 e.1 (g k)) is_bag here apart
      ∙ ap (table h) keys

  first_positive : (done left : Counts) → ArePositive (done ++ left) → ArePositive done
  first_positive [] left all = λ j d lt. absurd (omega arith)
  first_positive (e ∷ es) left all = All-cons Stands e es (All-head Stands e (es ++ left) all) (first_positive es left (All-tail Stands e (es ++ left) all))

  pub all_gathered : IsPutAllLaw → (done left : Counts) → ArePositive (done ++ left) → gather f left (gathered done) ≡ gathered (done ++ left)
  all_gathered law done [] all = ap gathered (sym (append-nil done))
  all_gathered law done (e ∷ es) all =
      let assoc : (done ++ e ∷ []) ++ es ≡ done ++ e ∷ es = append_assoc done (e ∷ []) es in
      ap (gather f es) (next law done e (first_positive done (e ∷ es) all)) ∙ all_gathered law (done ++ e ∷ []) es (subst ArePositive (sym assoc) all) ∙ ap gathered assoc

  -- the rows of a key are found
  pub found : IsPutAllLaw → (bag : Counts) (key : List Value) → ArePositive bag → unwrap_or (lookup (is_at (row_cmp key)) (table (of_key bag) (keys_in bag))) [] ≡ of_key bag key
  found law bag key all =
      found_or row_cmp row_cmp_total row_cmp_exact (of_key bag) [] (keys_in bag) key (λ z. none_of bag key all (let c : count key (keys_in bag) ≡ 0 + count key (keyed bag) = (law (keyed bag) []).1 key in omega arith))
