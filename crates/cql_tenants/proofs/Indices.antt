-- Indices of names.
use Rattle.std.proofs.Common.{◌≡◌, ℕ, zero, suc, Bool, true, false, List, [], ◌∷◌, ◌++◌, refl, ap, subst, ◌∙◌, sym}
use Rattle.std.specs.Prelude.{Option, None, Some, IfSome, option_map, unwrap_or, slice_get, is_some, if◌then◌else◌}
use Rattle.std.proofs.lemmas.Slice.Eq.{bytes_eq-Decides}
use Rattle.cql_tenants.specs.Named.{Named, same_name, find_named, change_named, change_nth, index_of}
use Rattle.cql_tenants.specs.declared.stream.Stream.{Stream}
use Rattle.cql_tenants.specs.StreamLaw.{IsIndexLaw}

pub name_eq : (n m : List ℕ) → same_name n m ≡ true → n ≡ m
unfolding same_name
name_eq n m h = (bytes_eq-Decides n m).0 h

pub name_same : (n m : List ℕ) → n ≡ m → same_name n m ≡ true
unfolding same_name
name_same n m h = (bytes_eq-Decides n m).1 h

-- what stands at the index
pub record At {A : Type 0} (xs : List (Named A)) (name : List ℕ) (i : ℕ) : Type 0 where
  pub thing : Named A
  pub is : slice_get xs i ≡ Some thing
  pub named : thing.name ≡ name
  pub found : find_named xs name ≡ Some thing.item

at_more : {A : Type 0} (x : Named A) (xs : List (Named A)) (name : List ℕ) → same_name name x.name ≡ false → (p : Option ℕ) (i : ℕ) → option_map suc p ≡ Some i → ((j : ℕ) → p ≡ Some j → At xs name j) → At (x ∷ xs) name i
at_more x xs name away None i e rest = absurd cc
at_more x xs name away (Some j) zero e rest = absurd cc
at_more x xs name away (Some j) (suc i) e rest =
    let same : j ≡ i = cc in
    let r = rest i (ap (λ n. Some n) same) in
    record { thing = r.thing; is = r.is; named = r.named; found = (λ k. if away k then Some x.item else find_named xs name) ∙ r.found }

pub at_index : {A : Type 0} (xs : List (Named A)) (name : List ℕ) (i : ℕ) → index_of xs name ≡ Some i → At xs name i
at_index [] name i h = absurd cc
at_index {A} (x ∷ xs) name i h = by (λ j k. at_index xs name j k) (same_name name x.name) refl h
  where
    here : (n : ℕ) → Some 0 ≡ Some n → same_name name x.name ≡ true → At (x ∷ xs) name n
    here zero e is = record { thing = x; is = refl; named = sym (name_eq name x.name is); found = λ k. if is k then Some x.item else find_named xs name }
    here (suc n) e is = absurd cc

    by : ((j : ℕ) → index_of xs name ≡ Some j → At xs name j) → (b : Bool) → same_name name x.name ≡ b → (if b then Some 0 else option_map suc (index_of xs name)) ≡ Some i → At (x ∷ xs) name i
    by rest true is e = here i e is
    by rest false is e = at_more x xs name is (index_of xs name) i e rest

-- what stands at a name's index is found
pub found_at : {A : Type 0} (xs : List (Named A)) (name : List ℕ) (i : ℕ) (x : Named A) → index_of xs name ≡ Some i → slice_get xs i ≡ Some x → find_named xs name ≡ Some x.item
found_at xs name i x h k =
    let a = at_index xs name i h in
    let same : a.thing ≡ x = cc (sym a.is ∙ k) in
    a.found ∙ ap (λ t. Some t.item) same

pub indices : IsIndexLaw
indices streams name i h = let a = at_index streams name i h in (a.thing, a.is, a.found, a.named)

-- a name has an index where it is found
pub index_found : {A : Type 0} (xs : List (Named A)) (n : List ℕ) → is_some (find_named xs n) ≡ is_some (index_of xs n)
index_found [] n = refl
index_found {A} (x ∷ xs) n = by (index_found xs n) (same_name n x.name)
  where
    some_map : (p : Option ℕ) → is_some p ≡ is_some (option_map suc p)
    some_map None = refl
    some_map (Some j) = refl

    by : is_some (find_named xs n) ≡ is_some (index_of xs n) → (b : Bool) → is_some (if b then Some x.item else find_named xs n) ≡ is_some (if b then Some 0 else option_map suc (index_of xs n))
    by rest true = refl
    by rest false = rest ∙ some_map (index_of xs n)

-- a name that has no index isn't found
pub no_index : {A : Type 0} (xs : List (Named A)) (n : List ℕ) → index_of xs n ≡ None → find_named xs n ≡ None
no_index {A} xs n h = by (find_named xs n) (index_found xs n ∙ ap is_some h)
  where
    by : (o : Option A) → is_some o ≡ false → o ≡ None
    by None e = refl
    by (Some x) e = absurd cc

-- a change at a name's index is one under the name
pub change_at_index : {A : Type 0} (f : A → A) (xs : List (Named A)) (name : List ℕ) (i : ℕ) → index_of xs name ≡ Some i → change_nth f i xs ≡ change_named f name xs
change_at_index f [] name i h = refl
change_at_index {A} f (x ∷ xs) name i h = by (λ j k. change_at_index f xs name j k) (same_name name x.name) i h
  where
    later : ((j : ℕ) → index_of xs name ≡ Some j → change_nth f j xs ≡ change_named f name xs) → (p : Option ℕ) → index_of xs name ≡ p → (n : ℕ) → option_map suc p ≡ Some n → change_nth f n (x ∷ xs) ≡ x ∷ change_named f name xs
    later rest None q n e = absurd cc
    later rest (Some j) q zero e = absurd cc
    later rest (Some j) q (suc n) e = let same : j ≡ n = cc in ap (λ ys. x ∷ ys) (rest n (q ∙ ap (λ m. Some m) same))

    by : ((j : ℕ) → index_of xs name ≡ Some j → change_nth f j xs ≡ change_named f name xs) → (b : Bool) → (n : ℕ) → (if b then Some 0 else option_map suc (index_of xs name)) ≡ Some n
        → change_nth f n (x ∷ xs) ≡ (if b then record x { item = f x.item } ∷ xs else x ∷ change_named f name xs)
    by rest true zero e = refl
    by rest true (suc n) e = absurd cc
    by rest false n e = later rest (index_of xs name) refl n e

-- a change under a name moves no name
pub index_change : {A : Type 0} (f : A → A) (xs : List (Named A)) (n m : List ℕ) → index_of (change_named f n xs) m ≡ index_of xs m
index_change f [] n m = refl
index_change {A} f (x ∷ xs) n m = by (index_change f xs n m) (same_name n x.name)
  where
    by : index_of (change_named f n xs) m ≡ index_of xs m → (b : Bool) → index_of (if b then record x { item = f x.item } ∷ xs else x ∷ change_named f n xs) m ≡ index_of (x ∷ xs) m
    by rest true = refl
    by rest false = ap (λ p. if same_name m x.name then Some 0 else option_map suc p) rest

-- nor does one more at the end
pub index_push : {A : Type 0} (xs ys : List (Named A)) (n : List ℕ) (i : ℕ) → index_of xs n ≡ Some i → index_of (xs ++ ys) n ≡ Some i
index_push [] ys n i h = absurd cc
index_push {A} (x ∷ xs) ys n i h = by (λ k g. index_push xs ys n k g) (same_name n x.name) h
  where
    more : (p q : Option ℕ) (j : ℕ) → option_map suc p ≡ Some j → ((k : ℕ) → p ≡ Some k → q ≡ Some k) → option_map suc q ≡ Some j
    more None q j e f = absurd cc
    more (Some k) q j e f = ap (option_map suc) (f k refl) ∙ e

    by : ((k : ℕ) → index_of xs n ≡ Some k → index_of (xs ++ ys) n ≡ Some k) → (b : Bool) → (if b then Some 0 else option_map suc (index_of xs n)) ≡ Some i → (if b then Some 0 else option_map suc (index_of (xs ++ ys) n)) ≡ Some i
    by rest true e = e
    by rest false e = more (index_of xs n) (index_of (xs ++ ys) n) i e rest

-- nor does a change at an index
pub index_nth : {A : Type 0} (f : A → A) (xs : List (Named A)) (i : ℕ) (m : List ℕ) → index_of (change_nth f i xs) m ≡ index_of xs m
index_nth f [] i m = refl
index_nth f (x ∷ xs) zero m = refl
index_nth f (x ∷ xs) (suc i) m = ap (λ p. if same_name m x.name then Some 0 else option_map suc p) (index_nth f xs i m)

-- what is said of the thing at an index
pub said_at : {A : Type 0} (P : A → Type 0) (o : Option (Named A)) (x : A) → option_map (λ s. s.item) o ≡ Some x → IfSome o (λ s. P s.item) → P x
said_at P None x e h = absurd cc
said_at P (Some s) x e h = let same : s.item ≡ x = cc in subst P same h

-- the clock at a name's index is the one that is found
pub clock_at : (xs : List (Named Stream)) (name : List ℕ) (i n : ℕ) → index_of xs name ≡ Some i → IfSome (slice_get xs i) (λ s. n ≡ s.item.clock) → n ≡ unwrap_or (option_map (λ s. s.clock) (find_named xs name)) 0
clock_at xs name i n h k =
    let a = at_index xs name i h in
    let said : n ≡ a.thing.item.clock = subst (λ o. IfSome o (λ s. n ≡ s.item.clock)) a.is k in
    said ∙ sym (ap (λ o. unwrap_or (option_map (λ s. s.clock) o) 0) a.found)
