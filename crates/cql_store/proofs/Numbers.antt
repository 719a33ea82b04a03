-- Numbers by slot.
use Rattle.std.proofs.Common.{◌≡◌, inl, inr, ℕ, zero, suc, ◌≤◌, ◌<◌, Bool, true, false, List, [], ◌∷◌, length, map, get_or, set, Option, Some, None, nat_lt, refl, sym, ap, ◌∙◌, arith, cond}
use Rattle.std.proofs.lemmas.Bool.Decides.{nat_tests}
use Rattle.std.proofs.lemmas.Bool.{cases_eq}
use Rattle.std.proofs.lemmas.List.{get_or-set_same, get_or-set_other, length-set}
use Rattle.cql_store.specs.declared.stub.Stub.{Stub}
use Rattle.cql_store.specs.Sequence.{Slots, slot_of, held_count, emptied, greatest, limit, first_at, limit_at, lives, live_count, AreOf, AreLonger, AreKnown}
use Rattle.cql_store.proofs.Keeps.{IsChange}

-- ---- more slots

pub longer_same : (xs : List ℕ) → AreLonger xs xs
longer_same xs = record { same = λ id. refl; longer = omega arith }

of_longer : (number : Option Stub → ℕ) (slots : Slots) (xs ys : List ℕ) → AreLonger xs ys → AreOf number slots xs → AreOf number slots ys
of_longer number slots xs ys is of = record {
  each = λ id. is.same id ∙ of.each id;
  covers = λ id s found. let was : id < length xs = of.covers id s found in omega (arith, was, is.longer);
}

pub known_longer : (slots : Slots) (firsts limits more others : List ℕ) → AreLonger firsts more → AreLonger limits others → AreKnown slots firsts limits → AreKnown slots more others
known_longer slots firsts limits more others a b is = record {
  of_firsts = of_longer first_at slots firsts more a is.of_firsts;
  of_limits = of_longer limit_at slots limits others b is.of_limits;
}

-- ---- one slot changes, and its number

of_put : (number : Option Stub → ℕ) (old new : Slots) (xs : List ℕ) (id n : ℕ) (o : Option Stub) → IsChange old new id o → id < length xs → n ≡ number o → AreOf number old xs → AreOf number new (set xs id n)
of_put number old new xs id n o change within is of = record {
  each = λ other. elim (cases_eq other id) [
    | inl same ↦ ap (λ k. get_or (set xs id n) k greatest) same ∙ get_or-set_same xs id n greatest within ∙ is ∙ ap number (sym change.changed ∙ ap (slot_of new) (sym same))
    | inr differs ↦ get_or-set_other xs id other n greatest differs ∙ of.each other ∙ ap number (sym (change.others other differs))
  ];
  covers = λ other s found. elim (cases_eq other id) [
    | inl same ↦ omega (arith, same, within, length-set xs id n)
    | inr differs ↦ let was : other < length xs = of.covers other s (sym (change.others other differs) ∙ found) in omega (arith, was, length-set xs id n)
  ];
}

pub known_put : (old new : Slots) (firsts limits : List ℕ) (id m n : ℕ) (o : Option Stub) → IsChange old new id o → id < length firsts → id < length limits → m ≡ first_at o → n ≡ limit_at o → AreKnown old firsts limits → AreKnown new (set firsts id m) (set limits id n)
known_put old new firsts limits id m n o change a b first last is = record {
  of_firsts = of_put first_at old new firsts id m o change a first is.of_firsts;
  of_limits = of_put limit_at old new limits id n o change b last is.of_limits;
}

-- the number of a slot within a list is that at any default
pub get_or_any : (xs : List ℕ) (id d e : ℕ) → id < length xs → get_or xs id d ≡ get_or xs id e
get_or_any [] id d e within = absurd (omega (arith, within))
get_or_any (x ∷ xs) zero d e within = refl
get_or_any (x ∷ xs) (suc id) d e within = let inner : id < length xs = omega (arith, within) in get_or_any xs id d e inner

-- ---- a stub with a number lives

pub record HasFirst (o : Option Stub) (m : ℕ) : Type 0 where
  pub stub : Stub
  pub held : o ≡ Some stub
  pub live : stub.overrun ≡ false
  pub first : stub.first ≡ m

pub has_first : (o : Option Stub) (m : ℕ) → first_at o ≡ m → m < greatest → HasFirst o m
has_first None m is low = absurd (omega (arith, is, low))
has_first (Some s) m is low = by s.overrun refl
  where
    by : (b : Bool) → s.overrun ≡ b → HasFirst (Some s) m
    by true over = absurd (let a : first_at (Some s) ≡ greatest = grind (arith, over) in omega (arith, a, is, low))
    by false over = let a : first_at (Some s) ≡ s.first = grind (arith, over) in record { stub = s; held = refl; live = over; first = sym a ∙ is }

pub record HasLimit (o : Option Stub) (m : ℕ) : Type 0 where
  pub stub : Stub
  pub held : o ≡ Some stub
  pub live : stub.overrun ≡ false
  pub limited : limit stub ≡ m

pub has_limit : (o : Option Stub) (m : ℕ) → limit_at o ≡ m → m < greatest → HasLimit o m
has_limit None m is low = absurd (omega (arith, is, low))
has_limit (Some s) m is low = by s.overrun refl
  where
    by : (b : Bool) → s.overrun ≡ b → HasLimit (Some s) m
    by true over = absurd (let a : limit_at (Some s) ≡ greatest = grind (arith, over) in omega (arith, a, is, low))
    by false over = let a : limit_at (Some s) ≡ limit s = grind (arith, over) in record { stub = s; held = refl; live = over; limited = sym a ∙ is }

pub first_live : (s : Stub) → s.overrun ≡ false → first_at (Some s) ≡ s.first
first_live s over = grind (arith, over)

pub limit_live : (s : Stub) → s.overrun ≡ false → limit_at (Some s) ≡ limit s
limit_live s over = grind (arith, over)

-- ---- marking

-- a stub past its limit has more than it may hold
pub past_limit : (count : ℕ) (s : Stub) → limit s < count → count ≤ greatest → nat_lt s.hold (held_count count s) ≡ true
past_limit count s past top = let over : s.hold < held_count count s = omega (arith, past, top) in grind (arith, nat_tests, over)

-- and one that isn't has no more
pub within_limit : (count : ℕ) (s : Stub) → count ≤ limit s → length s.kept ≤ s.hold → held_count count s ≤ s.hold
within_limit count s low few = omega (arith, low, few)

pub map_same : (F : Option Stub → Option Stub) (slots : Slots) (id : ℕ) (s : Stub) (o : Option Stub) → slot_of slots id ≡ Some s → F o ≡ F (Some s) → map F (set slots id o) ≡ map F slots
map_same F [] id s o found same = refl
map_same F (x ∷ slots) zero s o found same = λ i. (same ∙ ap F (sym found)) i ∷ map F slots
map_same F (x ∷ slots) (suc id) s o found same = ap (λ l. F x ∷ l) (map_same F slots id s o found same)

pub mark_fewer : (slots : Slots) (id : ℕ) (s : Stub) → slot_of slots id ≡ Some s → s.overrun ≡ false → live_count (set slots id (Some (emptied s))) < live_count slots
mark_fewer [] id s found live = absurd cc
mark_fewer (x ∷ slots) zero s found live =
    let was : lives x ≡ 1 = ap lives found ∙ ap (λ b. cond b 0 1) live in
    omega (arith, was)
mark_fewer (x ∷ slots) (suc id) s found live = let less : live_count (set slots id (Some (emptied s))) < live_count slots = mark_fewer slots id s found live in omega (arith, less)
