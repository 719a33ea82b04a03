-- Stubs that are overrun, marked or not yet.
use Rattle.std.proofs.Common.{◌≡◌, ◌≢◌, ◌↔◌, inl, inr, ℕ, zero, suc, ◌+◌, ◌≤◌, ◌<◌, Bool, true, false, List, [], ◌∷◌, length, map, set, get_or, Option, Some, None, nat_lt, refl, sym, ap, ◌∙◌, subst, arith}
use Rattle.std.proofs.lemmas.Bool.Decides.{nat_tests}
use Rattle.std.proofs.lemmas.Bool.{cases_eq}
use Rattle.std.proofs.lemmas.List.{get_or-set_same, get_or-set_other}
use Rattle.std.proofs.lemmas.Simd.{map-map}
use Rattle.std.specs.List.{All}
use Rattle.cql_value.specs.Element.{Element}
use Rattle.cql_store.specs.declared.stub.Stub.{Stub}
use Rattle.std.specs.Prelude.{IsSomeAnd, IsTrue, nat_le}
use Rattle.cql_store.specs.Held.{Held, CanAdvance, IsReady, stub_of}
use Rattle.cql_store.specs.Sequence.{Slots, slot_of, shown, shown_at, all_shown, shifted, at_some, held_count, emptied, marked, settled, limit, limit_at, greatest, IsLive, IsSoundAfter, AreOf, AreWithin, AreMarkedIn}
use Rattle.cql_store.proofs.Changes.{over_live}
use Rattle.cql_store.proofs.Keeps.{IsChange, IsFresh, stub_shown, slot_map, maps_agree, live_before, marked_not, marked_stays, marked_live}
use Rattle.cql_store.proofs.Numbers.{map_same, get_or_any, limit_live, within_limit}

-- ---- one stub

-- what was marked where fewer had come is as if it hadn't been
marked_later : (came count : ℕ) (s : Stub) → came ≤ count → marked count (marked came s) ≡ marked count s
marked_later came count s order = by s.overrun (nat_lt s.hold (held_count came s)) refl refl
  where
    by : (o b : Bool) → s.overrun ≡ o → nat_lt s.hold (held_count came s) ≡ b → marked count (marked came s) ≡ marked count s
    by true b is test = grind (arith, is)
    by false true is test =
        let over : s.hold < held_count came s = grind (arith, nat_tests, test) in
        let still : s.hold < held_count count s = omega (arith, over, order) in
        let after : nat_lt s.hold (held_count count s) ≡ true = grind (arith, nat_tests, still) in
        grind (arith, is, test, after)
    by false false is test =
        let same : marked came s ≡ s = grind (arith, is, test) in
        ap (marked count) same

pub marked_twice : (count : ℕ) (s : Stub) → marked count (marked count s) ≡ marked count s
marked_twice count s = marked_later count count s (omega arith)

-- a stub that isn't overrun is as it stands
pub marked_same : (count : ℕ) (s : Stub) → (marked count s).overrun ≡ false → marked count s ≡ s
marked_same count s live = by s.overrun refl
  where
    by : (o : Bool) → s.overrun ≡ o → marked count s ≡ s
    by true is = absurd (let over : (marked count s).overrun ≡ true = marked_stays count s is in cc)
    by false is = (marked_live count s is live).1

-- a sound stub has room
pub sound_same : (rows : List Element) (gone : ℕ) (s : Stub) → s.overrun ≡ false → IsSoundAfter rows gone s → marked (gone + length rows) s ≡ s
sound_same rows gone s live is = marked_not (gone + length rows) s live (omega (arith, is.sound.room, is.behind))

-- and so has a new one
pub fresh_same : (count : ℕ) (s : Stub) → IsFresh count s → marked count s ≡ s
fresh_same count s is = marked_not count s is.live (omega (arith, is.first, ap length is.kept))

-- ---- all stubs

pub settled_at : (count : ℕ) (slots : Slots) (id : ℕ) → slot_of (settled count slots) id ≡ at_some (marked count) (slot_of slots id)
settled_at count slots id = slot_map (at_some (marked count)) slots id refl

pub settled_later : (came count : ℕ) (slots : Slots) → came ≤ count → map (at_some (marked count)) (settled came slots) ≡ settled count slots
settled_later came count slots order =
    map-map (at_some (marked count)) (at_some (marked came)) slots
    ∙ maps_agree (λ o. at_some (marked count) (at_some (marked came) o)) (at_some (marked count)) slots refl (λ id s found. ap (λ (u : Stub). Some u) (marked_later came count s order))

-- one slot changes
pub settled_change : (count : ℕ) (old new : Slots) (id : ℕ) (o : Option Stub) → IsChange old new id o → IsChange (settled count old) (settled count new) id (at_some (marked count) o)
settled_change count old new id o is = record {
  changed = settled_at count new id ∙ ap (at_some (marked count)) is.changed;
  others = λ other differs. settled_at count new other ∙ ap (at_some (marked count)) (is.others other differs) ∙ sym (settled_at count old other);
}

-- to another that isn't overrun
pub settled_new : (count : ℕ) (old new : Slots) (id : ℕ) (s : Stub) → IsChange old new id (Some s) → marked count s ≡ s → IsChange (settled count old) (settled count new) id (Some s)
settled_new count old new id s is same = subst (λ (t : Stub). IsChange (settled count old) (settled count new) id (Some t)) same (settled_change count old new id (Some s) is)

-- a stub that is marked
pub settled_same : (count : ℕ) (slots : Slots) (id : ℕ) (s : Stub) → slot_of slots id ≡ Some s → settled count (set slots id (Some (marked count s))) ≡ settled count slots
settled_same count slots id s found = map_same (at_some (marked count)) slots id s (Some (marked count s)) found (ap (λ (u : Stub). Some u) (marked_twice count s))

-- where no limit is below it one more row overruns none
pub settled_none : (came : ℕ) (slots : Slots) (limits : List ℕ) → AreOf limit_at (settled came slots) limits → AreWithin (settled came slots) → All (λ n. came + 1 ≤ n) limits → settled (came + 1) slots ≡ settled came slots
settled_none came slots limits of within all =
    maps_agree (at_some (marked (came + 1))) (at_some (marked came)) slots refl (λ id s found. ap (λ (u : Stub). Some u) (one id s found s.overrun (nat_lt s.hold (held_count came s)) refl refl))
  where
    one : (id : ℕ) (s : Stub) → slot_of slots id ≡ Some s → (o b : Bool) → s.overrun ≡ o → nat_lt s.hold (held_count came s) ≡ b → marked (came + 1) s ≡ marked came s
    one id s found true b is test = grind (arith, is)
    one id s found false true is test =
        let over : s.hold < held_count came s = grind (arith, nat_tests, test) in
        let still : s.hold < held_count (came + 1) s = omega (arith, over) in
        let after : nat_lt s.hold (held_count (came + 1) s) ≡ true = grind (arith, nat_tests, still) in
        grind (arith, is, test, after)
    one id s found false false is test =
        let same : marked came s ≡ s = grind (arith, is, test) in
        let held : slot_of (settled came slots) id ≡ Some s = settled_at came slots id ∙ ap (at_some (marked came)) found ∙ ap (λ (u : Stub). Some u) same in
        let live : IsLive (settled came slots) id s = record { held = held; live = is } in
        let slot : id < length limits = of.covers id s held in
        let low : came + 1 ≤ get_or limits id greatest = all id greatest slot in
        let number : get_or limits id greatest ≡ limit s = of.each id ∙ ap limit_at held ∙ limit_live s is in
        let below : came + 1 ≤ limit s = omega (arith, low, number) in
        marked_not (came + 1) s is (within_limit (came + 1) s below (within id s live)) ∙ sym same

-- ---- one slot is marked

inside_of : (slots : Slots) (k : ℕ) (s : Stub) → slot_of slots k ≡ Some s → k < length slots
inside_of [] k s found = absurd cc
inside_of (x ∷ slots) zero s found = omega arith
inside_of (x ∷ slots) (suc k) s found = let inner : k < length slots = inside_of slots k s found in omega (arith, inner)

pub marked_here : (count : ℕ) (slots : Slots) (id : ℕ) (s : Stub) → slot_of slots id ≡ Some s → AreMarkedIn count (set slots id (Some (marked count s))) id (id + 1)
marked_here count slots id s found other t low high held =
    let at : other ≡ id = omega (arith, low, high) in
    let here : slot_of (set slots id (Some (marked count s))) id ≡ Some (marked count s) = get_or-set_same slots id (Some (marked count s)) None (inside_of slots id s found) in
    let same : Some (marked count s) ≡ Some t = sym here ∙ ap (slot_of (set slots id (Some (marked count s)))) (sym at) ∙ held in
    let is : marked count s ≡ t = cc in
    subst (λ (u : Stub). marked count u ≡ u) is (marked_twice count s)

-- ---- one more row overruns the stub of a slot

pub record IsOver (came : ℕ) (slots : Slots) (id : ℕ) (s : Stub) : Type 0 where
  pub live : s.overrun ≡ false
  pub held : slot_of (settled came slots) id ≡ Some s
  pub after : marked (came + 1) s ≡ emptied s

pub is_over : (came : ℕ) (slots : Slots) (limits : List ℕ) (id : ℕ) (s : Stub) → AreOf limit_at (settled came slots) limits → id < length limits → get_or limits id 0 < came + 1 → came < greatest → slot_of slots id ≡ Some s → IsOver came slots id s
is_over came slots limits id s of within over top found =
    let held : slot_of (settled came slots) id ≡ Some (marked came s) = settled_at came slots id ∙ ap (at_some (marked came)) found in
    let past = over_live (settled came slots) limits id (came + 1) (marked came s) of within over (omega (arith, top)) held in
    let same : marked came s ≡ s = marked_same came s past.0 in
    let live : s.overrun ≡ false = ap (λ (u : Stub). u.overrun) (sym same) ∙ past.0 in
    let test : nat_lt s.hold (held_count (came + 1) s) ≡ true = subst (λ (u : Stub). nat_lt u.hold (held_count (came + 1) u) ≡ true) same past.1 in
    record { live = live; held = held ∙ ap (λ (u : Stub). Some u) same; after = grind (arith, live, test) }

map_set : (F : Option Stub → Option Stub) (slots : Slots) (id : ℕ) (o : Option Stub) → map F (set slots id o) ≡ set (map F slots) id (F o)
map_set F [] id o = refl
map_set F (x ∷ slots) zero o = refl
map_set F (x ∷ slots) (suc id) o = ap (λ l. F x ∷ l) (map_set F slots id o)

-- and one stands there
pub none_over : (came : ℕ) (slots : Slots) (limits : List ℕ) (id : ℕ) → AreOf limit_at (settled came slots) limits → id < length limits → get_or limits id 0 < came + 1 → came < greatest → slot_of slots id ≡ None → ⊥
none_over came slots limits id of within over top none =
    let empty : slot_of (settled came slots) id ≡ None = settled_at came slots id ∙ ap (at_some (marked came)) none in
    let number : get_or limits id 0 ≡ greatest = get_or_any limits id 0 greatest within ∙ of.each id ∙ ap limit_at empty in
    omega (arith, number, over, top)

-- it is marked
pub settled_over : (came : ℕ) (slots : Slots) (id : ℕ) (s : Stub) → settled came (set slots id (Some (emptied s))) ≡ set (settled came slots) id (Some (emptied s))
settled_over came slots id s = map_set (at_some (marked came)) slots id (Some (emptied s))

pub over_same : (came : ℕ) (slots : Slots) (id : ℕ) (s : Stub) → slot_of slots id ≡ Some s → IsOver came slots id s → settled (came + 1) (set slots id (Some (emptied s))) ≡ settled (came + 1) slots
over_same came slots id s found over = ap (λ (u : Stub). settled (came + 1) (set slots id (Some u))) (sym over.after) ∙ settled_same (came + 1) slots id s found

-- and no other has more than it may hold
pub within_emptied : (slots : Slots) (id : ℕ) (s : Stub) → slot_of slots id ≡ Some s → AreWithin slots → AreWithin (set slots id (Some (emptied s)))
within_emptied slots id s found within other t live = elim (cases_eq other id) [
  | inl same ↦ absurd (
      let here : slot_of (set slots id (Some (emptied s))) id ≡ Some (emptied s) = get_or-set_same slots id (Some (emptied s)) None (inside_of slots id s found) in
      let is : Some (emptied s) ≡ Some t = sym here ∙ ap (slot_of (set slots id (Some (emptied s)))) (sym same) ∙ live.held in
      let e : emptied s ≡ t = cc in
      let over : true ≡ t.overrun = ap (λ (u : Stub). u.overrun) e in
      let not = live.live in
      cc)
  | inr differs ↦ within other t (record { held = sym (get_or-set_other slots id other (Some (emptied s)) None differs) ∙ live.held; live = live.live })
]

-- ---- what contracts see of the stub of a slot

pub stub_seen : (rows : List Element) (gone count : ℕ) (slots : Slots) (id : ℕ) (s : Stub) → slot_of slots id ≡ Some s → stub_of (all_shown rows gone (settled count slots)) id ≡ Some (shown rows (shifted gone (marked count s)))
stub_seen rows gone count slots id s found = stub_shown rows gone (settled count slots) id ∙ ap (shown_at rows gone) (settled_at count slots id ∙ ap (at_some (marked count)) found)

pub none_seen : (rows : List Element) (gone count : ℕ) (slots : Slots) (id : ℕ) → slot_of slots id ≡ None → stub_of (all_shown rows gone (settled count slots)) id ≡ None
none_seen rows gone count slots id none = stub_shown rows gone (settled count slots) id ∙ ap (shown_at rows gone) (settled_at count slots id ∙ ap (at_some (marked count)) none)

pub none_here : (P : Held → Type 0) (rows : List Element) (gone count : ℕ) (slots : Slots) (id : ℕ) → slot_of slots id ≡ None → IsSomeAnd (stub_of (all_shown rows gone (settled count slots)) id) P → ⊥
none_here P rows gone count slots id none is = subst (λ o. IsSomeAnd o P) (none_seen rows gone count slots id none) is

-- it stands there as it is where it isn't overrun
pub record IsHere (rows : List Element) (gone count : ℕ) (slots : Slots) (id : ℕ) (s : Stub) : Type 0 where
  pub same : marked count s ≡ s
  pub live : IsLive (settled count slots) id s
  pub seen : stub_of (all_shown rows gone (settled count slots)) id ≡ Some (shown rows (shifted gone s))

pub is_here : (rows : List Element) (gone count : ℕ) (slots : Slots) (id : ℕ) (s : Stub) → slot_of slots id ≡ Some s → (marked count s).overrun ≡ false → IsHere rows gone count slots id s
is_here rows gone count slots id s found live =
    let same : marked count s ≡ s = marked_same count s live in
    record {
      same = same;
      live = record { held = settled_at count slots id ∙ ap (at_some (marked count)) found ∙ ap (λ (u : Stub). Some u) same; live = ap (λ (u : Stub). u.overrun) (sym same) ∙ live };
      seen = stub_seen rows gone count slots id s found ∙ ap (λ (u : Stub). Some (shown rows (shifted gone u))) same;
    }

pub live_seen : (rows : List Element) (gone count : ℕ) (slots : Slots) (id : ℕ) (s : Stub) → slot_of slots id ≡ Some s → IsSomeAnd (stub_of (all_shown rows gone (settled count slots)) id) (λ h. h.overrun ≡ false) → IsHere rows gone count slots id s
live_seen rows gone count slots id s found is = is_here rows gone count slots id s found (subst (λ o. IsSomeAnd o (λ h. h.overrun ≡ false)) (stub_seen rows gone count slots id s found) is)

pub can_seen : (rows : List Element) (gone count to : ℕ) (slots : Slots) (id : ℕ) (s : Stub) → slot_of slots id ≡ Some s → IsSomeAnd (stub_of (all_shown rows gone (settled count slots)) id) (CanAdvance to) → IsHere rows gone count slots id s
can_seen rows gone count to slots id s found is =
    let can : CanAdvance to (shown rows (shifted gone (marked count s))) = subst (λ o. IsSomeAnd o (CanAdvance to)) (stub_seen rows gone count slots id s found) is in
    is_here rows gone count slots id s found can.live

pub ready_seen : (rows : List Element) (gone count to : ℕ) (kept : List Element) (slots : Slots) (id : ℕ) (s : Stub) → slot_of slots id ≡ Some s → IsSomeAnd (slot_of (settled count slots) id) (λ t. IsReady to kept (shown rows (shifted gone t))) → IsHere rows gone count slots id s
ready_seen rows gone count to kept slots id s found is =
    let ready : IsReady to kept (shown rows (shifted gone (marked count s))) = subst (λ o. IsSomeAnd o (λ t. IsReady to kept (shown rows (shifted gone t)))) (settled_at count slots id ∙ ap (at_some (marked count)) found) is in
    is_here rows gone count slots id s found ready.can.live

-- ---- whether it may go to a cursor

pub can_go : (rows : List Element) (gone count to : ℕ) (slots : Slots) (id : ℕ) (s : Stub) → slot_of slots id ≡ Some s → (marked count s).overrun ≡ false → IsTrue (nat_le s.cursor to) ↔ IsSomeAnd (stub_of (all_shown rows gone (settled count slots)) id) (CanAdvance to)
can_go rows gone count to slots id s found live = (before, after)
  where
    here : IsHere rows gone count slots id s
    here = is_here rows gone count slots id s found live

    before : IsTrue (nat_le s.cursor to) → IsSomeAnd (stub_of (all_shown rows gone (settled count slots)) id) (CanAdvance to)
    before test =
        let later : s.cursor ≤ to = grind (arith, nat_tests, test) in
        let can : CanAdvance to (shown rows (shifted gone s)) = record { live = here.live.live; later = later } in
        subst (λ o. IsSomeAnd o (CanAdvance to)) (sym here.seen) can

    after : IsSomeAnd (stub_of (all_shown rows gone (settled count slots)) id) (CanAdvance to) → IsTrue (nat_le s.cursor to)
    after is =
        let can : CanAdvance to (shown rows (shifted gone s)) = subst (λ o. IsSomeAnd o (CanAdvance to)) here.seen is in
        let later : s.cursor ≤ to = can.later in
        grind (arith, nat_tests, later)

pub over_stays : (rows : List Element) (gone count to : ℕ) (slots : Slots) (id : ℕ) (s : Stub) → slot_of slots id ≡ Some s → (marked count s).overrun ≡ true → IsTrue false ↔ IsSomeAnd (stub_of (all_shown rows gone (settled count slots)) id) (CanAdvance to)
over_stays rows gone count to slots id s found over = (λ no. absurd (let is = no in cc), after)
  where
    after : IsSomeAnd (stub_of (all_shown rows gone (settled count slots)) id) (CanAdvance to) → IsTrue false
    after is =
        let can : CanAdvance to (shown rows (shifted gone (marked count s))) = subst (λ o. IsSomeAnd o (CanAdvance to)) (stub_seen rows gone count slots id s found) is in
        let live : (marked count s).overrun ≡ false = can.live in
        absurd (let is = over in cc)

pub none_stays : (rows : List Element) (gone count to : ℕ) (slots : Slots) (id : ℕ) → slot_of slots id ≡ None → IsTrue false ↔ IsSomeAnd (stub_of (all_shown rows gone (settled count slots)) id) (CanAdvance to)
none_stays rows gone count to slots id none = (λ no. absurd (let is = no in cc), λ is. absurd (none_here (CanAdvance to) rows gone count slots id none is))
