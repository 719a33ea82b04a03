-- What a store knows of its stubs, as one of them changes.
use Rattle.std.proofs.Common.{◌≡◌, ◌≢◌, ℕ, ◌+◌, ◌≤◌, ◌<◌, true, false, List, [], ◌∷◌, ◌++◌, length, map, set, get_or, Option, Some, None, IsSome, nat_lt, refl, subst, sym, ap, ◌∙◌, arith, length-append}
use Rattle.cql_value.specs.Element.{Element}
use Rattle.cql_store.specs.declared.stub.Stub.{Stub}
use Rattle.cql_store.specs.Held.{Held, stub_of, CanAppend}
use Rattle.cql_store.specs.Sequence.{Slots, slot_of, shown_at, all_shown, at_some, held_count, marked, greatest, limit, first_at, limit_at, IsSoundAfter, AreSoundAfter, AreOf, AreLonger, AreKnown, IsKnown, IsStore}
use Rattle.cql_store.proofs.Keeps.{IsChange, IsFresh, stub_shown, change_sound, fresh_sound_after, fed_sound}
use Rattle.cql_store.proofs.Numbers.{known_longer, known_put, first_live, limit_live, get_or_any, has_limit, past_limit}

pub change_known : (rows : List Element) (gone : ℕ) (old new : Slots) (firsts limits : List ℕ) (id m n : ℕ) (o : Option Stub) → IsKnown rows gone old firsts limits → IsChange old new id o → id < length firsts → id < length limits → m ≡ first_at o → n ≡ limit_at o → ((s : Stub) → o ≡ Some s → IsSoundAfter rows gone s) → IsKnown rows gone new (set firsts id m) (set limits id n)
change_known rows gone old new firsts limits id m n o is change a b first last here = record {
  fits = is.fits;
  sound = change_sound rows gone old new id o change is.sound here;
  known = known_put old new firsts limits id m n o change a b first last is.known;
}

-- a stub is detached
pub gone_known : (rows : List Element) (gone : ℕ) (old new : Slots) (firsts limits : List ℕ) (id m n : ℕ) → IsKnown rows gone old firsts limits → IsChange old new id None → id < length firsts → id < length limits → m ≡ greatest → n ≡ greatest → IsKnown rows gone new (set firsts id m) (set limits id n)
gone_known rows gone old new firsts limits id m n is change a b first last = change_known rows gone old new firsts limits id m n None is change a b first last (λ s some. absurd cc)

-- a stub is another that isn't overrun
pub live_known : (rows : List Element) (gone : ℕ) (old new : Slots) (firsts limits : List ℕ) (id m n : ℕ) (s : Stub) → IsKnown rows gone old firsts limits → IsChange old new id (Some s) → id < length firsts → id < length limits → s.overrun ≡ false → m ≡ s.first → n ≡ limit s → IsSoundAfter rows gone s → IsKnown rows gone new (set firsts id m) (set limits id n)
live_known rows gone old new firsts limits id m n s is change a b live first last here =
    change_known rows gone old new firsts limits id m n (Some s) is change a b (first ∙ sym (first_live s live)) (last ∙ sym (limit_live s live)) (λ t some. let same : s ≡ t = cc in subst (IsSoundAfter rows gone) same here)

-- the slot of a stub that contracts see
pub read_to_slot : (rows : List Element) (gone : ℕ) (slots : Slots) (firsts limits : List ℕ) (id : ℕ) → AreKnown slots firsts limits → IsSome (stub_of (all_shown rows gone slots) id) → (id < length firsts) × (id < length limits)
read_to_slot rows gone slots firsts limits id is some = from (slot_of slots id) refl
  where
    from : (o : Option Stub) → slot_of slots id ≡ o → (id < length firsts) × (id < length limits)
    from None e = absurd (let a : stub_of (all_shown rows gone slots) id ≡ None = stub_shown rows gone slots id ∙ ap (shown_at rows gone) e in none_some (stub_of (all_shown rows gone slots) id) a some)
      where
        none_some : (h : Option Held) → h ≡ None → IsSome h → ⊥
        none_some h is some = grind (arith, is, some)
    from (Some s) e = (is.of_firsts.covers id s e, is.of_limits.covers id s e)

-- more slots
pub store_longer : (rows : List Element) (gone : ℕ) (slots : Slots) (firsts limits more others : List ℕ) → AreLonger firsts more → AreLonger limits others → IsStore rows gone slots firsts limits → IsStore rows gone slots more others
store_longer rows gone slots firsts limits more others a b is = record {
  known = record {
    fits = is.known.fits;
    sound = is.known.sound;
    known = known_longer slots firsts limits more others a b is.known.known;
  };
  trimmed = is.trimmed;
}

-- a stub is attached
pub attached_store : (rows : List Element) (gone : ℕ) (old new : Slots) (firsts limits : List ℕ) (id m n : ℕ) (s : Stub) → IsStore rows gone old firsts limits → slot_of old id ≡ None → IsChange old new id (Some s) → id < length firsts → id < length limits → IsFresh (gone + length rows) s → m ≡ s.first → n ≡ limit s → IsStore rows gone new (set firsts id m) (set limits id n)
attached_store rows gone old new firsts limits id m n s is free change a b fresh first last = record {
  known = live_known rows gone old new firsts limits id m n s is.known change a b fresh.live first last (fresh_sound_after rows gone s fresh);
  trimmed = λ some.
      let had = is.trimmed some in
      let differs : had.id ≢ id = λ e. (let x : slot_of old had.id ≡ None = ap (slot_of old) e ∙ free in let y = had.live.held in cc) in
      record { id = had.id; stub = had.stub; live = record { held = change.others had.id differs ∙ had.live.held; live = had.live.live }; first = had.first };
}

-- one more row came, and the stubs with one too many are marked
pub fed_known : (rows : List Element) (gone count : ℕ) (slots new : Slots) (x : Element) (firsts limits : List ℕ) → count ≡ gone + (length rows + 1) → count ≤ greatest → AreSoundAfter rows gone slots → CanAppend (all_shown rows gone slots) x → new ≡ map (at_some (marked count)) slots → AreKnown new firsts limits → IsKnown (rows ++ x ∷ []) gone new firsts limits
fed_known rows gone count slots new x firsts limits is fits sound can marked_is known = record {
  fits = omega (arith, is, fits, length-append rows (x ∷ []));
  sound = subst (AreSoundAfter (rows ++ x ∷ []) gone) (sym marked_is) (fed_sound rows gone count slots x is sound can);
  known = known;
}

-- a stub whose limit is below the count has one too many, and isn't marked yet
pub over_live : (slots : Slots) (limits : List ℕ) (id count : ℕ) (s : Stub) → AreOf limit_at slots limits → id < length limits → get_or limits id 0 < count → count ≤ greatest → slot_of slots id ≡ Some s → (s.overrun ≡ false) × (nat_lt s.hold (held_count count s) ≡ true)
over_live slots limits id count s of within over top found =
    let low : get_or limits id greatest < count = omega (arith, get_or_any limits id 0 greatest within, over) in
    let has = has_limit (slot_of slots id) (get_or limits id greatest) (sym (of.each id)) (omega (arith, low, top)) in
    let same : has.stub ≡ s = (let x = has.held in cc) in
    let past : limit s < count = omega (arith, low, has.limited, ap limit same) in
    (sym (ap (λ (u : Stub). u.overrun) same) ∙ has.live, past_limit count s past top)
