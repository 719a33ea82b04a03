-- What the benches of a pool keep together.
use Rattle.std.proofs.Common.{◌≡◌, ap, sym, subst, ◌∙◌, ℕ, ◌+◌, ◌-◌, ◌≤◌, ◌<◌, Bool, true, false, List, [], ◌∷◌, ◌++◌, length, take, Option, Some, None, inl, inr, option_map, unwrap_or, arith, slice_get, get_or}
use Rattle.std.specs.Map.{lookup, lookup_entry, remove_entry, values_of}
use Rattle.std.specs.Bool.{if◌then◌else◌}
use Rattle.std.specs.Option.{option_map_or, option_to_list}
use Rattle.std.proofs.lemmas.List.{take-map}
use Rattle.std.proofs.lemmas.List.Sums.{sum_by_more_le, sum_by-take-le, sum_by-cons, sum_by-append, sum_by_push}
use Rattle.std.proofs.lemmas.Map.Entries.{sum_by-remove_entry}
use Rattle.std.proofs.lemmas.Option.{slice_get-map, slice_get_cases}
use Rattle.lru.specs.LruCache.{LruCache, lru_cache, last_entry, put_entries}
use Rattle.cql_eval.specs.Warm.{WarmModel}
use Rattle.cql_eval.specs.Pool.{weight_in, AreWithin}

-- what one of them keeps
abbrev weight : WarmModel → ℕ
weight w = w.weight

module _ {K : Type 0} where
  weighed : (e : K × WarmModel) (es : List (K × WarmModel)) → weight_in (values_of (e ∷ es)) ≡ e.1.weight + weight_in (values_of es)
  weighed e es = sum_by-cons weight e.1 (values_of es)

  of_those : (n : ℕ) (es : List (K × WarmModel)) → weight_in (take n (values_of es)) ≡ weight_in (values_of (take n es))
  of_those n es = ap weight_in (take-map (λ (p : K × WarmModel). p.1) n es)

  -- what the last bench weighs is there again once it is taken out
  module _ (es : List (K × WarmModel)) (e : K × WarmModel) (is : last_entry es ≡ Some e) where
    abbrev last : ℕ
    last = length es - 1

    found : slice_get (values_of es) last ≡ Some e.1
    found = slice_get-map (λ (p : K × WarmModel). p.1) es last ∙ ap (option_map (λ (p : K × WarmModel). p.1)) is

    place : (last < length (values_of es)) × (get_or (values_of es) last e.1 ≡ e.1)
    place = elim ((slice_get_cases (values_of es) last).1) [
      | inl there ↦ subst (λ (w : WarmModel). (last < length (values_of es)) × (get_or (values_of es) last w ≡ w)) (same there.0 there.2) (there.1, there.3)
      | inr beyond ↦ absurd (no beyond.1)
    ]
      where
        same : (x : WarmModel) → slice_get (values_of es) last ≡ Some x → x ≡ e.1
        same x at = cc (at, found)

        no : slice_get (values_of es) last ≡ None → ⊥
        no at = cc (at, found)

    less : weight_in (values_of (take last es)) + e.1.weight ≤ weight_in (values_of es)
    less =
        let own : (get_or (values_of es) last e.1).weight ≡ e.1.weight = ap weight place.1 in
        omega (arith, sum_by_more_le weight (values_of es) last e.1 place.0, own, of_those last es)

  module _ (spare : List WarmModel) (old new : LruCache K WarmModel) (before left room : ℕ) (within : AreWithin spare old before room) where
    -- a bench is looked for, and taken out where there is one
    module _ (test : K → Bool) (found : Option WarmModel) (value : found ≡ lookup test old.entries) (entries : new ≡ lru_cache (remove_entry test old.entries) old.cap) where
      pub taken : left ≤ before + unwrap_or (option_map weight found) 0 → AreWithin spare new left room
      taken most =
          let own : unwrap_or (option_map weight found) 0 ≡ unwrap_or (option_map weight (lookup test old.entries)) 0 = ap (λ (o : Option WarmModel). unwrap_or (option_map weight o) 0) value in
          rw entries (omega (arith, sum_by-remove_entry weight test old.entries, most, own, within))

    -- the last one is taken out, if there is one
    module _ (found : Option (K × WarmModel)) (value : found ≡ last_entry old.entries) (entries : new ≡ lru_cache (take (length old.entries - 1) old.entries) old.cap) where
      pub last_taken : left ≤ before + unwrap_or (option_map (λ (e : K × WarmModel). e.1.weight) found) 0 → AreWithin spare new left room
      last_taken = of found value
        where
          of : (o : Option (K × WarmModel)) → o ≡ last_entry old.entries → left ≤ before + unwrap_or (option_map (λ (e : K × WarmModel). e.1.weight) o) 0 → AreWithin spare new left room
          of None is most = rw entries (omega (arith, sum_by-take-le weight (values_of old.entries) (length old.entries - 1), of_those (length old.entries - 1) old.entries, most, within))
          of (Some e) is most = rw entries (omega (arith, less old.entries e (sym is), most, within))

    -- one is put in the front
    module _ (eq : K → K → Bool) (k : K) (v : WarmModel) (entries : new ≡ lru_cache (put_entries eq old k v) old.cap) where
      pub put : before ≡ left + v.weight → AreWithin spare new left room
      put is = rw entries (omega (arith, weighs, is, within))
        where
          weighs : weight_in (values_of (put_entries eq old k v)) ≤ v.weight + weight_in (values_of old.entries)
          weighs = elim (lookup_entry (eq k) old.entries) as (λ o. weight_in (values_of (option_map_or (λ e. (e.0, v) ∷ remove_entry (eq k) old.entries) o ((k, v) ∷ take (old.cap - 1) old.entries))) ≤ v.weight + weight_in (values_of old.entries)) [
            | Some e ↦ omega (arith, sum_by-remove_entry weight (eq k) old.entries, weighed (e.0, v) (remove_entry (eq k) old.entries))
            | None ↦ omega (arith, sum_by-take-le weight (values_of old.entries) (old.cap - 1), of_those (old.cap - 1) old.entries, weighed (k, v) (take (old.cap - 1) old.entries))
          ]

  module _ (spare new : List WarmModel) (kept : LruCache K WarmModel) (left room : ℕ) (within : AreWithin spare kept left room) where
    -- the last of those that stand for no query is taken out, if there is one
    module _ (found : Option WarmModel) (items : spare ≡ new ++ option_to_list found) where
      pub spare_taken : AreWithin new kept left room
      spare_taken =
          let sum : weight_in spare ≡ weight_in (new ++ option_to_list found) = ap weight_in items in
          omega (arith, sum, sum_by-append weight new (option_to_list found), within)

    -- one that weighs nothing is put beside them, or there was no room for it
    module _ (bench : WarmModel) (is : Bool) (items : new ≡ if◌then◌else◌ is (spare ++ bench ∷ []) spare) where
      pub spare_put : bench.weight ≡ 0 → AreWithin new kept left room
      spare_put none = rw items (of is)
        where
          of : (b : Bool) → AreWithin (if◌then◌else◌ b (spare ++ bench ∷ []) spare) kept left room
          of false = within
          of true = omega (arith, sum_by_push weight spare bench, none, within)
