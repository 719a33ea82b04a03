-- From when on elements may come, as calls change the store.
use Rattle.std.proofs.Common.{◌≡◌, ℕ, zero, suc, ◌+◌, ◌≤◌, Bool, true, false, List, [], ◌∷◌, ◌++◌, length, map, take, drop, ◌-◌, Option, Some, None, cond, nat_lt, refl, subst, sym, ap, ◌∙◌, inl, inr, arith, append_assoc}
use Rattle.std.specs.List.{AllByRecursion, filter}
use Rattle.std.proofs.lemmas.Bool.{cases_eq}
use Rattle.std.proofs.lemmas.List.{take-append-drop}
use Rattle.cql_value.specs.Element.{Element}
use Rattle.cql_value.specs.declared.value.Value.{Value}
use Rattle.cql_value.specs.declared.schema.ColumnType.{ColumnType}
use Rattle.cql_value.specs.Schema.{HasTypes}
use Rattle.cql_window.specs.declared.window.Window.{Window}
use Rattle.cql_window.specs.declared.window.Window.TheVariants.{Range, Rows, All as all, Parts}
use Rattle.cql_window.specs.Window.{end_of, front_len, kept, content, beyond}
use Rattle.cql_store.proofs.Fit.{all_more, all_newest}
use Rattle.cql_store.proofs.Keeps.{slot_map}
use Rattle.cql_store.specs.Held.{Held, Stubs, stub_of, Updates, opened, fed, fed_at, advanced, IsLiveStub, CanTake, CanAppend}
use Rattle.cql_store.specs.Next.{TakesFrom, FitsWindow, NextLaw}

all_filter : (P : Element → Type 0) (p : Element → Bool) (xs ys : List Element) → AllByRecursion P (xs ++ ys) → AllByRecursion P (filter p xs ++ ys)
all_filter P p [] ys h = h
all_filter P p (x ∷ xs) ys h =
    let rest : AllByRecursion P (filter p xs ++ ys) = all_filter P p xs ys h.1 in
    elim (p x) as (λ b. AllByRecursion P (cond b (x ∷ filter p xs) (filter p xs) ++ ys)) [ true ↦ (h.0, rest) | false ↦ rest ]

all_last : (P : Element → Type 0) (n : ℕ) (xs ys : List Element) → AllByRecursion P (xs ++ ys) → AllByRecursion P (drop n xs ++ ys)
all_last P zero xs ys h = h
all_last P (suc n) [] ys h = h
all_last P (suc n) (x ∷ xs) ys h = all_last P n xs ys h.1

-- what a window keeps was there
all_kept : (P : Element → Type 0) (w : Window) (c : ℕ) (xs ys : List Element) → AllByRecursion P (xs ++ ys) → AllByRecursion P (kept w c xs ++ ys)
all_kept P (Range len slide) c xs ys h = all_filter P (λ x. nat_lt (end_of slide c) (x.at + len + 2)) xs ys h
all_kept P (Rows count slide) c xs ys h = all_last P (length xs - count) xs ys h
all_kept P all c xs ys h = h
all_kept P (Parts columns count) c xs ys h = all_newest P columns count xs ys h

pub all_split : (P : Element → Type 0) (w : Window) (c : ℕ) (settled xs : List Element) → AllByRecursion P (settled ++ xs) → AllByRecursion P (content w c settled xs ++ beyond w c xs)
all_split P w c settled xs h =
    let n : ℕ = front_len w c xs in
    let whole : (settled ++ take n xs) ++ drop n xs ≡ settled ++ xs = append_assoc settled (take n xs) (drop n xs) ∙ ap (λ l. settled ++ l) (take-append-drop n xs) in
    all_kept P w c (settled ++ take n xs) (drop n xs) (subst (AllByRecursion P) (sym whole) h)

some_same : (a b : Held) → Some a ≡ Some b → a ≡ b
some_same a b is = cc

-- ---- the calls

-- no stub is there yet
pub none_from : (P : List Value → Type 0) (n : ℕ) → TakesFrom P n []
none_from P n x late instant kind = record { instant = instant; takes = λ id h is. absurd (let none : stub_of [] id ≡ None = refl in let some = is.held in cc) }

pub attached_from : (P : List Value → Type 0) (n : ℕ) (old new : Stubs) (id : ℕ) (w : Window) (base hold : ℕ) → TakesFrom P n old → Updates old new id (Some (opened w base hold)) → base ≤ n → FitsWindow P w → TakesFrom P n new
attached_from P n old new id w base hold from up early columns x late instant kind =
    record {
      instant = instant;
      takes = λ other h is. elim (cases_eq other id) [
        | inl same ↦
            let this : opened w base hold ≡ h = some_same (opened w base hold) h (sym (ap (stub_of new) same ∙ up.changed) ∙ is.held) in
            subst (CanTake x) this (record { later = tt; ahead = omega (arith, early, late); columns = columns x kind })
        | inr differs ↦ (from x late instant kind).takes other h (record { held = sym (up.others other differs) ∙ is.held; live = is.live })
      ];
    }

fed_takes : (x y : Element) (h : Held) → x.at ≤ y.at → (h.overrun ≡ false → CanTake y h) → (fed x h).overrun ≡ false → CanTake y (fed x h)
fed_takes x y h late takes = by_tests h.overrun (nat_lt (length h.content + length h.unseen) h.hold) refl
  where
    by_tests : (o b : Bool) → h.overrun ≡ o
        → (cond {A = Held} o h (cond b (record h { unseen = h.unseen ++ x ∷ [] }) (record h { content = []; unseen = []; overrun = true }))).overrun ≡ false
        → CanTake y (cond {A = Held} o h (cond b (record h { unseen = h.unseen ++ x ∷ [] }) (record h { content = []; unseen = []; overrun = true })))
    by_tests true b over live = takes live
    by_tests false true over live =
        let was = takes over in
        record {
          later = subst (AllByRecursion (λ (z : Element). z.at ≤ y.at)) (append_assoc h.content h.unseen (x ∷ [])) (all_more (λ (z : Element). z.at ≤ y.at) (h.content ++ h.unseen) x was.later late);
          ahead = was.ahead;
          columns = was.columns;
        }
    by_tests false false over live = absurd cc

pub appended_from : (P : List Value → Type 0) (n : ℕ) (old new : Stubs) (x : Element) → TakesFrom P n old → n ≤ x.at → new ≡ map (fed_at x) old → TakesFrom P x.at new
appended_from P n old new x from early made y late instant kind =
    record {
      instant = instant;
      takes = λ id h is. at id h is (stub_of old id) refl;
    }
  where
    at : (id : ℕ) (h : Held) → IsLiveStub new id h → (o : Option Held) → stub_of old id ≡ o → CanTake y h
    at id h is None was = absurd (let none : stub_of new id ≡ None = ap (λ l. stub_of l id) made ∙ slot_map (fed_at x) old id refl ∙ ap (fed_at x) was in let some = is.held in cc)
    at id h is (Some k) was =
        let this : fed x k ≡ h = some_same (fed x k) h (sym (ap (λ l. stub_of l id) made ∙ slot_map (fed_at x) old id refl ∙ ap (fed_at x) was) ∙ is.held) in
        subst (CanTake y) this (fed_takes x y k late (λ live. (from y (omega (arith, early, late)) instant kind).takes id k (record { held = was; live = live })) (ap (λ (g : Held). g.overrun) this ∙ is.live))

pub advanced_from : (P : List Value → Type 0) (n m : ℕ) (old new : Stubs) (id to : ℕ) (h : Held) → TakesFrom P n old → stub_of old id ≡ Some h → h.overrun ≡ false → Updates old new id (Some (advanced to h)) → n ≤ m → to ≤ m → TakesFrom P m new
advanced_from P n m old new id to h from was live up more within x late instant kind =
    let before : CanAppend old x = from x (omega (arith, more, late)) instant kind in
    record {
      instant = instant;
      takes = λ other k is. elim (cases_eq other id) [
        | inl same ↦
            let this : advanced to h ≡ k = some_same (advanced to h) k (sym (ap (stub_of new) same ∙ up.changed) ∙ is.held) in
            let took : CanTake x h = before.takes id h (record { held = was; live = live }) in
            subst (CanTake x) this (record { later = all_split (λ (y : Element). y.at ≤ x.at) h.window to h.content h.unseen took.later; ahead = omega (arith, within, late); columns = took.columns })
        | inr differs ↦ before.takes other k (record { held = sym (up.others other differs) ∙ is.held; live = is.live })
      ];
    }

pub detached_from : (P : List Value → Type 0) (n : ℕ) (old new : Stubs) (id : ℕ) → TakesFrom P n old → Updates old new id None → TakesFrom P n new
detached_from P n old new id from up x late instant kind =
    record {
      instant = instant;
      takes = λ other h is. elim (cases_eq other id) [
        | inl same ↦ absurd (let none : stub_of new other ≡ None = ap (stub_of new) same ∙ up.changed in let some = is.held in cc)
        | inr differs ↦ (from x late instant kind).takes other h (record { held = sym (up.others other differs) ∙ is.held; live = is.live })
      ];
    }

pub next_law : (columns : List ColumnType) → NextLaw (HasTypes columns)
next_law columns = record {
  none = none_from (HasTypes columns);
  attached = attached_from (HasTypes columns);
  appended = appended_from (HasTypes columns);
  advanced = advanced_from (HasTypes columns);
  detached = detached_from (HasTypes columns);
}
