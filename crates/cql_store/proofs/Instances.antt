-- The laws of a store at calls worked by hand: a premise that they don't meet is refused here.
use Rattle.std.proofs.Common.{◌≡◌, ℕ, zero, suc, pos, List, [], ◌∷◌, Option, Some, None, false, refl, subst, arith}
use Rattle.cql_value.specs.Element.{Element}
use Rattle.cql_value.specs.declared.value.Value.TheVariants.{Number}
use Rattle.cql_value.specs.declared.schema.ColumnType.TheVariants.{Number as Integer}
use Rattle.cql_value.specs.Schema.{HasTypes}
use Rattle.cql_window.specs.declared.window.Window.TheVariants.{All as all}
use Rattle.cql_store.specs.Held.{Held, Stubs, stub_of, Updates, IsLiveStub, opened, advanced, CanTake, CanAppend}
use Rattle.cql_store.specs.Calls.{Call, Attach, Append, Advance, Make, IsStubLaw}
use Rattle.cql_store.specs.Next.{TakesFrom, FitsWindow, IsNextLaw}

abbrev x : Element
x = record { at = 3; row = Number (pos 7) ∷ [] }

-- the one stub at the cursor 2, after an element, and at the cursor 4
abbrev new : Held
new = opened all 2 9

abbrev fed : Held
fed = record { window = all; cursor = 2; hold = 9; content = []; unseen = x ∷ []; overrun = false }

abbrev later : Held
later = record { window = all; cursor = 4; hold = 9; content = x ∷ []; unseen = []; overrun = false }

abbrev only : Held → Stubs
only h = Some h ∷ []

attached : Updates [] (only new) 0 (Some new)
attached = record { changed = refl; others = λ other ne. by other ne }
  where
    by : (other : ℕ) → (other ≡ 0 → ⊥) → stub_of (only new) other ≡ None
    by zero ne = absurd (ne refl)
    by (suc n) ne = refl

went : Updates (only fed) (only later) 0 (Some (advanced 4 fed))
went = record { changed = refl; others = λ other ne. by other ne }
  where
    by : (other : ℕ) → (other ≡ 0 → ⊥) → stub_of (only later) other ≡ stub_of (only fed) other
    by zero ne = absurd (ne refl)
    by (suc n) ne = refl

detached : Updates (only later) (None ∷ []) 0 None
detached = record { changed = refl; others = λ other ne. by other ne }
  where
    by : (other : ℕ) → (other ≡ 0 → ⊥) → stub_of (None ∷ []) other ≡ stub_of (only later) other
    by zero ne = absurd (ne refl)
    by (suc n) ne = refl

abbrev calls : List Call
calls = Attach 0 all 2 9 ∷ Append x ∷ Advance 0 4 ∷ []

numbers : FitsWindow (HasTypes (Integer ∷ [])) all
numbers y is = tt

none : TakesFrom (HasTypes (Integer ∷ [])) 2 []
none y late instant is = record { instant = instant; takes = λ id h live. absurd (let e : Option Held = None in let some = live.held in cc) }

next_law_at : IsNextLaw → TakesFrom (HasTypes (Integer ∷ [])) 4 (None ∷ [])
next_law_at law =
    let laws = law (Integer ∷ []) in
    let first : TakesFrom (HasTypes (Integer ∷ [])) 2 (only new) = laws.attached 2 [] (only new) 0 all 2 9 none attached (omega arith) numbers in
    let second : TakesFrom (HasTypes (Integer ∷ [])) 3 (only fed) = laws.appended 2 (only new) (only fed) x first (omega arith) refl in
    let third : TakesFrom (HasTypes (Integer ∷ [])) 4 (only later) = laws.advanced 3 4 (only fed) (only later) 0 4 fed second refl refl went (omega arith) (omega arith) in
    laws.detached 4 (only later) (None ∷ []) 0 third detached

can : CanAppend (only new) x
can = record { instant = omega arith; takes = by }
  where
    by : (id : ℕ) (h : Held) → IsLiveStub (only new) id h → CanTake x h
    by zero h live =
        let is : Some new ≡ Some h = live.held in
        let same : new ≡ h = cc in
        subst (CanTake x) same (record { later = tt; ahead = omega arith; columns = tt })
    by (suc n) h live = absurd (let is = live.held in cc)

made : Make [] calls (only later)
made = (only new, (refl, attached), (only fed, (can, refl), (only later, (fed, refl, record { live = refl; later = omega arith }, went), refl)))

stub_law_at : IsStubLaw → Some later ≡ Some later
stub_law_at law = law calls (only later) made 0
