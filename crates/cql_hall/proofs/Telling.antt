-- What a tenant is told alone, entry by entry.
use Rattle.std.proofs.Common.{◌≡◌, ℕ, Bool, true, false, ◌&&◌, ◌||◌, not, ◌==◌, List, [], ◌∷◌, ◌++◌, take, refl, ap, ◌∙◌, sym, subst, arith}
use Rattle.std.specs.Prelude.{Some, None, IsSomeAnd, slice_get, if◌then◌else◌}
use Rattle.std.proofs.lemmas.Bool.Decides.{nat_tests}
use Rattle.cql_core.specs.Machine.{State, opening, state_after, Stepped}
use Rattle.cql_core.specs.Cql.{cql}
use Rattle.cql_core.specs.Prepared.{is_on_query}
use Rattle.cql_core.specs.Journal.{Noted, is_unsent, after, replayed}
use Rattle.cql_hall.specs.Audit.{Journal, told}
use Rattle.cql_hall.specs.Alone.{alone, alone_before, IsToldAlone, HoldsAlone}
use Rattle.cql_hall.specs.Tells.{told_to, after_alone, replayed_alone}

-- one entry more
pub replayed_alone_more : (t : ℕ) (ns : List Noted) (s : State) (n : Noted) → replayed_alone t s (ns ++ n ∷ []) ≡ after_alone t (replayed_alone t s ns) n
replayed_alone_more t [] s n = refl
replayed_alone_more t (x ∷ ns) s n = replayed_alone_more t ns (after_alone t s x) n

-- entries that are passed over, and entries that are left out
alone_by : (t : ℕ) (u : State) (x : Noted) (ns : List Noted) (a c : Bool) → is_unsent x.mark ≡ a → replayed u ((if (a || c) then [] else x ∷ []) ++ alone t ns) ≡ replayed (if c then u else after u x) (alone t ns)
alone_by t u x ns true true e = refl
alone_by t u x ns true false e = sym (ap (λ b. replayed (if b then u else state_after cql u x.tenant x.command) (alone t ns)) e)
alone_by t u x ns false true e = refl
alone_by t u x ns false false e = refl

alone_is : (t : ℕ) (ns : List Noted) (u : State) → replayed u (alone t ns) ≡ replayed_alone t u ns
alone_is t [] u = refl
alone_is t (x ∷ ns) u = alone_by t u x ns (is_unsent x.mark) (not (x.tenant == t) && is_on_query x.command) refl ∙ alone_is t ns (after_alone t u x)

-- an entry of the tenant
own_by : (t : ℕ) (s : State) (n : Noted) (reply : Stepped) (b : Bool) → (n.tenant == t) ≡ b → (if b then told s n else None) ≡ Some reply → IsToldAlone t s reply n
own_by t s n reply true e h = record { tenant_is = grind (arith, nat_tests); reply_is = h }
own_by t s n reply false e h = absurd (cc h)

own_is : (t : ℕ) (s : State) (n : Noted) (reply : Stepped) → IsToldAlone t s reply n → told_to t s n ≡ Some reply
own_is t s n reply w = let is : (n.tenant == t) ≡ true = (let e : n.tenant ≡ t = w.tenant_is in grind (arith, nat_tests)) in ap (λ b. if b then told s n else None) is ∙ w.reply_is

-- what the tenant is told at an entry is what the replay of those before it tells
pub told_here : (t : ℕ) (journal : Journal) (i : ℕ) (n : Noted) (s : State) (reply : Stepped) → slice_get journal.entries i ≡ Some n → s ≡ replayed_alone t (opening journal.table) (take i journal.entries)
    → (told_to t s n ≡ Some reply → HoldsAlone t journal i reply) × (HoldsAlone t journal i reply → told_to t s n ≡ Some reply)
told_here t journal i n s reply at is =
    let state : alone_before t journal i ≡ s = alone_is t (take i journal.entries) (opening journal.table) ∙ sym is in (
      λ h. subst (λ o. IsSomeAnd o (IsToldAlone t (alone_before t journal i) reply)) (sym at) (subst (λ x. IsToldAlone t x reply n) (sym state) (own_by t s n reply (n.tenant == t) refl h)),
      λ w. own_is t s n reply (subst (λ x. IsToldAlone t x reply n) state (subst (λ o. IsSomeAnd o (IsToldAlone t (alone_before t journal i) reply)) at w)),
    )
