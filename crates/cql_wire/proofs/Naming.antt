-- A tenant that has the name is the one that the table gives for it.
use Rattle.std.proofs.Common.{◌≡◌, ℕ, zero, suc, ◌+◌, Bool, true, false, not, ◌&&◌, ◌||◌, cond, List, [], ◌∷◌, length, Option, Some, None, bytes_eq, refl, sym, ap, ◌∙◌, arith}
use Rattle.std.specs.Prelude.{nat_lt, slice_get}
use Rattle.std.specs.List.{list_all, list_any, position_or_len}
use Rattle.std.proofs.lemmas.Bool.{false≢true}
use Rattle.std.proofs.lemmas.Bool.Decides.{nat_tests}
use Rattle.std.proofs.lemmas.Slice.Eq.{bytes_eq-Decides}
use Rattle.cql_tenants.specs.declared.tenants.Tenant.{Tenant}
use Rattle.cql_tenants.specs.Tenants.{is_within, is_tenant, is_table, are_apart, index_of}

third : (a b c : Bool) → (a && b && c) ≡ true → c ≡ true
third true true c is = is
third true false c is = absurd cc
third false b c is = absurd cc

both : (a b : Bool) → (not a && b) ≡ true → (a ≡ false) × (b ≡ true)
both false b is = (refl, is)
both true b is = absurd cc

either : (a b : Bool) → b ≡ true → (a || b) ≡ true
either true b is = refl
either false b is = is

either_first : (a b : Bool) → a ≡ true → (a || b) ≡ true
either_first true b is = refl
either_first false b is = absurd cc

-- one that stands in the list
any_at : (p : Tenant → Bool) (ts : List Tenant) (i : ℕ) (t : Tenant) → slice_get ts i ≡ Some t → p t ≡ true → list_any p ts ≡ true
any_at p [] i t at is = absurd cc
any_at p (x ∷ ts) zero t at is = let same : x ≡ t = cc in either_first (p x) (list_any p ts) (ap p same ∙ is)
any_at p (x ∷ ts) (suc i) t at is = either (p x) (list_any p ts) (any_at p ts i t at is)

within : (ts : List Tenant) (i : ℕ) (t : Tenant) → slice_get ts i ≡ Some t → nat_lt i (length ts) ≡ true
within [] i t at = absurd cc
within (x ∷ ts) zero t at = grind (arith, nat_tests)
within (x ∷ ts) (suc i) t at = let less = within ts i t at in grind (arith, nat_tests, less)

here : (p : Tenant → Bool) (x : Tenant) (ts : List Tenant) → p x ≡ true → position_or_len p (x ∷ ts) ≡ 0
here p x ts is = rw is refl

later : (p : Tenant → Bool) (x : Tenant) (ts : List Tenant) → p x ≡ false → position_or_len p (x ∷ ts) ≡ 1 + position_or_len p ts
later p x ts is = rw is refl

other : (x t : Tenant) (name : List ℕ) (b : Bool) → bytes_eq x.name name ≡ b → bytes_eq t.name name ≡ true → (bytes_eq x.name t.name ≡ true → ⊥) → b ≡ false
other x t name false first is apart = refl
other x t name true first is apart =
    let a = (bytes_eq-Decides x.name name).0 first in
    let b = (bytes_eq-Decides t.name name).0 is in
    absurd (apart ((bytes_eq-Decides x.name t.name).1 (a ∙ sym b)))

len_at : (ts : List Tenant) (i : ℕ) (t : Tenant) (name : List ℕ) → are_apart ts ≡ true → slice_get ts i ≡ Some t → bytes_eq t.name name ≡ true → position_or_len (λ t. bytes_eq t.name name) ts ≡ i
len_at [] i t name apart at is = absurd cc
len_at (x ∷ ts) zero t name apart at is = let same : x ≡ t = cc in here (λ t. bytes_eq t.name name) x ts (ap (λ t. bytes_eq t.name name) same ∙ is)
len_at (x ∷ ts) (suc i) t name apart at is =
    let (alone, rest) = both (list_any (λ o. bytes_eq x.name o.name) ts) (are_apart ts) apart in
    let differ = other x t name (bytes_eq x.name name) refl is (λ same. false≢true (sym alone ∙ any_at (λ o. bytes_eq x.name o.name) ts i t at same)) in
    let one : 1 + i ≡ suc i = omega arith in
    later (λ t. bytes_eq t.name name) x ts differ ∙ ap (λ n. 1 + n) (len_at ts i t name rest at is) ∙ one

pub named_at : (ts : List Tenant) (i : ℕ) (t : Tenant) (name : List ℕ) → is_table ts ≡ true → slice_get ts i ≡ Some t → bytes_eq t.name name ≡ true → index_of ts name ≡ Some i
named_at ts i t name table at is =
    let len = len_at ts i t name (third (is_within 1 256 (length ts)) (list_all is_tenant ts) (are_apart ts) table) at is in
    ap (λ n. cond (nat_lt n (length ts)) (Some n) None) len ∙ ap (λ b. cond b (Some i) None) (within ts i t at)
