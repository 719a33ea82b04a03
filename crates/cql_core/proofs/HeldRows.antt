-- The greatest need of the stubs on a stream.
use Rattle.std.proofs.Common.{◌≡◌, ◌⊎◌, inl, inr, ℕ, ◌≤◌, Bool, true, false, List, [], ◌∷◌, max, refl, ◌∙◌, subst, arith}
use Rattle.std.specs.Prelude.{Option, Some, None, option_map, nat_le}
use Rattle.std.specs.List.{AllByRecursion}
use Rattle.std.proofs.lemmas.Bool.Decides.{nat_tests}
use Rattle.cql_store.specs.Held.{need}
use Rattle.cql_tenants.specs.declared.stream.Stream.{Stream}
use Rattle.cql_tenants.specs.Namespace.{stream_at}
use Rattle.cql_core.specs.StreamId.{StreamId}
use Rattle.cql_core.specs.Machine.{Stub, State}
use Rattle.cql_core.specs.Rows.{greatest_need, stubs_on, IsNeeded, IsRowsHeldLaw}

needs_below : (n m : ℕ) → n ≤ m → (stubs : List Stub) → AllByRecursion (λ stub. need stub.held ≤ n) stubs → AllByRecursion (λ stub. need stub.held ≤ m) stubs
needs_below n m le [] h = h
needs_below n m le (stub ∷ stubs) h = (omega (arith, le, h.0), needs_below n m le stubs h.1)

all_below : (stubs : List Stub) → AllByRecursion (λ stub. need stub.held ≤ greatest_need stubs) stubs
all_below [] = tt
all_below (stub ∷ stubs) = (omega arith, needs_below (greatest_need stubs) (max (need stub.held) (greatest_need stubs)) (omega arith) stubs (all_below stubs))

needed_by : (n m g : ℕ) (stub : Stub) (stubs : List Stub) → need stub.held ≡ n → g ≡ max n m → ((m ≡ 0) ⊎ IsNeeded m stubs) → (b : Bool) → nat_le m n ≡ b → (g ≡ 0) ⊎ ((need stub.held ≡ g) ⊎ IsNeeded g stubs)
needed_by n m g stub stubs is most rest true le = inr (inl (let e : n ≡ g = grind (arith, nat_tests) in is ∙ e))
needed_by n m g stub stubs is most (inl none) false le = absurd (grind (arith, nat_tests))
needed_by n m g stub stubs is most (inr some) false le = inr (inr (subst (λ k. IsNeeded k stubs) (let e : m ≡ g = grind (arith, nat_tests) in e) some))

is_needed : (stubs : List Stub) → (greatest_need stubs ≡ 0) ⊎ IsNeeded (greatest_need stubs) stubs
is_needed [] = inl refl
is_needed (stub ∷ stubs) = needed_by (need stub.held) (greatest_need stubs) _ stub stubs refl refl (is_needed stubs) _ refl

held_by : (s : State) (stream_id : StreamId) (n : ℕ) → greatest_need (stubs_on stream_id s.queries) ≡ n
    → AllByRecursion (λ stub. need stub.held ≤ n) (stubs_on stream_id s.queries) × ((n ≡ 0) ⊎ IsNeeded n (stubs_on stream_id s.queries))
held_by s stream_id n e =
    subst (λ n. AllByRecursion (λ stub. need stub.held ≤ n) (stubs_on stream_id s.queries) × ((n ≡ 0) ⊎ IsNeeded n (stubs_on stream_id s.queries))) e
    (all_below (stubs_on stream_id s.queries), is_needed (stubs_on stream_id s.queries))

pub number_of_rows : (o : Option Stream) (g n : ℕ) → option_map (λ v. g) o ≡ Some n → g ≡ n
number_of_rows None g n e = absurd cc
number_of_rows (Some v) g n e = cc

pub rows_held_law : IsRowsHeldLaw
rows_held_law s stream_id n e = held_by s stream_id n (number_of_rows (stream_at s.namespaces stream_id.owner stream_id.name) (greatest_need (stubs_on stream_id s.queries)) n e)
