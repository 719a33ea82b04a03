-- What an audit of one tenant asks of its receipts, and the number of the first that fails.
use Rattle.std.specs.Prelude.{◌≡◌, ℕ, ◌+◌, ◌<◌, Bool, true, ◌&&◌, ◌==◌, not, List, [], ◌∷◌, ◌++◌, map, filter, Option, Some, None, IfSome, IsSomeAnd, All, Contains, ◌⊎◌, slice_get, slice_index_or, if◌then◌else◌, nat_lt}
use Rattle.std.specs.Borrow.{Bor}
use Rattle.cql_core.specs.Machine.{Stepped}
use Rattle.cql_core.specs.Steps.{answered_by}
use Rattle.cql_hall.specs.declared.hall.Receipt.{Receipt}
use Rattle.cql_hall.specs.Audit.{Journal, Called, Heard, is_want}
use Rattle.cql_hall.specs.Alone.{HoldsAlone}
use Rattle.cql_hall.specs.Tracks.{is_at}

-- a receipt's place, if it has one, and its reply, of an answer the pin
pub record Sent : Type 0 where
  pub place : Option ℕ
  pub reply : Stepped

abbrev pub sent_as : Bor Receipt → Sent
sent_as r = record { place = r.now.place; reply = answered_by r.now.reply }

abbrev pub sent_of : Heard → Sent
sent_of h = record { place = h.place; reply = h.call.reply }

-- a call of the tenant that was not told of no memory
abbrev pub is_sent : ℕ → Called → Bool
is_sent tenant call = call.tenant == tenant && not (is_want call.reply)

-- the receipts of such calls, in order
abbrev pub sent_by : ℕ → List Heard → List Sent
sent_by tenant hs = map sent_of (filter (λ h. is_sent tenant h.call) hs)

-- the receipt has a place whose entry is the tenant's and is told its reply
abbrev pub IsTold : ℕ → Journal → Sent → Type 0
IsTold tenant journal s = IsSomeAnd s.place (λ place. HoldsAlone tenant journal place s.reply)

-- a number is below that of the first, if there is one
abbrev pub is_before : ℕ → Option ℕ → Bool
is_before number None = true
is_before number (Some first) = nat_lt number first

-- of these receipts the first that is not told so has this number
pub record FailsFirst (tenant : ℕ) (journal : Journal) (sent : List Sent) (first : Option ℕ) : Type 0 where
  pub fails : IfSome first (λ number. IsSomeAnd (slice_get sent number) (λ s. ¬ IsTold tenant journal s))
  pub holds : (number : ℕ) (s : Sent) → slice_get sent number ≡ Some s → is_before number first ≡ true → IsTold tenant journal s

-- the place is one of the first so many
abbrev pub IsWithin : ℕ → Option ℕ → Type 0
IsWithin count place = IsSomeAnd place (λ p. p < count)

-- of these receipts the first without such a place has this number
pub record MissesFirst (count : ℕ) (sent : List Sent) (first : Option ℕ) : Type 0 where
  pub fails : IfSome first (λ number. IsSomeAnd (slice_get sent number) (λ s. ¬ IsWithin count s.place))
  pub holds : (number : ℕ) (s : Sent) → slice_get sent number ≡ Some s → is_before number first ≡ true → IsWithin count s.place

-- the numbers of the receipts that have a place, in order, where the first receipt has this number
abbrev pub numbers_at : ℕ → ℕ → List Sent → List ℕ
numbers_at place number [] = []
numbers_at place number (s ∷ sent) = (if is_at place s.place then number ∷ [] else []) ++ numbers_at place (number + 1) sent

-- behind the numbers of the receipt's place, if it has one of the first so many, comes its own
abbrev pub AddsNumber : ℕ → Option ℕ → ℕ → List (List ℕ) → List (List ℕ) → Type 0
AddsNumber count at number old new = (place : ℕ) → place < count → slice_index_or new place [] ≡ slice_index_or old place [] ++ (if is_at place at then number ∷ [] else [])

-- these are the numbers by place
abbrev pub AreNumbers : ℕ → List Sent → List (List ℕ) → Type 0
AreNumbers count sent numbers = (place : ℕ) → place < count → slice_index_or numbers place [] ≡ numbers_at place 0 sent

-- the receipt of a number has this reply
abbrev pub Replies : List Sent → Option Stepped → ℕ → Type 0
Replies sent told number = IsSomeAnd (slice_get sent number) (λ s. told ≡ Some s.reply)

-- what the receipts of some numbers leave of the first that fails, where the tenant is told this
pub record FailsAmong (sent : List Sent) (told : Option Stepped) (numbers : List ℕ) (old new : Option ℕ) : Type 0 where
  pub least : (number : ℕ) → is_before number new ≡ true → is_before number old ≡ true
  pub fails : IfSome new (λ number. (old ≡ Some number) ⊎ (Contains numbers number × ¬ Replies sent told number))
  pub holds : All (λ number. is_before number new ≡ true → Replies sent told number) numbers
