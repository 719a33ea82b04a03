-- Who comes next, and what a change of the lines leaves.
use Rattle.cql_connections.specs.declared.run_queue.TheConstants.{LITTLE}
use Rattle.std.specs.Prelude.{◌≡◌, ℕ, ◌+◌, ◌-◌, ◌/◌, ◌<◌, ◌==◌, nat_lt, ◌&&◌, ◌||◌, if◌then◌else◌, Bool, true, false, not, List, [], ◌∷◌, ◌++◌, length, take, drop, slice_index_or, slice_set, Some}
use Rattle.std.specs.List.{filter, position}
use Rattle.cql_connections.specs.declared.run_queue.RunQueue.{RunQueue}
pub use Rattle.cql_connections.specs.Turns.{Queues, line_of, size_of}

-- nobody waits but this owner
unfoldable pub is_alone : ℕ → List ℕ → Bool
is_alone owner [] = true
is_alone owner (one ∷ []) = one == owner
is_alone owner (one ∷ (other ∷ more)) = false

-- who goes on having something that waits goes behind all others, and else leaves the order
abbrev pub behind : {T : Type 0} → List T → ℕ → List ℕ → List ℕ
behind [] owner rest = rest
behind (x ∷ line) owner rest = rest ++ owner ∷ []

-- a new one's owner has the last turn, if nothing of him waits
abbrev pub joined : {T : Type 0} → List T → ℕ → List ℕ → List ℕ
joined [] owner order = order ++ owner ∷ []
joined (x ∷ line) owner order = order

-- the new one is the last of its owner's line, and all other lines stay
pub record IsPushed {T : Type 0} (old : Queues T) (owner : ℕ) (item : T) (new : Queues T) : Type 0 where
  pub last : new.lines ≡ slice_set old.lines owner (line_of old.lines owner ++ item ∷ [])
  pub turn : new.order ≡ joined (line_of old.lines owner) owner old.order

-- this one was the first of the owner whose turn it was, and is gone
pub record IsTaken {T : Type 0} (old : Queues T) (item : T) (new : Queues T) : Type 0 where
  pub owner : ℕ
  pub rest : List ℕ
  pub line : List T
  pub next : old.order ≡ owner ∷ rest
  pub first : line_of old.lines owner ≡ item ∷ line
  pub gone : new.lines ≡ slice_set old.lines owner line
  pub turn : new.order ≡ behind line owner rest

-- who has something that waits keeps his turn, and else leaves the order
abbrev pub left : {T : Type 0} → List T → ℕ → List ℕ → List ℕ
left [] owner order = filter (λ one. not (one == owner)) order
left (x ∷ line) owner order = order

-- this one was in its owner's line, and is gone; all others stay
pub record IsRemoved {T : Type 0} (old : Queues T) (owner : ℕ) (item : T) (new : Queues T) : Type 0 where
  pub before : List T
  pub after : List T
  pub was : line_of old.lines owner ≡ before ++ item ∷ after
  pub gone : new.lines ≡ slice_set old.lines owner (before ++ after)
  pub turn : new.order ≡ left (before ++ after) owner old.order

-- how many answers of an owner are computed
abbrev pub busy_with : {T : Type 0} → RunQueue T → ℕ → ℕ
busy_with q owner = slice_index_or q.busy_of.items owner 0

-- how many threads may compute where one begins an answer of the owner: all, where none of his is computed and
-- his answers took little lately; else those that all share
abbrev pub most_for : {T : Type 0} → RunQueue T → ℕ → ℕ
most_for q owner = if (busy_with q owner == 0) && nat_lt (slice_index_or q.spent.items owner 0) LITTLE then q.most else q.shared

-- an answer of the owner may be begun: fewer are computed than may be at once, he isn't held up, and either
-- fewer than half of those that all share, rounded up, are his, or nobody else's waits
unfoldable pub may_begin : {T : Type 0} → RunQueue T → ℕ → Bool
may_begin q owner = nat_lt owner (length q.busy_of.items) && (not (slice_index_or q.held_up.items owner false) && (nat_lt q.busy (most_for q owner) && (nat_lt (busy_with q owner) q.shared && (nat_lt (busy_with q owner) (q.shared - q.shared / 2) || is_alone owner q.answers.order))))

-- this one was the first of the first owner in the order of whom an answer may be begun, and is begun
pub record IsBegun {T : Type 0} (old : RunQueue T) (item : T) (new : RunQueue T) : Type 0 where
  pub at : ℕ
  pub first : position (may_begin old) old.answers.order ≡ Some at
  pub taken : IsTaken (record { lines = old.answers.lines; order = drop at old.answers.order ++ take at old.answers.order }) item new.answers
  pub short : new.short ≡ old.short
  pub busy : new.busy ≡ old.busy + 1
