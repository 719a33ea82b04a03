-- How far a walk over the elements of a pin has gone: elements have an index in content ++ unseen.
use Rattle.std.specs.Prelude.{◌≡◌, ℕ, ◌+◌, ◌*◌, ◌/◌, ◌^◌, ◌≤◌, ◌<◌, List, ◌++◌, drop, length, take}
use Rattle.cql_value.specs.Element.{Element}
use Rattle.cql_window.specs.declared.bounds.Bounds.{Bounds}
use Rattle.cql_window.specs.declared.queues.Queues.{Queues}
use Rattle.cql_window.specs.declared.window.Window.{Window}
use Rattle.cql_window.specs.declared.window.Window.TheVariants.{Range, Rows, All as all, Parts}
use Rattle.cql_window.specs.Laws.{low, high, between}
use Rattle.cql_window.specs.Pin.{Pinned}
use Rattle.cql_window.specs.Queues.{AreQueued}
use Rattle.cql_window.specs.Window.{end_of, count_before, last_of_parts}

-- what came before it is seen at the cursor
abbrev pub end_in : Window → ℕ → ℕ
end_in (Range len slide) c = end_of slide c
end_in (Rows count slide) c = c
end_in all c = c
end_in (Parts columns count) c = c

-- of so many elements those that the window may look at
abbrev pub whole_slides : Window → ℕ → ℕ
whole_slides (Range len slide) n = n
whole_slides (Rows count slide) n = n / slide * slide
whole_slides all n = n
whole_slides (Parts columns count) n = n

-- at the cursor: how many of the unseen came before the end, and the indices before which elements have left and come
abbrev pub bounds_at : Pinned → ℕ → Bounds
bounds_at p c = record {
  seen = count_before (end_in p.window c) p.unseen;
  low = low p.window c p.content p.unseen;
  high = high p.window c p.content p.unseen;
}

-- no bound is behind the other's
pub record AreUpTo (p q : Bounds) : Type 0 where
  pub seen : p.seen ≤ q.seen
  pub low : p.low ≤ q.low
  pub high : p.high ≤ q.high

-- what a window holds of all elements within these bounds
abbrev pub held_between : Window → Bounds → List Element → List Element
held_between (Range len slide) bounds xs = between bounds.low bounds.high xs
held_between (Rows count slide) bounds xs = between bounds.low bounds.high xs
held_between all bounds xs = between bounds.low bounds.high xs
held_between (Parts columns count) bounds xs = last_of_parts columns count (take bounds.high xs)

-- the queues of a window's parts are those of the elements that came
abbrev pub HasQueues : Window → List Element → Queues → Type 0
HasQueues (Range len slide) came queues = Unit {0}
HasQueues (Rows count slide) came queues = Unit {0}
HasQueues all came queues = Unit {0}
HasQueues (Parts columns count) came queues = AreQueued columns count came queues

-- a walk may go on from these bounds to each cursor from its own on
pub record IsReached (p : Pinned) (cursor : ℕ) (bounds : Bounds) (queues : Queues) : Type 0 where
  pub ahead : (t : ℕ) → cursor ≤ t → AreUpTo bounds (bounds_at p t)
  pub order : bounds.low ≤ bounds.high
  pub queued : HasQueues p.window (take bounds.high (p.content ++ p.unseen)) queues

-- elements begin those from an index on
abbrev pub IsFront : ℕ → List Element → List Element → Type 0
IsFront i front xs = front ≡ take (length front) (drop i xs)

-- elements that haven't come at these bounds, and such as haven't left
pub record HasAhead (p : Pinned) (bounds : Bounds) (front rest : List Element) : Type 0 where
  pub coming : IsFront (length p.content + bounds.seen) front (p.content ++ p.unseen)
  pub staying : IsFront bounds.low rest (p.content ++ p.unseen)
  pub few : length (p.content ++ p.unseen) < 2 ^ 64
