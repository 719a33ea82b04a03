-- Benches that nobody has taken out.
use Rattle.std.specs.Prelude.{◌≤◌, ◌+◌, ℕ, List, ◌++◌, sum_by}
use Rattle.std.specs.Map.{values_of}
use Rattle.lru.specs.LruCache.{LruCache}
use Rattle.cql_eval.specs.Warm.{WarmModel}

-- how many bytes these benches keep together
abbrev pub weight_in : List WarmModel → ℕ
weight_in benches = sum_by (λ w. w.weight) benches

-- those that stand for no query, and those that stand for one
abbrev pub all_of : {K : Type 0} → List WarmModel → LruCache K WarmModel → List WarmModel
all_of spare kept = spare ++ values_of kept.entries

-- with what they keep there is room for so many bytes more
abbrev pub AreWithin : {K : Type 0} → List WarmModel → LruCache K WarmModel → ℕ → ℕ → Type 0
AreWithin spare kept left room = left + (weight_in spare + weight_in (values_of kept.entries)) ≤ room
