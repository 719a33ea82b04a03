-- The changes of a bag since a start, and what was told of them.
use Rattle.std.specs.Prelude.{◌≡◌, ◌+◌, List, [], ◌∷◌, ◌++◌, Bool, not, ◌&&◌, Option, if◌then◌else◌}
use Rattle.std.specs.Option.{is_some}
use Rattle.cql_value.specs.declared.value.Value.{Value}
use Rattle.cql_bag.specs.Bag.{Counts, size_of}
use Rattle.cql_bag.specs.Changes.{changed, changed_by, CanChange, CanChangeBy}
use Rattle.cql_bag.specs.declared.change.Change.{Change}
use Rattle.cql_ops.specs.Linear.{turned_changes, image, how_many}

-- the changes of a bag since a start: those that were told, and those that weren't yet
pub record Logged : Type 0 where
  pub told : List Change
  pub untold : List Change

-- the bag after all of them
abbrev pub logged_bag : Logged → Counts
logged_bag log = changed_by (log.told ++ log.untold) []

-- none of them takes an absent row
abbrev pub IsLog : Logged → Type 0
IsLog log = CanChangeBy (log.told ++ log.untold) []

-- with one more, which is not told
abbrev pub logged : Change → Logged → Logged
logged c log = record log { untold = log.untold ++ c ∷ [] }

-- all told
abbrev pub told_all : Logged → Logged
told_all log = record { told = log.told ++ log.untold; untold = [] }

module _ (f : List Value → Option (List Value)) where
  -- what was told of a log
  abbrev pub told_image : Logged → Counts
  told_image log = changed_by (turned_changes f log.told) []

-- what is left to tell, turned, leads from what was told to the image of the log's bag, and takes no absent row
pub record TellsRest (f : List Value → Option (List Value)) (log : Logged) : Type 0 where
  pub there : CanChangeBy (turned_changes f log.untold) (told_image f log)
  pub told : changed_by (turned_changes f log.untold) (told_image f log) ≡ told_image f (told_all log)
  pub whole : told_image f (told_all log) ≡ image f (logged_bag log)
  pub size : size_of (image f (logged_bag log)) ≡ how_many (λ row. is_some (f row)) (logged_bag log)

abbrev pub IsTellsLaw : Type 0
IsTellsLaw = (f : List Value → Option (List Value)) (log : Logged) → IsLog log → TellsRest f log

-- one more change of a log: one row more or fewer that passes a test, where its row does
pub record Adds (log : Logged) (c : Change) : Type 0 where
  pub bag : logged_bag (logged c log) ≡ changed c (logged_bag log)
  pub there : IsLog (logged c log)
  pub many : (p : List Value → Bool) → how_many p (logged_bag (logged c log)) + (if not c.plus && p c.row then 1 else 0) ≡ how_many p (logged_bag log) + (if c.plus && p c.row then 1 else 0)

abbrev pub IsAddsLaw : Type 0
IsAddsLaw = (log : Logged) (c : Change) → IsLog log → CanChange c (logged_bag log) → Adds log c
