-- What is queued for a journal's file of a book's calls.
use Rattle.std.specs.Prelude.{◌≡◌, ◌⊎◌, ℕ, ◌+◌, Bool, true, false, [], ◌∷◌, ◌++◌}
use Rattle.cql_core.specs.declared.command.Command.{Command}
use Rattle.cql_core.specs.Steps.{stepped_of}
use Rattle.cql_hall.specs.declared.book.Entered.{Entered}
use Rattle.cql_hall.specs.declared.feed.Feed.{Feed}
use Rattle.cql_hall.specs.Change.{is_change}
use Rattle.cql_hall.specs.Entering.{BookModel, Enters, EntersNone}
use Rattle.cql_hall.specs.Queue.{Queued}

-- a call is queued behind the others exactly where it may have changed the core
pub record Files (old new : Feed) (call : Queued) (changed : Bool) : Type 0 where
  pub is_on : new.is_on ≡ old.is_on
  pub noted : changed ≡ true → (new.calls ≡ old.calls ++ call ∷ []) × (new.count ≡ old.count + 1)
  pub kept : changed ≡ false → (new.calls ≡ old.calls) × (new.count ≡ old.count)

-- nothing is queued
pub record FilesNone (old new : Feed) : Type 0 where
  pub is_on : new.is_on ≡ old.is_on
  pub calls : new.calls ≡ old.calls
  pub count : new.count ≡ old.count

-- a call does what it does to a book, and is queued where calls are
pub record EntersOn (keeps : Bool) (old : BookModel) (feed : Feed) (tenant : ℕ) (command : Command) (call : Queued) (entered : Entered) (new : BookModel) (feeds : Feed) : Type 0 where
  pub book : Enters keeps old tenant command entered new
  pub queued : feed.is_on ≡ true → Files feed feeds call (is_change (stepped_of entered.step))
  pub bare : feed.is_on ≡ false → FilesNone feed feeds

-- one call of a tenant, whose line is given: what it does to a book, and what is queued of it; without room for that there is no step
abbrev pub EntersFiled : Bool → BookModel → Feed → ℕ → Command → Queued → Entered → BookModel → Feed → Type 0
EntersFiled keeps old feed tenant command call entered new feeds =
    EntersOn keeps old feed tenant command call entered new feeds ⊎ (EntersNone old entered new × FilesNone feed feeds)
