-- What the line of a reply shows.
use Rattle.std.specs.Prelude.{ℕ, Bool, true, false, List, Option, Some, None}
use Rattle.cql_tenants.specs.declared.stream_refusal.StreamRefusal.{StreamRefusal}
use Rattle.cql_algebra.specs.declared.told.Block.{Block}
use Rattle.cql_core.specs.declared.listing.Listing.{Listing}
use Rattle.cql_core.specs.declared.refusal.Refusal.{Refusal}
use Rattle.cql_core.specs.declared.refusal.Refusal.TheVariants.{NoMemory}
use Rattle.cql_core.specs.Refusal.{refusal_of}

pub data ReplyModel : Type 0 where
  Done : ReplyModel
  Based : ℕ → ReplyModel
  Blocks : List Block → ℕ → ReplyModel
  Listed : Listing → ReplyModel
  Refused : Refusal → ReplyModel

-- done, unless the directory refuses it
abbrev pub done_unless : Option StreamRefusal → ReplyModel
done_unless None = Done
done_unless (Some refused) = Refused (refusal_of refused)

-- the command did what it asks for
abbrev pub is_accepted : ReplyModel → Bool
is_accepted Done = true
is_accepted (Based base) = true
is_accepted (Blocks blocks next) = true
is_accepted (Listed listing) = true
is_accepted (Refused refusal) = false

-- it was told that there was no memory
abbrev pub is_no_memory : ReplyModel → Bool
is_no_memory (Refused NoMemory) = true
is_no_memory _ = false

abbrev pub no_memory : ReplyModel
no_memory = Refused NoMemory
