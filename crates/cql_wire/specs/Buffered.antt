-- Replies that are buffered before they are written.
use Rattle.std.specs.Prelude.{ℕ, List, ◌++◌, Option, Result}
use Rattle.cql_core.specs.ReplyModel.{ReplyModel}
use Rattle.cql_lines.specs.declared.watched.WriteFault.{WriteFault}
use Rattle.cql_wire.specs.Line.{told_line}
pub use Rattle.cql_reply.specs.Buffered.{Leaves, Buffers}

-- the line of what is told was buffered behind what was held
abbrev pub BuffersReply : Option (List ℕ) → Option (List ℕ) → List ℕ → ReplyModel → List ℕ → Result (Unit {0}) WriteFault → Type 0
BuffersReply old new held told left result = Buffers old new (held ++ told_line told) left result
