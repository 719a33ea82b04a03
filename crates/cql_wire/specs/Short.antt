-- The lines of short replies.
use Rattle.std.specs.Prelude.{ℕ, List}
use Rattle.cql_core.specs.ReplyModel.{Based, Refused}
use Rattle.cql_wire.specs.declared.reply.ShortReply.{ShortReply}
use Rattle.cql_wire.specs.declared.reply.ShortReply.TheVariants as short
use Rattle.cql_wire.specs.Line.{told_line, fault_line}

abbrev pub short_line : ShortReply → List ℕ
short_line (short.Base base) = told_line (Based base)
short_line (short.Refused refusal) = told_line (Refused refusal)
short_line (short.Fault fault) = fault_line fault
