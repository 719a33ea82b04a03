-- The reply that is in hand: what is to come of it, and how it is told.
use Rattle.std.specs.Prelude.{ℕ, ◌-◌, Bool, true, false, List, [], ◌++◌, length, Option, Some, None, option_map, Result}
use Rattle.std.specs.List.{slice_get}
use Rattle.cql_core.specs.declared.command.Command.{Command}
use Rattle.cql_core.specs.declared.reply.Reply.{Reply}
use Rattle.cql_core.specs.declared.reply.Reply.TheVariants as reply
use Rattle.cql_asked.specs.declared.fault.LineFault.{LineFault}
use Rattle.cql_hall.specs.declared.hall.Receipt.{Receipt}
use Rattle.cql_lines.specs.declared.watched.WriteFault.{WriteFault}
use Rattle.cql_wire.specs.Buffered.{Buffers}
use Rattle.cql_wire.specs.Held.{held_line, reply_in_hand, rest_in_hand}
use Rattle.cql_wire.specs.declared.held_reply.HeldReply.{HeldReply}
use Rattle.cql_sessions.specs.declared.caller.Caller.{Caller}
use Rattle.cql_sessions.specs.Answering.{Account, Tells}

-- whether it is the answer to a fetch, or a list
abbrev pub is_long : Reply → Bool
is_long reply.Ok = false
is_long (reply.Base base) = false
is_long (reply.Blocks answer) = true
is_long (reply.Listing listing) = true
is_long (reply.Refused refusal) = false

-- what is to come of the reply in hand: its own, or else the one that is lent
abbrev pub to_come : Option HeldReply → Option Reply → List ℕ
to_come None lent = []
to_come (Some held) lent = rest_in_hand (reply_in_hand held.reply lent) held.place

abbrev pub line_if_any : Option Reply → List ℕ
line_if_any None = []
line_if_any (Some reply) = held_line reply

-- the line of a reply of which nothing is told: its own, or else the one that is lent
abbrev pub line_in_hand : Option Reply → Option Reply → List ℕ
line_in_hand own lent = line_if_any (reply_in_hand own lent)

-- the reply that was told last, of receipts that are kept
abbrev pub last_reply : List Receipt → Option Reply
last_reply receipts = option_map (λ r. r.reply) (slice_get receipts (length receipts - 1))

-- what is to come of the reply in a caller's hand
abbrev pub caller_to_come : Caller → List ℕ
caller_to_come caller = to_come caller.taking.held (last_reply caller.receipts.items)

abbrev pub visit_to_come : Option Caller → List ℕ
visit_to_come None = []
visit_to_come (Some caller) = caller_to_come caller

-- A line that asks this was answered by one line. Of what was held and that line a front was written; what is held now, and then what is to come, is the rest of it.
abbrev pub TellsLine : Bool → Account → Account → Result Command LineFault → Option (List ℕ) → Option (List ℕ) → List ℕ → List ℕ → Result (Unit {0}) WriteFault → Type 0
TellsLine keeps old new request before after held rest result = (line : List ℕ) × Tells keeps old new request line × Buffers before after (held ++ line) rest result
