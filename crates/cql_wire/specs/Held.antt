-- What is to come of a reply that is held.
use Rattle.std.specs.Prelude.{ℕ, List, [], Option, Some, None}
use Rattle.cql_core.specs.declared.reply.Reply.{Reply}
use Rattle.cql_core.specs.declared.reply.Reply.TheVariants as reply
use Rattle.cql_reply.specs.Place.{line_rest}
use Rattle.cql_wire.specs.declared.held_reply.ReplyPlace.{ReplyPlace}
use Rattle.cql_wire.specs.Line.{blocks_line, listing_line}
use Rattle.cql_wire.specs.Listing.{listing_rest}

-- the line of an answer or of a list; of other replies none is held
abbrev pub held_line : Reply → List ℕ
held_line reply.Ok = []
held_line (reply.Base base) = []
held_line (reply.Blocks answer) = blocks_line answer.blocks answer.pin.next
held_line (reply.Listing listing) = listing_line listing
held_line (reply.Refused refusal) = []

-- what is to come of it from a place on
abbrev pub reply_rest : Reply → ReplyPlace → List ℕ
reply_rest reply.Ok place = []
reply_rest (reply.Base base) place = []
reply_rest (reply.Blocks answer) place = line_rest answer.blocks answer.pin.next place.blocks
reply_rest (reply.Listing listing) place = listing_rest listing place.listing
reply_rest (reply.Refused refusal) place = []

-- a reply of its own, or else the one that is lent
abbrev pub reply_in_hand : {R : Type 0} → Option R → Option R → Option R
reply_in_hand None lent = lent
reply_in_hand (Some own) lent = Some own

abbrev pub rest_in_hand : Option Reply → ReplyPlace → List ℕ
rest_in_hand None place = []
rest_in_hand (Some reply) place = reply_rest reply place
