-- What a connection has read and hasn't used yet.
use Rattle.std.specs.Prelude.{ℕ, List}
use Rattle.cql_sessions.specs.declared.socket.Came.{Came}
use Rattle.cql_sessions.specs.declared.socket.Came.TheVariants.{Nothing, Unasked, Unused, Rest, Last}

-- the bytes that are unread behind a turn: those of what came, or those of before
abbrev pub unread_after : Came → List ℕ → List ℕ
unread_after Nothing old = old
unread_after Unasked old = old
unread_after Unused old = old
unread_after (Rest rest) old = rest.items
unread_after (Last rest) old = rest.items
