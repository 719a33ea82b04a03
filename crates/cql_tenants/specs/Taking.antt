-- Why a stream doesn't take a row or a time, and how it goes on.
use Rattle.std.specs.Prelude.{ℕ, List, Option, Some, None, option_map, if◌then◌else◌}
use Rattle.cql_value.specs.declared.value.Value.{Value}
use Rattle.cql_value.specs.Schema.{is_row_of}
use Rattle.cql_tenants.specs.Clock.{time_fault}
use Rattle.cql_tenants.specs.declared.stream_refusal.StreamRefusal.{StreamRefusal}
use Rattle.cql_tenants.specs.declared.stream_refusal.StreamRefusal.TheVariants.{UnknownStream, WrongRow}
use Rattle.cql_tenants.specs.declared.stream.Stream.{Stream}
use Rattle.cql_tenants.specs.Refusal.{clock_refusal}

abbrev pub time_refused : Stream → ℕ → Option StreamRefusal
time_refused s at = option_map clock_refusal (time_fault s.clock at)

abbrev pub row_refused : Stream → ℕ → List Value → Option StreamRefusal
row_refused s at row = if is_row_of s.schema row then time_refused s at else Some WrongRow

-- a row with its time comes to a stream, if there is one
abbrev pub put_refused : Option Stream → ℕ → List Value → Option StreamRefusal
put_refused None at row = Some UnknownStream
put_refused (Some s) at row = row_refused s at row

-- a heartbeat comes to a stream, if there is one
abbrev pub beat_refused : Option Stream → ℕ → Option StreamRefusal
beat_refused None at = Some UnknownStream
beat_refused (Some s) at = time_refused s at

-- a stream takes nothing below a time any more
abbrev pub opens : ℕ → Stream → Stream
opens at s = record s { clock = at }
