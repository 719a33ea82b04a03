-- The order of a stream's times.
use Rattle.std.specs.Prelude.{ℕ, ◌-◌, ◌^◌, Option, Some, None, nat_lt, if◌then◌else◌}
use Rattle.cql_tenants.specs.declared.clock.ClockError.{ClockError}
use Rattle.cql_tenants.specs.declared.clock.ClockError.TheVariants.{AtTooLarge, Late}

-- the greatest instant
abbrev pub greatest : ℕ
greatest = 2 ^ 62 - 1

-- why a stream that takes nothing below `opened` doesn't take a time
abbrev pub time_fault : ℕ → ℕ → Option ClockError
time_fault opened at = if nat_lt greatest at then Some AtTooLarge else (if nat_lt at opened then Some Late else None)
