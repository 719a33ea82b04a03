-- What a line of a script asks.
use Rattle.std.specs.Prelude.{ℕ, List, Option, Some, None, option_map, ok_or, Result, Ok, Err}
use Rattle.cql_core.specs.declared.command.Command.{Command}
use Rattle.cql_tenants.specs.declared.tenants.Tenant.{Tenant}
use Rattle.cql_tenants.specs.Tenants.{index_of}
use Rattle.cql_asked.specs.declared.fault.LineFault.{LineFault}
use Rattle.cql_asked.specs.declared.fault.LineFault.TheVariants.{BadLine, BadKey, UnknownTenant}
use Rattle.cql_asked.specs.Command.{command_of}
use Rattle.cql_lines.specs.Text.{LineText, whole, too_long}

-- a command of the tenant at an index of the table; or a fault
abbrev pub Request : Type 0
Request = Result (ℕ × Command) LineFault

-- a command, with the tenant that its line names, if it names one
abbrev pub addressed_to : List Tenant → Option (List ℕ) → Command → Request
addressed_to table None command = Err BadKey
addressed_to table (Some name) command = ok_or (option_map (λ index. (index, command)) (index_of table name)) UnknownTenant

abbrev pub request_by : List Tenant → Result (Option (List ℕ) × Command) LineFault → Request
request_by table (Ok said) = addressed_to table said.0 said.1
request_by table (Err fault) = Err fault

-- what a line asks: 10 where it is too long; else the fault of its command, 12 where it names no tenant, 31 where that isn't in the table
abbrev pub request_of : List Tenant → LineText → Request
request_of table too_long = Err BadLine
request_of table (whole bytes) = request_by table (command_of bytes)
