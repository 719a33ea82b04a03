-- What the lines of a session ask.
use Rattle.std.specs.Prelude.{ℕ, List, Option, None, Result, Err}
use Rattle.cql_core.specs.declared.command.Command.{Command}
use Rattle.cql_tenants.specs.declared.tenants.Tenant.{Tenant}
use Rattle.cql_asked.specs.declared.fault.LineFault.{LineFault}
use Rattle.cql_asked.specs.declared.fault.LineFault.TheVariants.{BadLine}
use Rattle.cql_asked.specs.Command.{command_of, own_command}
use Rattle.cql_asked.specs.Login.{login_of}
use Rattle.cql_lines.specs.Text.{LineText, whole, too_long}

-- the index of the tenant that the first line logs in, if it is a login
abbrev pub logged_in : List Tenant → LineText → Option ℕ
logged_in table too_long = None
logged_in table (whole bytes) = login_of table bytes

-- what a later line asks: 10 where it is too long; else the fault of its command, or 12 where it names a tenant
abbrev pub request_of : LineText → Result Command LineFault
request_of too_long = Err BadLine
request_of (whole bytes) = own_command (command_of bytes)
