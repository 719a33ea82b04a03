-- What the code takes out of a line.
use Rattle.cql_journal.specs.Record.{Entry}
use Rattle.cql_journal.specs.declared.record.Record.{Record}

-- what a record says
abbrev pub entry_of : Record → Entry
entry_of r = record { tenant = r.tenant.now; line = r.line.now }
