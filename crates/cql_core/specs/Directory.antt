-- What the commands on streams are told, and the directory after a command: a fold in which no query occurs.
use Rattle.std.specs.Prelude.{ℕ, List}
use Rattle.cql_tenants.specs.declared.namespace.Namespace.{Namespace}
use Rattle.cql_tenants.specs.Directory.{StreamCommand, Make as make, Share as share, Revoke as revoke, Put as put, Beat as beat, refused_at}
use Rattle.cql_tenants.specs.Directory.{streams_after}
use Rattle.cql_core.specs.declared.command.Command.{Command}
use Rattle.cql_core.specs.declared.command.Command.TheVariants.{Stream, Grant, Revoke, Put, Beat, Query, Fetch, Ack, Drop, List as Lists}
use Rattle.cql_core.specs.Columns.{schema_of}
use Rattle.cql_core.specs.ReplyModel.{ReplyModel, done_unless}

-- what a command on streams of a tenant of the table is told
abbrev pub reply_on_streams : List Namespace → ℕ → StreamCommand → ReplyModel
reply_on_streams namespaces user command = done_unless (refused_at namespaces user command)

abbrev pub directory_after : List Namespace → ℕ → Command → List Namespace
directory_after namespaces user (Stream name columns) = streams_after namespaces user (make name (schema_of columns))
directory_after namespaces user (Grant stream to columns) = streams_after namespaces user (share stream to columns)
directory_after namespaces user (Revoke stream to) = streams_after namespaces user (revoke stream to)
directory_after namespaces user (Put stream at row) = streams_after namespaces user (put stream at row)
directory_after namespaces user (Beat stream at) = streams_after namespaces user (beat stream at)
directory_after namespaces user (Query name text) = namespaces
directory_after namespaces user (Fetch name until) = namespaces
directory_after namespaces user (Ack name to) = namespaces
directory_after namespaces user (Drop name) = namespaces
directory_after namespaces user Lists = namespaces
