-- What readers see of their streams, some of them together.
use Rattle.std.specs.Prelude.{ℕ, List, [], get_or, false}
use Rattle.cql_tenants.specs.declared.grant.ShownStream.{ShownStream}
use Rattle.cql_tenants.specs.Granted.{Grant}

abbrev pub no_shown : ShownStream
no_shown = record { stream = []; schema = []; projection = []; named = false }

-- that at an index of those that stand together
abbrev pub shown_in : List ShownStream → ℕ → ShownStream
shown_in pack at = get_or pack at no_shown

-- what the reader sees of a grant
abbrev pub shown_of : Grant → ShownStream
shown_of g = record { stream = g.stream; schema = g.schema; projection = g.projection; named = g.named }
