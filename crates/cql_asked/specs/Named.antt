-- The bytes of a name; for private clauses.
use Rattle.std.specs.Prelude.{ℕ, List}
use Rattle.cql_asked.specs.declared.named.NameBytes.{NameBytes}
use Rattle.cql_asked.specs.declared.named.NameBytes.TheVariants.{Line, Copy}

abbrev pub kept_bytes : NameBytes → List ℕ
kept_bytes (Line text) = text.now
kept_bytes (Copy text) = text
