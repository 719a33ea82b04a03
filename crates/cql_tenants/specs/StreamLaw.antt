-- The law of things under names.
use Rattle.std.specs.Prelude.{◌≡◌, ℕ, List, Some, slice_get}
use Rattle.cql_tenants.specs.Named.{Named, find_named, index_of}
use Rattle.cql_tenants.specs.declared.stream.Stream.{Stream}

-- what stands at a name's index is what a look-up of the name finds, under that name
abbrev pub IsIndexLaw : Type 0
IsIndexLaw =
    (streams : List (Named Stream)) (name : List ℕ) (index : ℕ) → index_of streams name ≡ Some index
    → (s : Named Stream) × (slice_get streams index ≡ Some s) × (find_named streams name ≡ Some s.item) × (s.name ≡ name)
