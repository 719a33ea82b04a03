-- The directory after many commands is what the accepted ones among them make.
use Rattle.std.specs.Prelude.{◌≡◌, ◌<◌, ℕ, List, [], ◌∷◌, length, Some, is_none, if◌then◌else◌}
use Rattle.std.specs.List.{AllByRecursion}
use Rattle.cql_tenants.specs.declared.tenants.Tenant.{Tenant}
use Rattle.cql_tenants.specs.Named.{index_of}
use Rattle.cql_window.specs.Projection.{projected}
use Rattle.cql_tenants.specs.Namespace.{Namespace, Stream, Grant, nothing_made, namespace_at, stream_at, grant_of}
use Rattle.cql_tenants.specs.Directory.{StreamCommand, refused, done, streams_after}

abbrev pub directory_from : List Namespace → List (ℕ × StreamCommand) → List Namespace
directory_from namespaces [] = namespaces
directory_from namespaces (call ∷ calls) = directory_from (streams_after namespaces call.0 call.1) calls

-- the calls that are accepted, each from the directory before it
abbrev pub accepted : List Namespace → List (ℕ × StreamCommand) → List (ℕ × StreamCommand)
accepted namespaces [] = []
accepted namespaces (call ∷ calls) = if is_none (refused namespaces call.0 call.1) then call ∷ accepted (done namespaces call.0 call.1) calls else accepted namespaces calls

-- what calls make where none is refused
abbrev pub all_done : List Namespace → List (ℕ × StreamCommand) → List Namespace
all_done namespaces [] = namespaces
all_done namespaces (call ∷ calls) = all_done (done namespaces call.0 call.1) calls

abbrev pub IsDirectoryLaw : Type 0
IsDirectoryLaw = (namespaces : List Namespace) (calls : List (ℕ × StreamCommand)) → directory_from namespaces calls ≡ all_done namespaces (accepted namespaces calls)

-- the grant shows the stream's columns of its projection
pub record IsGrantOf (g : Grant) (s : Stream) : Type 0 where
  pub within : AllByRecursion (λ column. column < length s.schema) g.projection
  pub schema : g.schema ≡ projected s.schema g.projection

-- the grant's stream stands at its index among its owner's
abbrev pub IsIndexed : List Namespace → Grant → Type 0
IsIndexed namespaces g = index_of (namespace_at namespaces g.owner).streams g.stream ≡ Some g.index

abbrev pub AreIndexed : List Namespace → Type 0
AreIndexed namespaces = (index : ℕ) → AllByRecursion (IsIndexed namespaces) (namespace_at namespaces index).granted

-- each grant that a tenant has is of a stream that is there, and shows its columns of the grant's projection
abbrev pub AreOfStreams : List Namespace → Type 0
AreOfStreams namespaces =
    (index owner : ℕ) (name : List ℕ) (g : Grant) → grant_of (namespace_at namespaces index) owner name ≡ Some g
    → (s : Stream) × (stream_at namespaces owner name ≡ Some s) × IsGrantOf g s

-- what holds of the namespaces of a directory
pub record AreNamespaces (namespaces : List Namespace) : Type 0 where
  pub grants : AreOfStreams namespaces
  pub indices : AreIndexed namespaces

abbrev pub IsGrantLaw : Type 0
IsGrantLaw = (table : List Tenant) (calls : List (ℕ × StreamCommand)) → AreOfStreams (directory_from (nothing_made table) calls)
