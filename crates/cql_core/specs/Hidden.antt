-- Values that no grant to a tenant shows.
use Rattle.std.specs.Prelude.{◌≡◌, ◌⊎◌, ℕ, false, ◌==◌, List, [], ◌∷◌}
use Rattle.cql_value.specs.declared.value.Value.{Value}
use Rattle.cql_window.specs.Projection.{projected}
use Rattle.cql_tenants.specs.declared.namespace.Namespace.{Namespace}
use Rattle.cql_tenants.specs.declared.tenants.Tenant.{Tenant}
use Rattle.cql_tenants.specs.Namespace.{nothing_made}
use Rattle.cql_core.specs.declared.command.Command.{Command}
use Rattle.cql_core.specs.declared.command.Command.TheVariants.{Put}
use Rattle.cql_core.specs.StreamId.{stream_id_of, projection_in}
use Rattle.cql_core.specs.Language.{Language, IsLanguage}
use Rattle.cql_core.specs.Directory.{directory_after, reply_on_streams}
use Rattle.cql_core.specs.Machine.{opening}
use Rattle.cql_core.specs.Headline.{Event, sent, told_to}
use Rattle.cql_core.specs.Legal.{IsLegal}
use Rattle.cql_core.specs.HeadlineLaw.{replies_to}
use Rattle.cql_tenants.specs.Directory.{Put as put}

-- two puts at one time on one stream that are told the same, and whose rows have the same values in the columns that another tenant sees
pub record HiddenPut (tenant : ℕ) (namespaces : List Namespace) (user : ℕ) (c d : Command) : Type 0 where
  pub stream : List ℕ
  pub at : ℕ
  pub row : List Value
  pub other : List Value
  pub first : c ≡ Put stream at row
  pub second : d ≡ Put stream at other
  pub away : (user == tenant) ≡ false
  pub told : reply_on_streams namespaces user (put stream at row) ≡ reply_on_streams namespaces user (put stream at other)
  pub seen : projected row (projection_in namespaces tenant (stream_id_of user stream)) ≡ projected other (projection_in namespaces tenant (stream_id_of user stream))

-- two commands that the tenant can't tell apart
abbrev pub IsHiddenIn : ℕ → List Namespace → ℕ → Command → Command → Type 0
IsHiddenIn tenant namespaces user c d = (c ≡ d) ⊎ HiddenPut tenant namespaces user c d

-- so it is with each command of two runs, by the grants before it
abbrev pub AreHiddenIn : ℕ → List Namespace → List (ℕ × Command) → List (ℕ × Command) → Type 0
AreHiddenIn tenant namespaces [] [] = Unit {0}
AreHiddenIn tenant namespaces [] (other ∷ others) = ⊥
AreHiddenIn tenant namespaces (call ∷ calls) [] = ⊥
AreHiddenIn tenant namespaces (call ∷ calls) (other ∷ others) =
    ((call.0 ≡ other.0) × IsHiddenIn tenant namespaces call.0 call.1 other.1) × AreHiddenIn tenant (directory_after namespaces call.0 call.1) calls others

-- two runs that the tenant can't tell apart give it the same replies, and two histories the same of what they were told
pub record HiddenLaw (language : Language) : Type 0 where
  pub runs : (table : List Tenant) (tenant : ℕ) (calls others : List (ℕ × Command))
      → AreHiddenIn tenant (nothing_made table) calls others → replies_to language tenant (opening table) calls ≡ replies_to language tenant (opening table) others
  pub histories : (table : List Tenant) (tenant : ℕ) (history other : List Event) → IsLegal language (opening table) history → IsLegal language (opening table) other
      → AreHiddenIn tenant (nothing_made table) (sent history) (sent other) → told_to tenant history ≡ told_to tenant other

-- so it is for each language
abbrev pub IsHiddenLaw : Type 0
IsHiddenLaw = (language : Language) → IsLanguage language → HiddenLaw language
