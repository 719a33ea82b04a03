-- What a plan reads: its inputs beside the streams that can be read, and queries whose plans show what one input's window holds.
use Rattle.std.specs.Prelude.{◌≡◌, ℕ, List, [], ◌∷◌, false, Option, Some, None, Ok}
use Rattle.cql_value.specs.declared.schema.ColumnType.{ColumnType}
use Rattle.cql_value.specs.Schema.{types_of}
use Rattle.cql_syntax.specs.declared.syntax.Input.{Input as WrittenInput}
use Rattle.cql_syntax.specs.declared.syntax.Query.{Query}
use Rattle.cql_syntax.specs.declared.syntax.Selection.TheVariants as selection
use Rattle.cql_plan.specs.declared.plan.Input.{Input}
use Rattle.cql_plan.specs.declared.plan.Planned.{Planned}
use Rattle.cql_plan.specs.Ports.{ports, IsPlain}
use Rattle.cql_plan.specs.VisibleColumns.{VisibleColumns}
use Rattle.cql_plan.specs.Sources.{SchemaLookup}
use Rattle.cql_plan.specs.Typing.{typing}

-- of a stream that can be read columns of these types are seen, through this projection
abbrev pub IsReadAs : Option VisibleColumns → List ℕ → List ColumnType → Type 0
IsReadAs None projection types = ⊥
IsReadAs (Some seen) projection types = (types ≡ types_of seen.schema) × (projection ≡ seen.projection)

-- each input is a stream that can be read, with the projection of the columns that are seen, and its port has the types of these
abbrev pub AreReadAs : SchemaLookup → List Input → List (List ColumnType) → Type 0
AreReadAs readable [] [] = Unit {0}
AreReadAs readable [] (c ∷ cs) = ⊥
AreReadAs readable (i ∷ is) [] = ⊥
AreReadAs readable (i ∷ is) (c ∷ cs) = IsReadAs (readable i.owner i.stream) i.projection c × AreReadAs readable is cs

-- what is typed reads streams that can be read, each by a port of its own
abbrev pub IsPortsLaw : Type 0
IsPortsLaw = (readable : SchemaLookup) (query : Query) (plan : Planned) → typing readable query ≡ Ok plan → AreReadAs readable plan.inputs (ports plan)

-- ---- queries that show what one input's window holds

-- a query of one block over one input, which says `*` and has no DISTINCT, WHERE and GROUP BY
pub record IsPlainQuery (q : Query) : Type 0 where
  pub input : WrittenInput
  pub inputs : q.first.inputs ≡ input ∷ []
  pub selection : q.first.selection ≡ selection.All
  pub distinct : q.first.distinct ≡ false
  pub condition : q.first.condition ≡ None
  pub groups : q.first.groups ≡ []
  pub second : q.second ≡ None

-- its plan shows all columns of all rows of its input
abbrev pub IsPlainLaw : Type 0
IsPlainLaw = (readable : SchemaLookup) (query : Query) (plan : Planned) → IsPlainQuery query → typing readable query ≡ Ok plan → IsPlain plan
