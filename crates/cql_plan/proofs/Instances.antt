-- The laws of the typing at a query worked by hand: a premise that it doesn't meet is refused here.
use Rattle.std.proofs.Common.{◌≡◌, ℕ, Bool, true, false, List, [], ◌∷◌, Option, Some, None, Ok, Err, refl, ap, sym}
use Rattle.std.specs.Prelude.{◌≢◌}
use Rattle.cql_value.specs.declared.schema.ColumnType.TheVariants.{Number}
use Rattle.cql_value.specs.Schema.{are_distinct}
use Rattle.cql_syntax.specs.declared.syntax.Input.{Input as WrittenInput}
use Rattle.cql_syntax.specs.declared.syntax.Query.{Query}
use Rattle.cql_syntax.specs.declared.syntax.Selection.TheVariants as selection
use Rattle.cql_syntax.specs.declared.syntax.StreamOperator.TheVariants as stream
use Rattle.cql_syntax.specs.declared.syntax.WrittenWindow.TheVariants.{Unbounded}
use Rattle.cql_window.specs.declared.window.Window.TheVariants.{All as all}
use Rattle.cql_plan.specs.declared.condition.Condition.TheVariants.{Always}
use Rattle.cql_plan.specs.declared.expr.Expr.TheVariants as expr
use Rattle.cql_plan.specs.declared.node.Item.TheVariants as item
use Rattle.cql_plan.specs.declared.node.Node.TheVariants as node
use Rattle.cql_plan.specs.declared.plan.Input.{Input}
use Rattle.cql_plan.specs.declared.plan.OutputKind.TheVariants.{Rstream}
use Rattle.cql_plan.specs.declared.plan.Planned.{Planned}
use Rattle.cql_plan.specs.Ports.{IsPlain}
use Rattle.cql_plan.specs.declared.error.PlanFault.TheVariants.{AmbiguousColumn}
use Rattle.cql_plan.specs.declared.source.BlockInput.{BlockInput}
use Rattle.cql_plan.specs.Outcome.{each}
use Rattle.cql_plan.specs.VisibleColumns.{VisibleColumns}
use Rattle.cql_plan.specs.Columns.{column_named}
use Rattle.cql_plan.specs.Sources.{SchemaLookup, window_of, source_of, are_apart, joined_row}
use Rattle.cql_plan.specs.Typing.{where_of, all_items, items_of, is_grouped, body_of, block_of, with_second, typing}
use Rattle.cql_plan.specs.PortsRead.{IsPlainQuery, IsPlainLaw}
use Rattle.cql_plan.specs.Law.{AreSchemas, IsQualifiedLaw}

abbrev s : List ℕ
s = 115 ∷ []

abbrev v : List ℕ
v = 118 ∷ []

-- of every stream one column of numbers is seen
abbrev seen : VisibleColumns
seen = record { schema = record { name = v; kind = Number } ∷ []; projection = 0 ∷ [] }

abbrev readable : SchemaLookup
readable = λ owner stream. Some seen

abbrev is_distinct : Option VisibleColumns → Bool
is_distinct None = true
is_distinct (Some other) = are_distinct other.schema

are_schemas : AreSchemas readable
are_schemas owner stream other is = sym (ap is_distinct is)

-- SELECT * FROM s [UNBOUNDED]
abbrev written : WrittenInput
written = record { stream = record { qualifier = None; name = s }; window = Unbounded; alias = None }

abbrev query : Query
query = record {
  output = Some stream.Rstream;
  first = record { distinct = false; selection = selection.All; inputs = written ∷ []; condition = None; groups = [] };
  second = None;
}

abbrev input : Input
input = record { owner = None; stream = s; window = all; projection = 0 ∷ [] }

abbrev source : BlockInput
source = record { input = input; alias = s; fields = record { alias = s; name = v; kind = Number } ∷ [] }

abbrev plan : Planned
plan = record {
  inputs = input ∷ [];
  first = record {
    join = node.Join (record { ports = (Number ∷ []) ∷ []; condition = Always });
    shape = node.Shape (record { columns = Number ∷ []; items = item.Value (expr.Column 0) ∷ []; groups = [] });
    distinct = None;
  };
  combined = None;
  output = Rstream;
}

is_plain_query : IsPlainQuery query
is_plain_query = record { input = written; inputs = refl; selection = refl; distinct = refl; condition = refl; groups = refl; second = refl }

reads : each (source_of readable) (written ∷ []) ≡ Ok (source ∷ [])
unfolding each source_of window_of
reads = refl

qualified_law_at : IsQualifiedLaw → column_named (Some s) v (joined_row (source ∷ [])) ≢ Err AmbiguousColumn
unfolding are_apart
qualified_law_at law = law readable (written ∷ []) (source ∷ []) s v are_schemas reads refl

is_typed : typing readable query ≡ Ok plan
unfolding each source_of window_of are_apart joined_row where_of all_items items_of is_grouped body_of block_of with_second typing
is_typed = refl

plain_law_at : IsPlainLaw → IsPlain plan
plain_law_at law = law readable query plan is_plain_query is_typed
