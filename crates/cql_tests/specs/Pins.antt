-- What the pins of the tests are made of: plans that show all rows of one input of one number, and rows of one number.
use Rattle.std.specs.Prelude.{◌≡◌, ℕ, ◌<◌, ◌^◌, List, [], ◌∷◌, None}
use Rattle.std.specs.List.{AllByRecursion}
use Rattle.cql_value.specs.declared.schema.ColumnType.{ColumnType}
use Rattle.cql_value.specs.declared.schema.ColumnType.TheVariants.{Number}
use Rattle.cql_value.specs.Element.{Element}
use Rattle.cql_window.specs.Window.{AreAscending}
use Rattle.cql_plan.specs.declared.condition.Condition.TheVariants.{Always}
use Rattle.cql_plan.specs.declared.node.Node.TheVariants as node
use Rattle.cql_plan.specs.declared.plan.Branch.{Branch}
use Rattle.cql_plan.specs.declared.plan.Input.{Input}
use Rattle.cql_plan.specs.declared.plan.Planned.{Planned}
use Rattle.cql_plan.specs.Ports.{columns_from}
use Rattle.cql_eval.specs.Pin.{AreOf}

-- the columns of the one input
abbrev pub one_number : List ColumnType
one_number = Number ∷ []

-- their projection of the whole row
abbrev pub one_column : List ℕ
one_column = 0 ∷ []

-- the block that shows all its rows
abbrev pub whole : Branch
whole = record {
  join = node.Join (record { ports = one_number ∷ []; condition = Always });
  shape = node.Shape (record { columns = one_number; items = columns_from 0 one_number; groups = [] });
  distinct = None;
}

-- this block alone, over an input of which all columns are seen
pub record IsWhole (input : Input) (p : Planned) : Type 0 where
  pub one : p.inputs ≡ input ∷ []
  pub projection : input.projection ≡ one_column
  pub first : p.first ≡ whole
  pub combined : p.combined ≡ None

-- rows of one number, in order of their times
pub record AreFit (xs : List Element) : Type 0 where
  pub ascending : AreAscending xs
  pub instants : AllByRecursion (λ x. x.at < 2 ^ 62) xs
  pub typed : AreOf one_number xs
