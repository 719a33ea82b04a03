-- What the items of a shape ask of columns, and how their values are read from what is kept.
use Rattle.std.specs.Prelude.{◌≡◌, ◌≢◌, ◌⊎◌, ◌++◌, ℕ, pos, List, [], ◌∷◌, Option, Some, None, slice_get, map}
use Rattle.std.specs.List.{AllByRecursion, AllZip, Contains}
use Rattle.cql_value.specs.declared.value.Value.{Value}
use Rattle.cql_value.specs.declared.value.Value.TheVariants.{Number}
use Rattle.cql_bag.specs.Bag.{Counts}
use Rattle.cql_plan.specs.declared.expr.Expr.{Expr, fold-Expr}
use Rattle.cql_plan.specs.declared.expr.Expr.TheOpen.{Expr-F}
use Rattle.cql_plan.specs.declared.node.Item.{Item}
use Rattle.cql_plan.specs.declared.node.Item.TheVariants as i
use Rattle.cql_plan.specs.Expr.{within}
use Rattle.cql_algebra.specs.Shape.{all_of}
use Rattle.cql_algebra.specs.GroupChanges.{first_of, last_of}
use Rattle.cql_groups.specs.Keyed.{IsKeyed}
use Rattle.cql_groups.specs.declared.accumulator.AccumulatorKind.{AccumulatorKind}
use Rattle.cql_groups.specs.declared.accumulator.AccumulatorKind.TheVariants as ask
use Rattle.cql_groups.specs.declared.accumulator.Accumulator.{Accumulator}
use Rattle.cql_groups.specs.declared.accumulator.Accumulator.TheVariants as part
use Rattle.cql_groups.specs.declared.layout.ItemSource.{ItemSource}
use Rattle.cql_groups.specs.declared.layout.ItemSource.TheVariants as s
use Rattle.cql_groups.specs.declared.layout.Layout.{Layout}

-- ---- what items ask

-- the index of a column; 0 of another expression
abbrev pub index_step : Expr-F ℕ → ℕ
index_step (Expr-F.Column at) = at
index_step (Expr-F.Constant v) = 0
index_step (Expr-F.Binary op a b) = 0

unfoldable pub column_in : Expr → ℕ
column_in = fold-Expr ℕ index_step

-- SUM asks the sum of its column, MIN and MAX its values
abbrev pub asks : Item → Option AccumulatorKind
asks (i.Value x) = None
asks i.Count = None
asks (i.Sum at) = Some (ask.Sum at)
asks (i.Min at) = Some (ask.Values at)
asks (i.Max at) = Some (ask.Values at)

abbrev pub IsOther : AccumulatorKind → AccumulatorKind → Type 0
IsOther one other = other ≢ one

-- one more is asked, which may be asked already
abbrev pub IsGrownBy : Option AccumulatorKind → List AccumulatorKind → List AccumulatorKind → Type 0
IsGrownBy None before after = after ≡ before
IsGrownBy (Some one) before after = (after ≡ before) ⊎ ((after ≡ before ++ one ∷ []) × AllByRecursion (IsOther one) before)

-- no two are the same
abbrev pub AreApart : List AccumulatorKind → Type 0
AreApart [] = Unit {0}
AreApart (x ∷ xs) = AllByRecursion (λ y. y ≢ x) xs × AreApart xs

-- some item asks it
abbrev pub IsAskedIn : List Item → AccumulatorKind → Type 0
IsAskedIn items one = (x : Item) × Contains items x × (asks x ≡ Some one)

-- the source of an item: the index of its column, or that of what it asks
abbrev pub IsSourceOf : List AccumulatorKind → Item → ItemSource → Type 0
IsSourceOf asked (i.Value x) (s.Column at) = at ≡ column_in x
IsSourceOf asked i.Count s.Count = Unit {0}
IsSourceOf asked (i.Sum at) (s.Sum index) = slice_get asked index ≡ asks (i.Sum at)
IsSourceOf asked (i.Min at) (s.Least index) = slice_get asked index ≡ asks (i.Min at)
IsSourceOf asked (i.Max at) (s.Greatest index) = slice_get asked index ≡ asks (i.Max at)
IsSourceOf asked x source = ⊥

-- the sources of some of the items, and what these ask: nothing twice, and nothing that no item asks
pub record AreSources (items model : List Item) (asked : List AccumulatorKind) (sources : List ItemSource) : Type 0 where
  pub each : AllZip (IsSourceOf asked) model sources
  pub wanted : AllByRecursion (IsAskedIn items) asked
  pub apart : AreApart asked

pub record IsLayout (l : Layout) : Type 0 where
  pub keyed : IsKeyed l.shape
  pub sources : AreSources l.shape.items l.shape.items l.asked l.sources

-- ---- the values

-- of a part the sum, if it is one and in i64
abbrev pub sum_in : Option Accumulator → Option Value
sum_in (Some (part.Sum at sum)) = within sum
sum_in _ = None

-- of a part the values, if it is of them
abbrev pub values_in : Option Accumulator → Counts
values_in (Some (part.Values at values)) = values
values_in _ = []

-- the item's value, by how many rows there are, one row of the key and what is kept
abbrev pub source_value : ℕ → List Value → List Accumulator → ItemSource → Option Value
source_value size sample parts (s.Column at) = slice_get sample at
source_value size sample parts s.Count = Some (Number (pos size))
source_value size sample parts (s.Sum index) = sum_in (slice_get parts index)
source_value size sample parts (s.Least index) = first_of (values_in (slice_get parts index))
source_value size sample parts (s.Greatest index) = last_of (values_in (slice_get parts index))

abbrev pub row_of_parts : List ItemSource → ℕ → List Value → List Accumulator → Option (List Value)
row_of_parts sources size sample parts = all_of (map (source_value size sample parts) sources)
