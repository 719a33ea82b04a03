-- Items that are the columns of a row, each at its index.
use Rattle.std.proofs.Common.{◌≡◌, ℕ, suc, ◌+◌, ◌<◌, ◌≤◌, List, [], ◌∷◌, length, get_or, drop, drop-cons, sym, ap, ◌∙◌, arith}
use Rattle.std.proofs.lemmas.List.{drop_all, append-nil}
use Rattle.cql_value.specs.declared.schema.ColumnType.{ColumnType}
use Rattle.cql_value.specs.declared.schema.ColumnType.TheVariants.{Number}
use Rattle.cql_plan.specs.declared.expr.Expr.TheVariants.{Column as column}
use Rattle.cql_plan.specs.declared.node.Item.{Item}
use Rattle.cql_plan.specs.declared.node.Item.TheVariants.{Value as value}
use Rattle.cql_plan.specs.Fit.{all_columns}
use Rattle.cql_plan.specs.Ports.{columns_from}

-- one more column before the rest
pub next_shown : (items : List Item) (columns : List ColumnType) (i : ℕ) (item : Item) → i < length items → length items ≡ length columns → item ≡ get_or items i item → item ≡ value (column i)
    → drop (i + 1) items ≡ columns_from (i + 1) (drop (i + 1) columns) → drop i items ≡ columns_from i (drop i columns)
next_shown items columns i item lt same is shown rest =
    let e : suc i ≡ i + 1 = omega arith in
    drop-cons items i item lt ∙ (λ j. (sym is ∙ shown) j ∷ (ap (λ n. drop n items) e ∙ rest ∙ sym (ap (λ n. columns_from n (drop n columns)) e)) j)
    ∙ sym (ap (columns_from i) (drop-cons columns i Number (omega (arith, lt, same))))

-- none is left
pub no_shown : (items : List Item) (columns : List ColumnType) (i : ℕ) → length items ≡ length columns → length items ≤ i → drop i items ≡ columns_from i (drop i columns)
no_shown items columns i same le = drop_all i items le ∙ sym (ap (columns_from i) (drop_all i columns (omega (arith, same, le))))

-- a port alone has the columns of the joined row
pub one_port : (ports : List (List ColumnType)) (columns : List ColumnType) → length ports ≡ 1 → all_columns ports ≡ columns → ports ≡ columns ∷ []
one_port [] columns one is = absurd (omega (arith, one))
one_port (c ∷ []) columns one is = ap (λ l. l ∷ []) (sym (append-nil c) ∙ is)
one_port (c ∷ d ∷ cs) columns one is = absurd (omega (arith, one))

-- what a join gives goes into a shape
pub fed_columns : (columns joined : List ColumnType) → columns ∷ [] ≡ joined ∷ [] → columns ≡ joined
fed_columns columns joined same = cc
