use Rattle.std.proofs.Common.{◌<◌, nat_lt, sym, subst, arith}
use Rattle.std.proofs.lemmas.Bool.Decides.{nat_tests}
use Rattle.std.specs.Prelude.{IsTrue, ℕ}
use Rattle.cql_groups.specs.Keyed.{IsKeyedItem}
use Rattle.cql_groups.proofs.Keyed.{has_column}
use Rattle.cql_groups.proofs.group_shape.is_keyed_item.Goals as goal

below : (m n : ℕ) → IsTrue (nat_lt m n) → m < n
below m n h = grind (arith, nat_tests)

pub returns-in-Min : goal.returns-in-Min
returns-in-Min c = λ h types len. subst (IsKeyedItem types c.args.groups.now) (sym c.in-Min.is) (has_column types c.in-Min.column (subst (λ n. c.in-Min.column < n) (sym len) (below c.in-Min.column c.args.columns h)))

pub returns-in-Max : goal.returns-in-Max
returns-in-Max c = λ h types len. subst (IsKeyedItem types c.args.groups.now) (sym c.in-Max.is) (has_column types c.in-Max.column (subst (λ n. c.in-Max.column < n) (sym len) (below c.in-Max.column c.args.columns h)))
