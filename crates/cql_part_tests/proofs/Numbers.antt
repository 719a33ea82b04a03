-- Operators over ports of one column of numbers, or of two: what a push asks, and what stays.
use Rattle.std.proofs.Common.{◌≡◌, ℕ, zero, suc, ◌<◌, List, replicate, length, Bool, true, sym, ap, ◌∙◌, subst, arith}
use Rattle.std.proofs.lemmas.List.{length-set, length-replicate}
use Rattle.cql_value.specs.Schema.{HasTypes}
use Rattle.cql_value.specs.declared.value.Value.{Value}
use Rattle.cql_value.specs.declared.schema.ColumnType.{ColumnType}
use Rattle.cql_bag.specs.declared.change.Change.{Change}
use Rattle.cql_plan.specs.declared.node.Node.{Node}
use Rattle.cql_ops.specs.Clauses.{CanPush, Emits}
use Rattle.cql_ops.specs.OperatorModel.{OperatorModel, started, pushed, columns_at}
use Rattle.cql_part_tests.specs.Numbers.{columns_of, IsOver, HasOver, IsComing}

at_each : (columns : List ColumnType) (n port : ℕ) (row : List Value) → port < n → HasTypes columns row → HasTypes (columns_at (replicate n columns) port) row
at_each columns zero port row lt is = absurd (omega arith)
at_each columns (suc n) zero row lt is = is
at_each columns (suc n) (suc port) row lt is = at_each columns n port row (omega arith) is

pub can_push : (n : ℕ) (wide : Bool) (s : OperatorModel) (port : ℕ) (c : Change) → HasOver n wide s → IsComing wide c → port < n → CanPush s port c
can_push n wide s port c has is lt = record {
  port = subst (λ n. port < n) (sym has.many) lt;
  columns = subst (λ l. HasTypes (columns_at l port) c.row) (sym has.columns) (at_each (columns_of wide) n port c.row lt is.types);
  there = λ e. absurd (let t : c.plus ≡ true = is.comes in cc);
}

pub has_pushed : (n : ℕ) (wide : Bool) (s after : OperatorModel) (port : ℕ) (c : Change) → HasOver n wide s → after ≡ pushed port c s → HasOver n wide after
has_pushed n wide s after port c has e = subst (HasOver n wide) (sym e) (record { columns = has.columns; many = length-set s.ports port _ ∙ has.many })

pub has_started : (n : ℕ) (wide : Bool) (node : Node) (limit : ℕ) (s : OperatorModel) → IsOver n wide node → s ≡ started node limit → HasOver n wide s
has_started n wide node limit s is e = subst (HasOver n wide) (sym e) (record { columns = is; many = length-replicate _ _ ∙ (ap length is ∙ length-replicate n (columns_of wide)) })

pub has_emitted : (n : ℕ) (wide : Bool) (s after : OperatorModel) (before out : List Change) → HasOver n wide s → Emits s after before out → HasOver n wide after
has_emitted n wide s after before out has told = subst (HasOver n wide) (sym told.2.same) (record { columns = has.columns; many = has.many })
