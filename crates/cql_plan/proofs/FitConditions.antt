-- Conditions that typing gives compare only what has one type.
use Rattle.std.proofs.Common.{◌≡◌, List, Bool, true, ◌&&◌, Option, Some, None, Ok, sym, ap, ◌∙◌, subst}
use Rattle.cql_value.specs.declared.schema.ColumnType.{ColumnType}
use Rattle.cql_syntax.specs.declared.syntax.Comparison.{Comparison}
use Rattle.cql_syntax.specs.declared.syntax.Operand.{Operand as WrittenOperand}
use Rattle.cql_syntax.specs.declared.syntax.Operand.TheVariants as written
use Rattle.cql_syntax.specs.declared.syntax.Condition.{Condition as WrittenCondition, map-Condition as map-Written, roll-Condition as roll-Written}
use Rattle.cql_syntax.specs.declared.syntax.Condition.TheOpen.{Condition-F as Written-F}
use Rattle.cql_syntax.specs.declared.syntax.Condition.TheFolds.{fold-roll-Condition as fold-roll-Written, ind-Condition as ind-Written}
use Rattle.cql_plan.specs.declared.condition.Operand.TheVariants as operand
use Rattle.cql_plan.specs.declared.condition.Condition.{Condition}
use Rattle.cql_plan.specs.declared.condition.Condition.TheOpen.{Condition-F}
use Rattle.cql_plan.specs.declared.condition.Condition.TheFolds.{fold-Condition, fold-roll-Condition}
use Rattle.cql_plan.specs.declared.condition.Condition.TheVariants as c
use Rattle.cql_plan.specs.declared.condition.Condition.TheVariants.{rolls-Always, rolls-Compare, rolls-Not, rolls-And, rolls-Or}
use Rattle.cql_plan.specs.declared.condition.Operand.{Operand}
use Rattle.cql_plan.specs.declared.row.Field.{Field}
use Rattle.cql_plan.specs.declared.typed.TypedOperand.{TypedOperand}
use Rattle.cql_plan.specs.Outcome.{Outcome, ◌>>=◌, ◌>>◌, unless}
use Rattle.cql_plan.specs.Columns.{kinds_of, column_of}
use Rattle.cql_plan.specs.Typing.{same_kind, value_of, kind_of, operand_of, comparison_of, condition_step, condition_of, where_of}
use Rattle.cql_plan.specs.Fit.{operand_type, are_one_type, condition_step as typed_step, is_typed_condition}
use Rattle.cql_plan.proofs.Each.{passes}
use Rattle.cql_plan.proofs.FitExpressions.{passed, ok_is, column_found, constant_kind}

-- ---- the test, level by level

always_typed : (columns : List ColumnType) → is_typed_condition columns c.Always ≡ true
unfolding is_typed_condition
always_typed columns = ap (fold-Condition Bool (typed_step columns)) (sym rolls-Always) ∙ fold-roll-Condition Bool (typed_step columns) Condition-F.Always

compare_typed : (columns : List ColumnType) (left : Operand) (how : Comparison) (right : Operand) → is_typed_condition columns (c.Compare left how right) ≡ are_one_type (operand_type columns left) (operand_type columns right)
unfolding is_typed_condition
compare_typed columns left how right = ap (fold-Condition Bool (typed_step columns)) (sym (rolls-Compare left how right)) ∙ fold-roll-Condition Bool (typed_step columns) (Condition-F.Compare left how right)

not_typed : (columns : List ColumnType) (part : Condition) → is_typed_condition columns (c.Not part) ≡ is_typed_condition columns part
unfolding is_typed_condition
not_typed columns part = ap (fold-Condition Bool (typed_step columns)) (sym (rolls-Not part)) ∙ fold-roll-Condition Bool (typed_step columns) (Condition-F.Not part)

and_typed : (columns : List ColumnType) (left right : Condition) → is_typed_condition columns (c.And left right) ≡ (is_typed_condition columns left && is_typed_condition columns right)
unfolding is_typed_condition
and_typed columns left right = ap (fold-Condition Bool (typed_step columns)) (sym (rolls-And left right)) ∙ fold-roll-Condition Bool (typed_step columns) (Condition-F.And left right)

or_typed : (columns : List ColumnType) (left right : Condition) → is_typed_condition columns (c.Or left right) ≡ (is_typed_condition columns left && is_typed_condition columns right)
unfolding is_typed_condition
or_typed columns left right = ap (fold-Condition Bool (typed_step columns)) (sym (rolls-Or left right)) ∙ fold-roll-Condition Bool (typed_step columns) (Condition-F.Or left right)

-- both parts pass
two : (a b : Bool) → a ≡ true → b ≡ true → (a && b) ≡ true
two a b p q = ap (λ x. x && b) p ∙ q

-- ---- comparisons

operand_typed : (fields : List Field) (side : WrittenOperand) (t : TypedOperand) → operand_of fields side ≡ Ok t → operand_type (kinds_of fields) t.operand ≡ Some t.kind
unfolding operand_of
operand_typed fields (written.Constant constant) t h =
    subst (λ t. operand_type (kinds_of fields) t.operand ≡ Some t.kind) (ok_is (record { operand = operand.Constant (value_of constant); kind = kind_of constant }) t h) (ap (λ k. Some k) (constant_kind constant))
operand_typed fields (written.Column column) t h =
    let b = passes (column_of fields column) (λ found. Ok (record { operand = operand.Column found.column; kind = found.kind })) t h in
    subst (λ t. operand_type (kinds_of fields) t.operand ≡ Some t.kind) (ok_is (record { operand = operand.Column b.0.column; kind = b.0.kind }) t b.2) (column_found fields column b.0 b.1)

comparison_typed : (fields : List Field) (left : WrittenOperand) (how : Comparison) (right : WrittenOperand) (x : Condition) → comparison_of fields left how right ≡ Ok x → is_typed_condition (kinds_of fields) x ≡ true
unfolding comparison_of
comparison_typed fields left how right x h =
    let columns = kinds_of fields in
    let a = passes (operand_of fields left) (λ l. operand_of fields right >>= (λ r. unless (same_kind l.kind r.kind) _ >> Ok (c.Compare l.operand how r.operand))) x h in
    let b = passes (operand_of fields right) (λ r. unless (same_kind a.0.kind r.kind) _ >> Ok (c.Compare a.0.operand how r.operand)) x a.2 in
    let l = a.0 in
    let r = b.0 in
    let done = passed (same_kind l.kind r.kind) _ (Ok (c.Compare l.operand how r.operand)) x b.2 in
    let types : are_one_type (operand_type columns l.operand) (operand_type columns r.operand) ≡ true =
    ap (λ k. are_one_type k (operand_type columns r.operand)) (operand_typed fields left l a.1) ∙ ap (are_one_type (Some l.kind)) (operand_typed fields right r b.1) ∙ done.0 in
    subst (λ x. is_typed_condition columns x ≡ true) (ok_is (c.Compare l.operand how r.operand) x done.1) (compare_typed columns l.operand how r.operand ∙ types)

-- ---- conditions

abbrev IsTypedAs : List Field → WrittenCondition → Type 0
IsTypedAs fields w = (x : Condition) → condition_of fields w ≡ Ok x → is_typed_condition (kinds_of fields) x ≡ true

level : (fields : List Field) (y : Written-F ((w : WrittenCondition) × IsTypedAs fields w)) (x : Condition) → condition_step fields (map-Written ((w : WrittenCondition) × IsTypedAs fields w) (Outcome Condition) (λ w. condition_of fields w.0) y) ≡ Ok x → is_typed_condition (kinds_of fields) x ≡ true
level fields (Written-F.Compare left how right) x h = comparison_typed fields left how right x h
level fields (Written-F.Not inner) x h =
    let b = passes (condition_of fields inner.0) (λ p. Ok (c.Not p)) x h in
    subst (λ x. is_typed_condition (kinds_of fields) x ≡ true) (ok_is (c.Not b.0) x b.2) (not_typed (kinds_of fields) b.0 ∙ inner.1 b.0 b.1)
level fields (Written-F.Bracket inner) x h = inner.1 x h
level fields (Written-F.And left right) x h =
    let a = passes (condition_of fields left.0) (λ l. condition_of fields right.0 >>= (λ r. Ok (c.And l r))) x h in
    let b = passes (condition_of fields right.0) (λ r. Ok (c.And a.0 r)) x a.2 in
    subst (λ x. is_typed_condition (kinds_of fields) x ≡ true) (ok_is (c.And a.0 b.0) x b.2) (and_typed (kinds_of fields) a.0 b.0 ∙ two _ _ (left.1 a.0 a.1) (right.1 b.0 b.1))
level fields (Written-F.Or left right) x h =
    let a = passes (condition_of fields left.0) (λ l. condition_of fields right.0 >>= (λ r. Ok (c.Or l r))) x h in
    let b = passes (condition_of fields right.0) (λ r. Ok (c.Or a.0 r)) x a.2 in
    subst (λ x. is_typed_condition (kinds_of fields) x ≡ true) (ok_is (c.Or a.0 b.0) x b.2) (or_typed (kinds_of fields) a.0 b.0 ∙ two _ _ (left.1 a.0 a.1) (right.1 b.0 b.1))

condition_typed : (fields : List Field) (w : WrittenCondition) → IsTypedAs fields w
unfolding condition_of
condition_typed fields = ind-Written (IsTypedAs fields) (λ w y is. subst (λ z. IsTypedAs fields (roll-Written z)) is (whole y))
  where
    whole : (y : Written-F ((w : WrittenCondition) × IsTypedAs fields w)) → IsTypedAs fields (roll-Written (map-Written ((w : WrittenCondition) × IsTypedAs fields w) WrittenCondition (λ w. w.0) y))
    whole (Written-F.Compare left how right) x h = level fields (Written-F.Compare left how right) x (sym (fold-roll-Written (Outcome Condition) (condition_step fields) (Written-F.Compare left how right)) ∙ h)
    whole (Written-F.Not inner) x h = level fields (Written-F.Not inner) x (sym (fold-roll-Written (Outcome Condition) (condition_step fields) (Written-F.Not inner.0)) ∙ h)
    whole (Written-F.Bracket inner) x h = level fields (Written-F.Bracket inner) x (sym (fold-roll-Written (Outcome Condition) (condition_step fields) (Written-F.Bracket inner.0)) ∙ h)
    whole (Written-F.And left right) x h = level fields (Written-F.And left right) x (sym (fold-roll-Written (Outcome Condition) (condition_step fields) (Written-F.And left.0 right.0)) ∙ h)
    whole (Written-F.Or left right) x h = level fields (Written-F.Or left right) x (sym (fold-roll-Written (Outcome Condition) (condition_step fields) (Written-F.Or left.0 right.0)) ∙ h)

-- what WHERE comes to compares only what has one type
pub where_typed : (fields : List Field) (w : Option WrittenCondition) (x : Condition) → where_of fields w ≡ Ok x → is_typed_condition (kinds_of fields) x ≡ true
unfolding where_of
where_typed fields None x h = subst (λ x. is_typed_condition (kinds_of fields) x ≡ true) (ok_is c.Always x h) (always_typed (kinds_of fields))
where_typed fields (Some w) x h = condition_typed fields w x h
