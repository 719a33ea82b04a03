use Rattle.std.proofs.Common.{◌≡◌, List, Ok, Err, Result, sym, ap, ◌∙◌, subst}
use Rattle.std.specs.Result.{IsErr, IsErrAnd}
use Rattle.cql_syntax.specs.declared.syntax.Operation.{Operation}
use Rattle.cql_syntax.specs.declared.syntax.Expression.{Expression}
use Rattle.cql_syntax.specs.declared.syntax.Expression.TheOpen.{Expression-F}
use Rattle.cql_syntax.specs.declared.syntax.Expression.TheFolds.{fold-Expression, fold-roll-Expression}
use Rattle.cql_syntax.specs.declared.syntax.Expression.TheVariants.{Binary, rolls-Binary}
use Rattle.cql_plan.specs.declared.row.Field.{Field}
use Rattle.cql_plan.specs.declared.typed.TypedExpr.{TypedExpr}
use Rattle.cql_plan.specs.declared.error.PlanError.{PlanError}
use Rattle.cql_plan.specs.Outcome.{Outcome, ◌>>=◌, Answers, Tells}
use Rattle.cql_plan.specs.Typing.{expression_of, expression_step, operated}
use Rattle.cql_plan.proofs.typed.+expression_of.Goals as goal

-- a part, as the code reads it
part : (fields : List Field) (read written : Expression) (made : TypedExpr) → read ≡ written → expression_of fields read ≡ Ok made → expression_of fields written ≡ Ok made
part fields read written made is known = subst (λ v. expression_of fields v ≡ Ok made) is known

binary_of : (fields : List Field) (whole : Expression) (operation : Operation) (left right : Expression) (x y : TypedExpr) → whole ≡ Binary operation left right → expression_of fields left ≡ Ok x → expression_of fields right ≡ Ok y → expression_of fields whole ≡ operated operation x y
unfolding expression_of
binary_of fields whole operation left right x y is first second =
    ap (fold-Expression (Outcome TypedExpr) (expression_step fields)) (is ∙ sym (rolls-Binary operation left right)) ∙ fold-roll-Expression (Outcome TypedExpr) (expression_step fields) (Expression-F.Binary operation left right) ∙ ap (λ a. a >>= (λ l. expression_of fields right >>= (λ r. operated operation l r))) first ∙ ap (λ a. a >>= (λ r. operated operation x r)) second

binary_second : (fields : List Field) (whole : Expression) (operation : Operation) (left right : Expression) (x : TypedExpr) (error : PlanError) → whole ≡ Binary operation left right → expression_of fields left ≡ Ok x → Tells (expression_of fields right) error → Tells (expression_of fields whole) error
unfolding expression_of
binary_second fields whole operation left right x error is first tells = λ fault same.
    ap (fold-Expression (Outcome TypedExpr) (expression_step fields)) (is ∙ sym (rolls-Binary operation left right)) ∙ fold-roll-Expression (Outcome TypedExpr) (expression_step fields) (Expression-F.Binary operation left right) ∙ ap (λ a. a >>= (λ l. expression_of fields right >>= (λ r. operated operation l r))) first ∙ ap (λ a. a >>= (λ r. operated operation x r)) (tells fault same)

-- a part's error, as `?` hands it on
refused : (outcome : Outcome TypedExpr) (result : Result TypedExpr PlanError) (error : PlanError) → IsErr result → IsErrAnd result (λ e. e ≡ error) → Tells outcome error → Answers outcome result
refused outcome (Ok x) error is same tells = absurd cc
refused outcome (Err e) error is same tells = subst (λ e. Tells outcome e) (sym same) tells

-- a part's error, by the part that the code reads
told : (fields : List Field) (read written : Expression) (error : PlanError) → read ≡ written → Tells (expression_of fields read) error → Tells (expression_of fields written) error
told fields read written error is tells = subst (λ v. Tells (expression_of fields v) error) is tells

pub returns-in_ok-right-in-Binary : goal.returns-in_ok-right-in-Binary
returns-in_ok-right-in-Binary t c =
    let fields = c.args.fields.now in
    let is = binary_of fields c.args.written.now c.in-Binary.operation c.in-Binary.left c.in-Binary.right c.in_ok-left-in-Binary.left c.in_ok-right-in-Binary.right c.in-Binary.is (part fields _ _ _ c.get-in-Binary.ensures c.in_ok-left-in-Binary.ensures) (part fields _ _ _ c.get-in-Binary-2.ensures c.in_ok-right-in-Binary.ensures) in
    subst (λ (o : Outcome TypedExpr). Answers o c.operated.result) (sym is) c.operated.ensures

pub returns-in_err-right-in-Binary : goal.returns-in_err-right-in-Binary
returns-in_err-right-in-Binary t c =
    let fields = c.args.fields.now in
    let residual = c.from_residual-in_err-right-in-Binary.ensures in
    refused (expression_of fields c.args.written.now) _ _ residual.0 residual.1 (binary_second fields c.args.written.now c.in-Binary.operation c.in-Binary.left c.in-Binary.right c.in_ok-left-in-Binary.left _ c.in-Binary.is (part fields _ _ _ c.get-in-Binary.ensures c.in_ok-left-in-Binary.ensures) (told fields _ _ _ c.get-in-Binary-2.ensures c.in_err-right-in-Binary.ensures))
