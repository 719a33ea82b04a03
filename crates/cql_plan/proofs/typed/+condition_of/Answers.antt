use Rattle.std.proofs.Common.{◌≡◌, List, Ok, Err, Result, sym, ap, ◌∙◌, subst}
use Rattle.cql_syntax.specs.declared.syntax.Condition.{Condition as WrittenCondition}
use Rattle.cql_syntax.specs.declared.syntax.Condition.TheOpen.{Condition-F}
use Rattle.cql_syntax.specs.declared.syntax.Condition.TheFolds.{fold-Condition, fold-roll-Condition}
use Rattle.cql_syntax.specs.declared.syntax.Condition.TheVariants as w
use Rattle.cql_syntax.specs.declared.syntax.Condition.TheVariants.{rolls-Not, rolls-And, rolls-Or}
use Rattle.cql_plan.specs.declared.condition.Condition.{Condition}
use Rattle.cql_plan.specs.declared.condition.Condition.TheVariants as p
use Rattle.cql_plan.specs.declared.row.Field.{Field}
use Rattle.cql_plan.specs.Outcome.{Outcome, ◌>>=◌, Answers, Tells}
use Rattle.std.specs.Result.{IsErr, IsErrAnd}
use Rattle.cql_plan.specs.declared.error.PlanError.{PlanError}
use Rattle.cql_plan.specs.Typing.{condition_of, condition_step}
use Rattle.cql_plan.proofs.typed.+condition_of.Goals as goal

-- a part, as the code reads and boxes it
part : (fields : List Field) (read written : WrittenCondition) (made boxed : Condition) → read ≡ written → condition_of fields read ≡ Ok made → boxed ≡ made → condition_of fields written ≡ Ok boxed
part fields read written made boxed is known same = subst (λ v. condition_of fields v ≡ Ok boxed) is (subst (λ x. condition_of fields read ≡ Ok x) (sym same) known)

not_of : (fields : List Field) (whole inner : WrittenCondition) (x : Condition) → whole ≡ w.Not inner → condition_of fields inner ≡ Ok x → condition_of fields whole ≡ Ok (p.Not x)
unfolding condition_of
not_of fields whole inner x is known =
    ap (fold-Condition (Outcome Condition) (condition_step fields)) (is ∙ sym (rolls-Not inner)) ∙ fold-roll-Condition (Outcome Condition) (condition_step fields) (Condition-F.Not inner) ∙ ap (λ a. a >>= (λ x. Ok (p.Not x))) known

and_of : (fields : List Field) (whole left right : WrittenCondition) (x y : Condition) → whole ≡ w.And left right → condition_of fields left ≡ Ok x → condition_of fields right ≡ Ok y → condition_of fields whole ≡ Ok (p.And x y)
unfolding condition_of
and_of fields whole left right x y is first second =
    ap (fold-Condition (Outcome Condition) (condition_step fields)) (is ∙ sym (rolls-And left right)) ∙ fold-roll-Condition (Outcome Condition) (condition_step fields) (Condition-F.And left right) ∙ ap (λ a. a >>= (λ x. condition_of fields right >>= (λ y. Ok (p.And x y)))) first ∙ ap (λ a. a >>= (λ y. Ok (p.And x y))) second

or_of : (fields : List Field) (whole left right : WrittenCondition) (x y : Condition) → whole ≡ w.Or left right → condition_of fields left ≡ Ok x → condition_of fields right ≡ Ok y → condition_of fields whole ≡ Ok (p.Or x y)
unfolding condition_of
or_of fields whole left right x y is first second =
    ap (fold-Condition (Outcome Condition) (condition_step fields)) (is ∙ sym (rolls-Or left right)) ∙ fold-roll-Condition (Outcome Condition) (condition_step fields) (Condition-F.Or left right) ∙ ap (λ a. a >>= (λ x. condition_of fields right >>= (λ y. Ok (p.Or x y)))) first ∙ ap (λ a. a >>= (λ y. Ok (p.Or x y))) second

-- a part's error, as `?` hands it on
refused : (outcome : Outcome Condition) (result : Result Condition PlanError) (error : PlanError) → IsErr result → IsErrAnd result (λ e. e ≡ error) → Tells outcome error → Answers outcome result
refused outcome (Ok x) error is same tells = absurd cc
refused outcome (Err e) error is same tells = subst (λ e. Tells outcome e) (sym same) tells

-- a part's error, by the part that the code reads
told : (fields : List Field) (read written : WrittenCondition) (error : PlanError) → read ≡ written → Tells (condition_of fields read) error → Tells (condition_of fields written) error
told fields read written error is tells = subst (λ v. Tells (condition_of fields v) error) is tells

and_second : (fields : List Field) (whole left right : WrittenCondition) (x : Condition) (error : PlanError) → whole ≡ w.And left right → condition_of fields left ≡ Ok x → Tells (condition_of fields right) error → Tells (condition_of fields whole) error
unfolding condition_of
and_second fields whole left right x error is first tells = λ fault same.
    ap (fold-Condition (Outcome Condition) (condition_step fields)) (is ∙ sym (rolls-And left right)) ∙ fold-roll-Condition (Outcome Condition) (condition_step fields) (Condition-F.And left right) ∙ ap (λ a. a >>= (λ x. condition_of fields right >>= (λ y. Ok (p.And x y)))) first ∙ ap (λ a. a >>= (λ y. Ok (p.And x y))) (tells fault same)

or_second : (fields : List Field) (whole left right : WrittenCondition) (x : Condition) (error : PlanError) → whole ≡ w.Or left right → condition_of fields left ≡ Ok x → Tells (condition_of fields right) error → Tells (condition_of fields whole) error
unfolding condition_of
or_second fields whole left right x error is first tells = λ fault same.
    ap (fold-Condition (Outcome Condition) (condition_step fields)) (is ∙ sym (rolls-Or left right)) ∙ fold-roll-Condition (Outcome Condition) (condition_step fields) (Condition-F.Or left right) ∙ ap (λ a. a >>= (λ x. condition_of fields right >>= (λ y. Ok (p.Or x y)))) first ∙ ap (λ a. a >>= (λ y. Ok (p.Or x y))) (tells fault same)

pub returns-in_ok-new-in-Not : goal.returns-in_ok-new-in-Not
returns-in_ok-new-in-Not t c =
    not_of c.args.fields.now c.args.written.now c.in-Not.inner c.in_ok-new-in-Not.field-0 c.in-Not.is (part c.args.fields.now _ c.in-Not.inner c.in_ok-inner-in-Not.inner _ c.get.ensures c.in_ok-inner-in-Not.ensures c.in_ok-new-in-Not.ensures)

pub returns-in_ok-right-in-And : goal.returns-in_ok-right-in-And
returns-in_ok-right-in-And t c =
    let fields = c.args.fields.now in
    and_of fields c.args.written.now c.in-And.left c.in-And.right c.in_ok-left-in-And.left c.in_ok-right-in-And.right c.in-And.is (part fields _ _ _ _ c.get-in-And.ensures c.in_ok-condition_of-in-And.ensures c.in_ok-left-in-And.ensures) (part fields _ _ _ _ c.get-in-And-2.ensures c.in_ok-condition_of-in-And-2.ensures c.in_ok-right-in-And.ensures)

pub returns-in_ok-right-in-Or : goal.returns-in_ok-right-in-Or
returns-in_ok-right-in-Or t c =
    let fields = c.args.fields.now in
    or_of fields c.args.written.now c.in-Or.left c.in-Or.right c.in_ok-left-in-Or.left c.in_ok-right-in-Or.right c.in-Or.is (part fields _ _ _ _ c.get-in-Or.ensures c.in_ok-condition_of-in-Or.ensures c.in_ok-left-in-Or.ensures) (part fields _ _ _ _ c.get-in-Or-2.ensures c.in_ok-condition_of-in-Or-2.ensures c.in_ok-right-in-Or.ensures)

pub returns-in_err-condition_of-in-And-2 : goal.returns-in_err-condition_of-in-And-2
returns-in_err-condition_of-in-And-2 t c =
    let fields = c.args.fields.now in
    let residual = c.from_residual-in_err-condition_of-in-And-2.ensures in
    refused (condition_of fields c.args.written.now) _ _ residual.0 residual.1 (and_second fields c.args.written.now c.in-And.left c.in-And.right c.in_ok-left-in-And.left _ c.in-And.is (part fields _ _ _ _ c.get-in-And.ensures c.in_ok-condition_of-in-And.ensures c.in_ok-left-in-And.ensures) (told fields _ _ _ c.get-in-And-2.ensures c.in_err-condition_of-in-And-2.ensures))

pub returns-in_err-condition_of-in-Or-2 : goal.returns-in_err-condition_of-in-Or-2
returns-in_err-condition_of-in-Or-2 t c =
    let fields = c.args.fields.now in
    let residual = c.from_residual-in_err-condition_of-in-Or-2.ensures in
    refused (condition_of fields c.args.written.now) _ _ residual.0 residual.1 (or_second fields c.args.written.now c.in-Or.left c.in-Or.right c.in_ok-left-in-Or.left _ c.in-Or.is (part fields _ _ _ _ c.get-in-Or.ensures c.in_ok-condition_of-in-Or.ensures c.in_ok-left-in-Or.ensures) (told fields _ _ _ c.get-in-Or-2.ensures c.in_err-condition_of-in-Or-2.ensures))
