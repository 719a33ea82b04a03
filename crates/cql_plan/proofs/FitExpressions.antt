-- What typing gives has the types that it says.
use Rattle.std.proofs.Common.{◌≡◌, ℕ, zero, suc, ◌+◌, ◌<◌, ◌==◌, List, [], ◌∷◌, length, Bool, true, false, ◌&&◌, ◌||◌, if◌then◌else◌, ◌⊎◌, inl, inr, Option, Some, Ok, slice_get, refl, sym, ap, ◌∙◌, subst, arith}
use Rattle.std.specs.List.{AllZip, Contains, list_any, slice_index_or}
use Rattle.std.proofs.lemmas.Bool.Decides.{nat_tests}
use Rattle.std.proofs.lemmas.Bool.{and_parts}
use Rattle.cql_value.specs.declared.schema.ColumnType.{ColumnType}
use Rattle.cql_value.specs.declared.schema.ColumnType.TheVariants.{Number, Text}
use Rattle.cql_syntax.specs.declared.syntax.QualifiedName.{QualifiedName}
use Rattle.cql_syntax.specs.declared.syntax.Constant.{Constant as WrittenConstant}
use Rattle.cql_syntax.specs.declared.syntax.Constant.TheVariants as constant
use Rattle.cql_syntax.specs.declared.syntax.Operation.{Operation}
use Rattle.cql_syntax.specs.declared.syntax.Expression.{Expression, map-Expression, roll-Expression}
use Rattle.cql_syntax.specs.declared.syntax.Expression.TheOpen.{Expression-F}
use Rattle.cql_syntax.specs.declared.syntax.Expression.TheFolds.{fold-roll-Expression, ind-Expression}
use Rattle.cql_plan.specs.declared.error.PlanFault.{PlanFault}
use Rattle.cql_plan.specs.declared.expr.Expr.{Expr, roll-Expr}
use Rattle.cql_plan.specs.declared.expr.Expr.TheOpen.{Expr-F}
use Rattle.cql_plan.specs.declared.expr.Expr.TheFolds.{fold-Expr, fold-roll-Expr, ind-Expr}
use Rattle.cql_plan.specs.declared.expr.Expr.TheVariants as e
use Rattle.cql_plan.specs.declared.expr.Expr.TheVariants.{rolls-Column, rolls-Constant, rolls-Binary}
use Rattle.cql_plan.specs.declared.row.Field.{Field}
use Rattle.cql_plan.specs.declared.row.FoundColumn.{FoundColumn}
use Rattle.cql_plan.specs.declared.typed.TypedExpr.{TypedExpr}
use Rattle.cql_plan.specs.Outcome.{Outcome, ◌>>=◌, ◌>>◌, unless, each}
use Rattle.cql_plan.specs.Columns.{kinds_of, may_mean, meant, the_one, column_named, column_of}
use Rattle.cql_plan.specs.Typing.{same_kind, value_of, kind_of, operated, expression_step, expression_of, among_step, is_among}
use Rattle.cql_plan.specs.Fit.{type_of, number_type, type_step, expr_type}
use Rattle.cql_plan.proofs.Each.{passes}

-- ---- elements

pub here : {A : Type 0} (x : A) (xs : List A) → Contains (x ∷ xs) x
here x xs = (zero, omega arith, refl)

pub there : {A : Type 0} (y x : A) (xs : List A) → Contains xs x → Contains (y ∷ xs) x
there y x xs c = (suc c.0, (let lt : c.0 < length xs = c.1 in omega arith), c.2)

pub nothing : {A : Type 0} (x : A) → Contains [] x → ⊥
nothing x c = let lt : c.0 < 0 = c.1 in absurd (omega arith)

pub cases : {A : Type 0} (y x : A) (xs : List A) → Contains (y ∷ xs) x → (y ≡ x) ⊎ Contains xs x
cases {A} y x xs c = at c.0 c.1 c.2
  where
    at : (k : ℕ) → k < length (y ∷ xs) → slice_index_or (y ∷ xs) k x ≡ x → (y ≡ x) ⊎ Contains xs x
    at zero lt is = inl is
    at (suc k) lt is = inr (k, omega arith, is)

-- ---- checks one after another

pub passed : {B : Type 0} (b : Bool) (fault : PlanFault) (rest : Outcome B) (y : B) → (unless b fault >> rest) ≡ Ok y → (b ≡ true) × (rest ≡ Ok y)
passed true fault rest y h = (refl, h)
passed false fault rest y h = absurd cc

pub ok_is : {A : Type 0} (x y : A) → ◌≡◌ {A = Outcome A} (Ok x) (Ok y) → x ≡ y
ok_is x y h = cc

pub each_ok : {A B : Type 0} (check : A → Outcome B) (xs : List A) (ys : List B) → each check xs ≡ Ok ys → AllZip (λ x y. check x ≡ Ok y) xs ys
unfolding each
each_ok check [] [] h = tt
each_ok check [] (y ∷ ys) h = absurd cc
each_ok check (x ∷ xs) ys h =
    let a = passes (check x) (λ y. each check xs >>= (λ ys. Ok (y ∷ ys))) ys h in
    let b = passes (each check xs) (λ zs. Ok (a.0 ∷ zs)) ys a.2 in
    subst (AllZip (λ x y. check x ≡ Ok y) (x ∷ xs)) (ok_is (a.0 ∷ b.0) ys b.2) (a.1, each_ok check xs b.0 b.1)

-- ---- columns

meant_at : (qualifier : Option (List ℕ)) (name : List ℕ) (column : ℕ) (fields : List Field) (f : FoundColumn) → Contains (meant qualifier name column fields) f → (k : ℕ) × (f.column ≡ column + k) × (slice_get (kinds_of fields) k ≡ Some f.kind)
unfolding meant
meant_at qualifier name column [] f c = absurd (nothing f c)
meant_at qualifier name column (field ∷ fields) f c =
    elim (may_mean qualifier name field) as (λ b. Contains (if b then record { column = column; kind = field.kind } ∷ meant qualifier name (suc column) fields else meant qualifier name (suc column) fields) f → (k : ℕ) × (f.column ≡ column + k) × (slice_get (kinds_of (field ∷ fields)) k ≡ Some f.kind)) [
      | true ↦ λ c. elim (cases (record { column = column; kind = field.kind }) f (meant qualifier name (suc column) fields) c) [
        | inl s ↦ (0, (let p : column ≡ f.column = ap (λ x. x.column) s in omega arith), ap (λ x. Some x.kind) s)
        | inr d ↦ later (meant_at qualifier name (suc column) fields f d)
      ]
      | false ↦ λ c. later (meant_at qualifier name (suc column) fields f c)
    ] c
  where
    later : (k : ℕ) × (f.column ≡ suc column + k) × (slice_get (kinds_of fields) k ≡ Some f.kind) → (k : ℕ) × (f.column ≡ column + k) × (slice_get (kinds_of (field ∷ fields)) k ≡ Some f.kind)
    later r = (suc r.0, (let p : f.column ≡ suc column + r.0 = r.1 in omega arith), r.2)

one_of : (found : List FoundColumn) (f : FoundColumn) → the_one found ≡ Ok f → Contains found f
one_of [] f h = absurd cc
one_of (x ∷ []) f h = subst (Contains (x ∷ [])) (ok_is x f h) (here x [])
one_of (x ∷ y ∷ more) f h = absurd cc

-- a written column holds what it is found to hold
pub column_found : (fields : List Field) (written : QualifiedName) (f : FoundColumn) → column_of fields written ≡ Ok f → slice_get (kinds_of fields) f.column ≡ Some f.kind
unfolding column_named
column_found fields written f h =
    let m = meant_at written.qualifier written.name 0 fields f (one_of (meant written.qualifier written.name 0 fields) f h) in
    let same : m.0 ≡ f.column = (let p : f.column ≡ 0 + m.0 = m.1 in omega arith) in
    subst (λ k. slice_get (kinds_of fields) k ≡ Some f.kind) same m.2

-- ---- expressions

pub column_type : (columns : List ColumnType) (at : ℕ) → expr_type columns (e.Column at) ≡ slice_get columns at
unfolding expr_type
column_type columns at = ap (fold-Expr (Option ColumnType) (type_step columns)) (sym (rolls-Column at)) ∙ fold-roll-Expr (Option ColumnType) (type_step columns) (Expr-F.Column at)

pub constant_kind : (written : WrittenConstant) → type_of (value_of written) ≡ kind_of written
constant_kind (constant.Number n) = refl
constant_kind (constant.Text t) = refl

constant_type : (columns : List ColumnType) (written : WrittenConstant) → expr_type columns (e.Constant (value_of written)) ≡ Some (kind_of written)
unfolding expr_type
constant_type columns written = ap (fold-Expr (Option ColumnType) (type_step columns)) (sym (rolls-Constant (value_of written))) ∙ fold-roll-Expr (Option ColumnType) (type_step columns) (Expr-F.Constant (value_of written)) ∙ ap (λ k. Some k) (constant_kind written)

binary_type : (columns : List ColumnType) (op : Operation) (a b : Expr) → expr_type columns (e.Binary op a b) ≡ number_type (expr_type columns a) (expr_type columns b)
unfolding expr_type
binary_type columns op a b = ap (fold-Expr (Option ColumnType) (type_step columns)) (sym (rolls-Binary op a b)) ∙ fold-roll-Expr (Option ColumnType) (type_step columns) (Expr-F.Binary op a b)

pub is_number : (k : ColumnType) → same_kind k Number ≡ true → k ≡ Number
is_number Number h = refl
is_number Text h = absurd cc

abbrev IsTypedAs : List Field → Expression → Type 0
IsTypedAs fields x = (t : TypedExpr) → expression_of fields x ≡ Ok t → expr_type (kinds_of fields) t.expr ≡ Some t.kind

operation_typed : (fields : List Field) (op : Operation) (l r t : TypedExpr) → expr_type (kinds_of fields) l.expr ≡ Some l.kind → expr_type (kinds_of fields) r.expr ≡ Some r.kind → operated op l r ≡ Ok t → expr_type (kinds_of fields) t.expr ≡ Some t.kind
operation_typed fields op l r t p q h =
    let made : TypedExpr = record { expr = e.Binary op l.expr r.expr; kind = Number } in
    let done = passed (same_kind l.kind Number && same_kind r.kind Number) _ (Ok made) t h in
    let numbers = and_parts (same_kind l.kind Number) (same_kind r.kind Number) done.0 in
    let a : expr_type (kinds_of fields) l.expr ≡ Some Number = p ∙ ap (λ k. Some k) (is_number l.kind numbers.0) in
    let b : expr_type (kinds_of fields) r.expr ≡ Some Number = q ∙ ap (λ k. Some k) (is_number r.kind numbers.1) in
    subst (λ t. expr_type (kinds_of fields) t.expr ≡ Some t.kind) (ok_is made t done.1) (binary_type (kinds_of fields) op l.expr r.expr ∙ ap (λ x. number_type x (expr_type (kinds_of fields) r.expr)) a ∙ ap (number_type (Some Number)) b)

level : (fields : List Field) (y : Expression-F ((x : Expression) × IsTypedAs fields x)) → (t : TypedExpr) → expression_step fields (map-Expression ((x : Expression) × IsTypedAs fields x) (Outcome TypedExpr) (λ x. expression_of fields x.0) y) ≡ Ok t → expr_type (kinds_of fields) t.expr ≡ Some t.kind
level fields (Expression-F.Constant written) t h =
    subst (λ t. expr_type (kinds_of fields) t.expr ≡ Some t.kind) (ok_is (record { expr = e.Constant (value_of written); kind = kind_of written }) t h) (constant_type (kinds_of fields) written)
level fields (Expression-F.Column written) t h =
    let b = passes (column_of fields written) (λ found. Ok (record { expr = e.Column found.column; kind = found.kind })) t h in
    let f = b.0 in
    subst (λ t. expr_type (kinds_of fields) t.expr ≡ Some t.kind) (ok_is (record { expr = e.Column f.column; kind = f.kind }) t b.2) (column_type (kinds_of fields) f.column ∙ column_found fields written f b.1)
level fields (Expression-F.Bracket inner) t h = inner.1 t h
level fields (Expression-F.Binary op left right) t h =
    let a = passes (expression_of fields left.0) (λ l. expression_of fields right.0 >>= (λ r. operated op l r)) t h in
    let b = passes (expression_of fields right.0) (λ r. operated op a.0 r) t a.2 in
    operation_typed fields op a.0 b.0 t (left.1 a.0 a.1) (right.1 b.0 b.1) b.2

-- what an expression is given as its type is its type
pub expression_typed : (fields : List Field) (x : Expression) → IsTypedAs fields x
unfolding expression_of
expression_typed fields = ind-Expression (IsTypedAs fields) (λ x y is. subst (λ z. IsTypedAs fields (roll-Expression z)) is (whole y))
  where
    whole : (y : Expression-F ((x : Expression) × IsTypedAs fields x)) → IsTypedAs fields (roll-Expression (map-Expression ((x : Expression) × IsTypedAs fields x) Expression (λ x. x.0) y))
    whole (Expression-F.Constant written) t h = level fields (Expression-F.Constant written) t (sym (fold-roll-Expression (Outcome TypedExpr) (expression_step fields) (Expression-F.Constant written)) ∙ h)
    whole (Expression-F.Column written) t h = level fields (Expression-F.Column written) t (sym (fold-roll-Expression (Outcome TypedExpr) (expression_step fields) (Expression-F.Column written)) ∙ h)
    whole (Expression-F.Bracket inner) t h = level fields (Expression-F.Bracket inner) t (sym (fold-roll-Expression (Outcome TypedExpr) (expression_step fields) (Expression-F.Bracket inner.0)) ∙ h)
    whole (Expression-F.Binary op left right) t h = level fields (Expression-F.Binary op left right) t (sym (fold-roll-Expression (Outcome TypedExpr) (expression_step fields) (Expression-F.Binary op left.0 right.0)) ∙ h)

-- ---- grouped columns

equal_found : (groups : List ℕ) (column : ℕ) → list_any (λ group. group == column) groups ≡ true → Contains groups column
equal_found [] column h = absurd cc
equal_found (g ∷ groups) column h = elim (g == column) as (λ b. (g == column) ≡ b → (b || list_any (λ group. group == column) groups) ≡ true → Contains (g ∷ groups) column) [
  | true ↦ λ e h. (let same : g ≡ column = grind (arith, nat_tests) in subst (Contains (g ∷ groups)) same (here g groups))
  | false ↦ λ e h. there g column groups (equal_found groups column h)
] refl h

abbrev IsAmongThem : List ℕ → Expr → Type 0
IsAmongThem groups x = is_among groups x ≡ true → (at : ℕ) × (x ≡ e.Column at) × Contains groups at

pub among : (groups : List ℕ) (x : Expr) → IsAmongThem groups x
unfolding is_among
among groups = ind-Expr (IsAmongThem groups) (λ x y is. layer x)
  where
    layer : (x : Expr-F Expr) → IsAmongThem groups (roll-Expr x)
    layer (Expr-F.Column at) h = (at, rolls-Column at, equal_found groups at (sym (fold-roll-Expr Bool (among_step groups) (Expr-F.Column at)) ∙ h))
    layer (Expr-F.Constant v) h = absurd (let n = sym (fold-roll-Expr Bool (among_step groups) (Expr-F.Constant v)) ∙ h in cc)
    layer (Expr-F.Binary op a b) h = absurd (let n = sym (fold-roll-Expr Bool (among_step groups) (Expr-F.Binary op a b)) ∙ h in cc)
