-- Pieces one after another.
use Rattle.std.proofs.lemmas.List.{take_rest}
use Rattle.std.proofs.Common.{◌≤◌, ◌-◌, length, get_or, take, drop, arith, ◌≡◌, ◌&&◌, List, [], ◌∷◌, ◌++◌, refl, sym, ap, ◌∙◌, append_assoc, append-nil, rules}
use Rattle.cql_syntax.specs.declared.token.Fixed.TheVariants as k
use Rattle.cql_syntax.specs.declared.syntax.QualifiedName.{QualifiedName}
use Rattle.cql_syntax.specs.declared.syntax.Constant.{Constant}
use Rattle.cql_syntax.specs.declared.syntax.Operation.{Operation}
use Rattle.cql_syntax.specs.declared.syntax.Expression.{Expression}
use Rattle.cql_syntax.specs.declared.syntax.Expression as tree
use Rattle.cql_syntax.specs.declared.syntax.Expression.TheVariants as e
use Rattle.cql_syntax.specs.declared.syntax.Operand.{Operand}
use Rattle.cql_syntax.specs.declared.syntax.Comparison.{Comparison}
use Rattle.cql_syntax.specs.declared.syntax.Condition.{Condition}
use Rattle.cql_syntax.specs.declared.syntax.Condition as branch
use Rattle.cql_syntax.specs.declared.syntax.Condition.TheVariants as c
use Rattle.cql_syntax.specs.declared.syntax.Query.{Query}
use Rattle.cql_syntax.specs.Spelling.{symbol, Pieces, Printed, put, put_all, nothing, space, takes_space, leaves_space, piece_text, spelled, spell_name, spell_constant, operation_sign, spell_expression, spell_operand, comparison_sign, spell_condition, spell_query, canonical, following, separated}

pub put_append : (p : Printed) (xs ys : Pieces) → put_all p (xs ++ ys) ≡ put_all (put_all p xs) ys
put_append p [] ys = refl
put_append p (x ∷ xs) ys = put_append (put p x) xs ys

pub spell_of_constant : (x : Constant) → spell_expression (e.Constant x) ≡ spell_constant x
unfolding spell_expression
spell_of_constant x = search (rules, tree.the_lemmas)

pub spell_of_column : (q : QualifiedName) → spell_expression (e.Column q) ≡ spell_name q
unfolding spell_expression
spell_of_column q = search (rules, tree.the_lemmas)

pub spell_of_bracket : (x : Expression) → spell_expression (e.Bracket x) ≡ symbol k.Open ∷ (spell_expression x ++ symbol k.Close ∷ [])
unfolding spell_expression
spell_of_bracket x = search (rules, tree.the_lemmas)

pub spell_of_binary : (op : Operation) (x y : Expression) → spell_expression (e.Binary op x y) ≡ spell_expression x ++ symbol (operation_sign op) ∷ spell_expression y
unfolding spell_expression
spell_of_binary op x y = search (rules, tree.the_lemmas)

pub spell_of_compare : (a : Operand) (op : Comparison) (b : Operand) → spell_condition (c.Compare a op b) ≡ spell_operand a ++ symbol (comparison_sign op) ∷ spell_operand b
unfolding spell_condition
spell_of_compare a op b = search (rules, branch.the_lemmas)

pub spell_of_not : (x : Condition) → spell_condition (c.Not x) ≡ symbol k.Not ∷ spell_condition x
unfolding spell_condition
spell_of_not x = search (rules, branch.the_lemmas)

pub spell_of_group : (x : Condition) → spell_condition (c.Bracket x) ≡ symbol k.Open ∷ (spell_condition x ++ symbol k.Close ∷ [])
unfolding spell_condition
spell_of_group x = search (rules, branch.the_lemmas)

pub spell_of_and : (x y : Condition) → spell_condition (c.And x y) ≡ spell_condition x ++ symbol k.And ∷ spell_condition y
unfolding spell_condition
spell_of_and x y = search (rules, branch.the_lemmas)

pub spell_of_or : (x y : Condition) → spell_condition (c.Or x y) ≡ spell_condition x ++ symbol k.Or ∷ spell_condition y
unfolding spell_condition
spell_of_or x y = search (rules, branch.the_lemmas)

pub ruleset spellings = (spell_of_constant, spell_of_column, spell_of_bracket, spell_of_binary, spell_of_compare, spell_of_not, spell_of_group, spell_of_and, spell_of_or, put_append)

pub put_spelled : (p : Printed) (xs : Pieces) → (put_all p xs).text ≡ p.text ++ spelled p.due xs
unfolding put
put_spelled p [] = sym (append-nil p.text)
put_spelled p (x ∷ xs) =
    put_spelled (put p x) xs
    ∙ append_assoc (p.text ++ space (p.due && takes_space x)) (piece_text x) (spelled (leaves_space x) xs)
    ∙ append_assoc p.text (space (p.due && takes_space x)) (piece_text x ++ spelled (leaves_space x) xs)
    ∙ ap (λ z. p.text ++ z) (sym (append_assoc (space (p.due && takes_space x)) (piece_text x) (spelled (leaves_space x) xs)))

pub all_printed : (q : Query) → (put_all nothing (spell_query q)).text ≡ canonical q
unfolding canonical
all_printed q = put_spelled nothing (spell_query q)

-- ---- lists

pub put_following : {A : Type 0} (f : A → Pieces) (p : Printed) (x : A) (xs : List A) → put_all p (following f (x ∷ xs)) ≡ put_all (put_all (put p (symbol k.Comma)) (f x)) (following f xs)
put_following f p x xs = put_append (put p (symbol k.Comma)) (f x) (following f xs)

pub put_separated : {A : Type 0} (f : A → Pieces) (p : Printed) (x : A) (xs : List A) → put_all p (separated f (x ∷ xs)) ≡ put_all (put_all p (f x)) (following f xs)
put_separated f p x xs = put_append p (f x) (following f xs)

-- the turns of the loops over slices
pub following_turn : {A : Type 0} (f : A → Pieces) (p q r : Printed) (x : A) (zs : List A) (all : Printed) → 1 ≤ length zs → x ≡ get_or zs 0 x → q ≡ put p (symbol k.Comma) → r ≡ put_all q (f x) →
    put_all p (following f zs) ≡ all → put_all r (following f (take (length zs - 1) (drop 1 zs))) ≡ all
following_turn f p q r x [] all l e g h i = absurd (omega arith)
following_turn f p q r x (z ∷ zs) all l e g h i =
    ap (λ w. put_all r (following f w)) (take_rest (z ∷ zs) 1)
    ∙ ap (λ w. put_all w (following f zs)) (h ∙ ap (λ w. put_all w (f x)) g ∙ ap (λ y. put_all (put p (symbol k.Comma)) (f y)) e) ∙ sym (put_following f p z zs) ∙ i

pub separated_end : {A : Type 0} (f : A → Pieces) (p q r : Printed) (x : A) (zs : List A) → 1 ≤ length zs → x ≡ get_or zs 0 x → q ≡ put_all p (f x) →
    r ≡ put_all q (following f (take (length zs - 1) (drop 1 zs))) → r ≡ put_all p (separated f zs)
separated_end f p q r x [] l e g h = absurd (omega arith)
separated_end f p q r x (z ∷ zs) l e g h =
    h ∙ ap (λ w. put_all q (following f w)) (take_rest (z ∷ zs) 1) ∙ ap (λ w. put_all w (following f zs)) (g ∙ ap (λ y. put_all p (f y)) e) ∙ sym (put_separated f p z zs)
