-- What some tokens are, its canonical spelling is too: names, constants, expressions and conditions.
use Rattle.std.proofs.Common.{◌≡◌, ◌^◌, ℕ, zero, suc, pos, nat_lt, nat_le, Bool, true, false, if◌then◌else◌, List, [], ◌∷◌, ◌++◌, Option, Some, None, refl, sym, ap, ◌∙◌, subst, append_assoc, append-nil, inl, inr}
use Rattle.cql_syntax.specs.declared.token.Fixed.{Fixed}
use Rattle.cql_syntax.specs.declared.token.Fixed.TheVariants as k
use Rattle.cql_syntax.specs.declared.token.Token.{Token}
use Rattle.cql_syntax.specs.declared.token.Token.TheVariants as t
use Rattle.cql_syntax.specs.declared.syntax.Constant.{Constant}
use Rattle.cql_syntax.specs.declared.syntax.Constant.TheVariants as c
use Rattle.cql_syntax.specs.declared.syntax.Operation.{Operation}
use Rattle.cql_syntax.specs.declared.syntax.Operation.TheVariants as o
use Rattle.cql_syntax.specs.declared.syntax.Expression.{Expression}
use Rattle.cql_syntax.specs.declared.syntax.Expression.TheVariants as e
use Rattle.cql_syntax.specs.declared.syntax.Condition.{Condition}
use Rattle.cql_syntax.specs.declared.syntax.Condition.TheVariants as b
use Rattle.cql_syntax.specs.Tokens.{Tokens, sign, joined}
use Rattle.cql_syntax.specs.Operators.{sum_sign, product_sign, comparison_of}
use Rattle.cql_text.specs.Meaning.{name_of, qualified, constant_of, negative_of, minus}
use Rattle.cql_text.specs.Rules.{Rule, GoesOn, ends, goes}
use Rattle.cql_text.specs.Rules as rule
use Rattle.cql_text.specs.Grammar as grammar
use Rattle.cql_text.specs.Grammar.{IsName, IsColumn, IsConstant, IsAtom, IsTermOf, IsSumOf, IsFactor, IsExpression, IsOperand, IsComparison, IsBothOf, IsEitherOf, IsPlain, IsCondition}
use Rattle.cql_syntax.specs.Spelling.{symbol, Pieces, piece_tokens, pieces_tokens, spell_name, spell_constant, operation_sign, spell_expression, spell_operand, comparison_sign, spell_condition, following, separated}
use Rattle.cql_text.proofs.Names.{name_is}
use Rattle.cql_text.proofs.Conditions.{comparison_is, pick}
use Rattle.cql_text.proofs.Parts.{sign_is}
use Rattle.cql_syntax.proofs.Pieces.{spell_of_constant, spell_of_column, spell_of_bracket, spell_of_binary, spell_of_compare, spell_of_not, spell_of_group, spell_of_and, spell_of_or}

-- the tokens of the pieces, and then others
abbrev pub onto : Pieces → Tokens → Tokens
onto [] after = after
onto (p ∷ ps) after = piece_tokens p ++ onto ps after

pub onto-append : (xs ys : Pieces) (after : Tokens) → onto (xs ++ ys) after ≡ onto xs (onto ys after)
onto-append [] ys after = refl
onto-append (x ∷ xs) ys after = ap (λ us. piece_tokens x ++ us) (onto-append xs ys after)

pub onto_tokens : (ps : Pieces) (after : Tokens) → onto ps after ≡ pieces_tokens ps ++ after
onto_tokens [] after = refl
onto_tokens (p ∷ ps) after = ap (λ us. piece_tokens p ++ us) (onto_tokens ps after) ∙ sym (append_assoc (piece_tokens p) (pieces_tokens ps) after)

-- what is so stays so where it is spelled as f says
abbrev pub Again : {A : Type 0} → Rule A → (A → Pieces) → Type 0
Again {A} R f = (ts rest : Tokens) (x : A) → R ts x rest → (after : Tokens) → R (onto (f x) after) x after

pub one_again : {A : Type 0} (meaning : Token → Option A) (tok : A → Token) → ((u : Token) (x : A) → meaning u ≡ Some x → u ≡ tok x) → (ts rest : Tokens) (x : A) → rule.one meaning ts x rest → (after : Tokens) → rule.one meaning (tok x ∷ after) x after
one_again meaning tok known ts rest x h after = (tok x, refl, subst (λ v. meaning v ≡ Some x) (known h.0 x h.2) h.2)

-- ---- chains

module _ {A O : Type 0} (Item : Rule A) (operator : Token → Option O) (join : O → A → A → A) (f : A → Pieces) (word : O → Fixed) (N : A → Type 0)
    (known : (x : Token) (op : O) → operator x ≡ Some op → x ≡ t.Fixed (word op))
    (join_is : (op : O) (x y : A) → N x → N y → f (join op x y) ≡ f x ++ symbol (word op) ∷ f y)
    (join_fits : (op : O) (x y : A) → N x → N y → N (join op x y))
    (item_fits : (ts rest : Tokens) (x : A) → Item ts x rest → N x)
    (item_again : Again Item f) where
  goes_again : (us rest : Tokens) (left whole : A) → GoesOn Item operator join us left whole rest → N left →
      (mid : Pieces) × (f whole ≡ f left ++ mid) × ((after : Tokens) → GoesOn Item operator join (onto mid after) left whole after)
  goes_again us rest left whole (ends _ _) n = ([], sym (append-nil (f left)), λ after. ends after left)
  goes_again us rest left whole (goes x op ts vs _ _ right _ e i g) n =
      let m = item_fits ts vs right i in
      let ih = goes_again vs rest (join op left right) whole g (join_fits op left right n m) in (
        symbol (word op) ∷ (f right ++ ih.0),
        ih.1 ∙ ap (λ ps. ps ++ ih.0) (join_is op left right n m) ∙ append_assoc (f left) (symbol (word op) ∷ f right) ih.0,
        λ after. goes (t.Fixed (word op)) op (onto (f right ++ ih.0) after) (onto ih.0 after) after left right whole (subst (λ v. operator v ≡ Some op) (known x op e) e)
            (subst (λ w. Item w right (onto ih.0 after)) (sym (onto-append (f right) ih.0 after)) (item_again ts vs right i (onto ih.0 after))) (ih.2 after),
      )

  pub chain_again : Again (rule.chain Item operator join) f
  chain_again ts rest whole h after =
      let a = goes_again h.1 rest h.0 whole h.3 (item_fits ts h.1 h.0 h.2) in
      subst (λ w. rule.chain Item operator join w whole after) (sym (ap (λ ps. onto ps after) a.1 ∙ onto-append (f h.0) a.0 after))
      (h.0, onto a.0 after, item_again ts h.1 h.0 h.2 (onto a.0 after), a.2 after)

-- ---- lists

abbrev pub IsSome : {A : Type 0} → List A → Type 0
IsSome {A} xs = (y : A) × (ys : List A) × (xs ≡ y ∷ ys)

abbrev pub single : {A : Type 0} → Rule A → Rule (List A)
single R = rule.◌>>=◌ R (λ x. rule.pure (x ∷ []))

following-append : {A : Type 0} (g : A → Pieces) (xs : List A) (y : A) (ys : List A) → following g (xs ++ y ∷ ys) ≡ following g xs ++ symbol k.Comma ∷ (g y ++ following g ys)
following-append g [] y ys = refl
following-append g (x ∷ xs) y ys =
    ap (λ ps. symbol k.Comma ∷ (g x ++ ps)) (following-append g xs y ys) ∙ ap (λ ps. symbol k.Comma ∷ ps) (sym (append_assoc (g x) (following g xs) (symbol k.Comma ∷ (g y ++ following g ys))))

separated-append : {A : Type 0} (g : A → Pieces) (x : A) (xs : List A) (y : A) (ys : List A) → separated g ((x ∷ xs) ++ y ∷ ys) ≡ separated g (x ∷ xs) ++ symbol k.Comma ∷ separated g (y ∷ ys)
separated-append g x xs y ys = ap (λ ps. g x ++ ps) (following-append g xs y ys) ∙ sym (append_assoc (g x) (following g xs) (symbol k.Comma ∷ (g y ++ following g ys)))

module _ {A : Type 0} (R : Rule A) (g : A → Pieces) (again : Again R g) where
  single_again : Again (single R) (separated g)
  single_again ts rest xs h after =
      subst (λ ys. single R (onto (separated g ys) after) ys after) h.3.0
      (h.0, after, subst (λ w. R w h.0 after) (sym (ap (λ ps. onto ps after) (append-nil (g h.0)))) (again ts h.1 h.0 h.2 after), (refl, refl))

  list_joins : (op : Unit {0}) (x y : List A) → IsSome x → IsSome y → separated g (joined op x y) ≡ separated g x ++ symbol k.Comma ∷ separated g y
  list_joins op x y n m = rw (n.2, m.2) (separated-append g n.0 n.1 m.0 m.1)

  pub list_again : Again (grammar.list_of R) (separated g)
  list_again = chain_again (single R) (sign k.Comma) joined (separated g) (λ _. k.Comma) IsSome (λ x op h. sign_is k.Comma x op h) list_joins
      (λ op x y n m. (n.0, n.1 ++ y, ap (λ w. w ++ y) n.2)) (λ ts rest x h. (h.0, [], sym h.3.0)) single_again

  pub list_some : (ts rest : Tokens) (xs : List A) → grammar.list_of R ts xs rest → IsSome xs
  list_some ts rest xs h = goes_some h.1 rest h.0 xs h.3 (h.2.0, [], sym h.2.3.0)
    where
      goes_some : (us rest : Tokens) (left whole : List A) → GoesOn (single R) (sign k.Comma) joined us left whole rest → IsSome left → IsSome whole
      goes_some us rest left whole (ends _ _) n = n
      goes_some us rest left whole (goes x op ts vs _ _ right _ e i g) n = goes_some vs rest (left ++ right) whole g (n.0, n.1 ++ right, ap (λ w. w ++ right) n.2)

-- ---- names and constants

pub name_again : (ts rest : Tokens) (s : List ℕ) → IsName ts s rest → (after : Tokens) → IsName (t.Word s ∷ after) s after
name_again = one_again name_of t.Word (λ u s h. (name_is u s h).0)

pub column_again : Again IsColumn spell_name
column_again ts rest x h after = at h.3.0 h.3.2 h.3.3.0
  where
    at : (second : Option (List ℕ)) → rule.optional (rule.◌>>◌ (rule.word k.Dot) IsName) h.1 second h.3.1 → qualified h.0 second ≡ x → IsColumn (onto (spell_name x) after) x after
    at None g eq = subst (λ y. IsColumn (onto (spell_name y) after) y after) eq (h.0, after, name_again ts h.1 h.0 h.2 after, (None, after, refl, (refl, refl)))
    at (Some s) g eq = subst (λ y. IsColumn (onto (spell_name y) after) y after) eq
        (h.0, t.Fixed k.Dot ∷ t.Word s ∷ after, name_again ts h.1 h.0 h.2 (t.Fixed k.Dot ∷ t.Word s ∷ after), (Some s, after, (tt, t.Word s ∷ after, refl, name_again g.1 h.3.1 s g.3 after), (refl, refl)))

abbrev Negative : Rule Constant
Negative = rule.◌>>◌ (rule.word k.Minus) (rule.one negative_of)

negative_again : (u : Token) (x : Constant) → negative_of u ≡ Some x → (after : Tokens) → IsConstant (onto (spell_constant x) after) x after
negative_again (t.Number n) x h after = at (nat_le n (2 ^ 63)) refl h
  where
    by : (m : ℕ) → n ≡ m → negative_of (t.Number m) ≡ Some (c.Number (minus m)) → IsConstant (onto (spell_constant (c.Number (minus m))) after) (c.Number (minus m)) after
    by zero f g = inr (t.Number 0, refl, refl)
    by (suc m) f g = inl (tt, t.Number (suc m) ∷ after, refl, (t.Number (suc m), refl, g))

    at : (v : Bool) → nat_le n (2 ^ 63) ≡ v → (if v then Some (c.Number (minus n)) else None) ≡ Some x → IsConstant (onto (spell_constant x) after) x after
    at true f g =
        let w : c.Number (minus n) ≡ x = cc in
        subst (λ y. IsConstant (onto (spell_constant y) after) y after) w (by n refl (ap (λ v. if v then Some (c.Number (minus n)) else None) f))
    at false f g = cc
negative_again (t.Fixed j) x h after = cc
negative_again (t.Word s) x h after = cc
negative_again (t.Text s) x h after = cc

plain_again : (u : Token) (x : Constant) → constant_of u ≡ Some x → (after : Tokens) → IsConstant (onto (spell_constant x) after) x after
plain_again (t.Number n) x h after = at (nat_lt n (2 ^ 63)) refl h
  where
    at : (v : Bool) → nat_lt n (2 ^ 63) ≡ v → (if v then Some (c.Number (pos n)) else None) ≡ Some x → IsConstant (onto (spell_constant x) after) x after
    at true f g =
        let w : c.Number (pos n) ≡ x = cc in
        subst (λ y. IsConstant (onto (spell_constant y) after) y after) w (inr (t.Number n, refl, ap (λ v. if v then Some (c.Number (pos n)) else None) f))
    at false f g = cc
plain_again (t.Text s) x h after = let w : c.Text s ≡ x = cc in subst (λ y. IsConstant (onto (spell_constant y) after) y after) w (inr (t.Text s, refl, refl))
plain_again (t.Fixed j) x h after = cc
plain_again (t.Word s) x h after = cc

pub constant_again : Again IsConstant spell_constant
constant_again ts rest x (inl h) after = negative_again h.3.0 x h.3.2 after
constant_again ts rest x (inr h) after = plain_again h.0 x h.2 after

-- ---- expressions

atom_again : Again IsAtom spell_expression
atom_again ts rest x (inl h) after =
    subst (λ y. IsAtom (onto (spell_expression y) after) y after) h.3.0
    (subst (λ ps. IsAtom (onto ps after) (e.Column h.0) after) (sym (spell_of_column h.0)) (inl (h.0, after, column_again ts h.1 h.0 h.2 after, (refl, refl))))
atom_again ts rest x (inr h) after =
    subst (λ y. IsAtom (onto (spell_expression y) after) y after) h.3.0
    (subst (λ ps. IsAtom (onto ps after) (e.Constant h.0) after) (sym (spell_of_constant h.0)) (inr (h.0, after, constant_again ts h.1 h.0 h.2 after, (refl, refl))))

operation_is : (x : Token) (op : Operation) → sum_sign x ≡ Some op → x ≡ t.Fixed (operation_sign op)
operation_is x op h = elim (pick k.Plus x o.Add op _ h) [
  | inl g ↦ g.0 ∙ ap (λ p. t.Fixed (operation_sign p)) g.1
  | inr g ↦ elim (pick k.Minus x o.Subtract op _ g) [
    | inl g ↦ g.0 ∙ ap (λ p. t.Fixed (operation_sign p)) g.1
    | inr g ↦ absurd (let z : ⊥ = cc in z)
  ]
]

product_is : (x : Token) (op : Operation) → product_sign x ≡ Some op → x ≡ t.Fixed (operation_sign op)
product_is x op h = elim (pick k.Star x o.Multiply op _ h) [
  | inl g ↦ g.0 ∙ ap (λ p. t.Fixed (operation_sign p)) g.1
  | inr g ↦ absurd (let z : ⊥ = cc in z)
]

abbrev Any : {A : Type 0} → A → Type 0
Any x = Unit {0}

term_again : (Factor : Rule Expression) → Again Factor spell_expression → Again (IsTermOf Factor) spell_expression
term_again Factor again = chain_again Factor product_sign e.Binary spell_expression operation_sign Any product_is (λ op x y n m. spell_of_binary op x y) (λ op x y n m. tt) (λ ts rest x h. tt) again

sum_again : (Factor : Rule Expression) → Again Factor spell_expression → Again (IsSumOf Factor) spell_expression
sum_again Factor again = chain_again (IsTermOf Factor) sum_sign e.Binary spell_expression operation_sign Any operation_is (λ op x y n m. spell_of_binary op x y) (λ op x y n m. tt) (λ ts rest x h. tt) (term_again Factor again)

factor_again : (level : ℕ) → Again (IsFactor level) spell_expression
factor_again zero ts rest x h after = atom_again ts rest x h after
factor_again (suc n) ts rest x (inl h) after =
    let inner = h.3.0 in
    let again = sum_again (IsFactor n) (factor_again n) h.1 h.3.1 inner h.3.2 (t.Fixed k.Close ∷ after) in
    subst (λ y. IsFactor (suc n) (onto (spell_expression y) after) y after) h.3.3.3.0
    (subst (λ w. IsFactor (suc n) w (e.Bracket inner) after) (sym (ap (λ ps. onto ps after) (spell_of_bracket inner) ∙ ap (λ us. t.Fixed k.Open ∷ us) (onto-append (spell_expression inner) (symbol k.Close ∷ []) after)))
    (inl (tt, onto (spell_expression inner) (t.Fixed k.Close ∷ after), refl, (inner, t.Fixed k.Close ∷ after, again, (tt, after, refl, (refl, refl))))))
factor_again (suc n) ts rest x (inr h) after = inr (atom_again ts rest x h after)

pub expression_again : (level : ℕ) → Again (IsExpression level) spell_expression
expression_again level = sum_again (IsFactor level) (factor_again level)

-- ---- conditions

operand_again : Again IsOperand spell_operand
operand_again ts rest x (inl h) after = subst (λ y. IsOperand (onto (spell_operand y) after) y after) h.3.0 (inl (h.0, after, column_again ts h.1 h.0 h.2 after, (refl, refl)))
operand_again ts rest x (inr h) after = subst (λ y. IsOperand (onto (spell_operand y) after) y after) h.3.0 (inr (h.0, after, constant_again ts h.1 h.0 h.2 after, (refl, refl)))

comparison_again : Again IsComparison spell_condition
comparison_again ts rest x h after =
    let left = h.0 in
    let how = h.3.0 in
    let right = h.3.3.0 in
    let tail = t.Fixed (comparison_sign how) ∷ onto (spell_operand right) after in
    subst (λ y. IsComparison (onto (spell_condition y) after) y after) h.3.3.3.0
    (subst (λ w. IsComparison w (b.Compare left how right) after) (sym (ap (λ ps. onto ps after) (spell_of_compare left how right) ∙ onto-append (spell_operand left) (symbol (comparison_sign how) ∷ spell_operand right) after)) (
      left,
      tail,
      operand_again ts h.1 left h.2 tail,
      (
        how,
        onto (spell_operand right) after,
        one_again comparison_of (λ op. t.Fixed (comparison_sign op)) comparison_is h.1 h.3.1 how h.3.2 (onto (spell_operand right) after),
        (right, after, operand_again h.3.1 h.3.3.1 right h.3.3.2 after, (refl, refl)),
      ),
    ))

both_again : (Plain : Rule Condition) → Again Plain spell_condition → Again (IsBothOf Plain) spell_condition
both_again Plain again = chain_again Plain (sign k.And) (λ _ x y. b.And x y) spell_condition (λ _. k.And) Any (λ x op h. sign_is k.And x op h) (λ op x y n m. spell_of_and x y) (λ op x y n m. tt) (λ ts rest x h. tt) again

either_again : (Plain : Rule Condition) → Again Plain spell_condition → Again (IsEitherOf Plain) spell_condition
either_again Plain again = chain_again (IsBothOf Plain) (sign k.Or) (λ _ x y. b.Or x y) spell_condition (λ _. k.Or) Any (λ x op h. sign_is k.Or x op h) (λ op x y n m. spell_of_or x y) (λ op x y n m. tt) (λ ts rest x h. tt) (both_again Plain again)

plain_condition_again : (level : ℕ) → Again (IsPlain level) spell_condition
plain_condition_again zero ts rest x h after = comparison_again ts rest x h after
plain_condition_again (suc n) ts rest x (inl h) after =
    let inner = h.3.0 in
    subst (λ y. IsPlain (suc n) (onto (spell_condition y) after) y after) h.3.3.0
    (subst (λ w. IsPlain (suc n) w (b.Not inner) after) (sym (ap (λ ps. onto ps after) (spell_of_not inner)))
    (inl (tt, onto (spell_condition inner) after, refl, (inner, after, plain_condition_again n h.1 h.3.1 inner h.3.2 after, (refl, refl)))))
plain_condition_again (suc n) ts rest x (inr (inl h)) after =
    let inner = h.3.0 in
    let again = either_again (IsPlain n) (plain_condition_again n) h.1 h.3.1 inner h.3.2 (t.Fixed k.Close ∷ after) in
    subst (λ y. IsPlain (suc n) (onto (spell_condition y) after) y after) h.3.3.3.0
    (subst (λ w. IsPlain (suc n) w (b.Bracket inner) after) (sym (ap (λ ps. onto ps after) (spell_of_group inner) ∙ ap (λ us. t.Fixed k.Open ∷ us) (onto-append (spell_condition inner) (symbol k.Close ∷ []) after)))
    (inr (inl (tt, onto (spell_condition inner) (t.Fixed k.Close ∷ after), refl, (inner, t.Fixed k.Close ∷ after, again, (tt, after, refl, (refl, refl)))))))
plain_condition_again (suc n) ts rest x (inr (inr h)) after = inr (inr (comparison_again ts rest x h after))

pub condition_again : (level : ℕ) → Again (IsCondition level) spell_condition
condition_again level = either_again (IsPlain level) (plain_condition_again level)
