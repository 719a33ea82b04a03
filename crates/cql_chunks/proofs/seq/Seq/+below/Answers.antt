use Rattle.std.proofs.Common.{◌≡◌, ◌∷◌, length, nat_lt, true, false, ap, sym, ◌∙◌, subst, arith, length-append}
use Rattle.std.proofs.lemmas.Bool.Decides.{nat_tests}
use Rattle.std.specs.List.{prefix_len}
use Rattle.std.specs.Arc.{arc_value}
use Rattle.cql_chunks.specs.declared.seq.Numbered.{Numbered}
use Rattle.cql_chunks.specs.Seq.{listed, IsDown}
use Rattle.cql_chunks.proofs.Trees.{down_left, down_right, down_false, down_true}
use Rattle.cql_chunks.proofs.seq.Seq.+below.Goals as goal

pub returns-then-own-number-clause-value : goal.returns-then-own-number-clause-value
returns-then-own-number-clause-value t c = λ down.
    let l = arc_value c.in-Fork.left in
    let r = arc_value c.in-Fork.right in
    let whole = sym c.self.view_is ∙ ap listed c.in-Fork.is in
    let here = subst (IsDown (λ (e : Numbered). nat_lt e.number c.args.number)) whole down in
    let passes : nat_lt c.in-Fork.own.number c.args.number ≡ true = grind (arith, nat_tests, c.if-own-number.true) in
    let value = subst (λ xs. IsDown (λ (e : Numbered). nat_lt e.number c.args.number) xs → c.below.result ≡ prefix_len (λ (e : Numbered). nat_lt e.number c.args.number) xs) c.deref-then-own-number.ensures c.below.ensures.value in
    omega (arith, length-append l (c.in-Fork.own ∷ r), ap length whole, c.len.ensures, c.len-then-own-number.ensures, ap length c.deref.ensures, value (down_right (λ (e : Numbered). nat_lt e.number c.args.number) l r c.in-Fork.own here), down_true (λ (e : Numbered). nat_lt e.number c.args.number) l r c.in-Fork.own here passes, ap (prefix_len (λ (e : Numbered). nat_lt e.number c.args.number)) whole)

pub returns-else-own-number-clause-value : goal.returns-else-own-number-clause-value
returns-else-own-number-clause-value t c = λ down.
    let l = arc_value c.in-Fork.left in
    let r = arc_value c.in-Fork.right in
    let whole = sym c.self.view_is ∙ ap listed c.in-Fork.is in
    let here = subst (IsDown (λ (e : Numbered). nat_lt e.number c.args.number)) whole down in
    let fails : nat_lt c.in-Fork.own.number c.args.number ≡ false = grind (arith, nat_tests, c.if-own-number.false) in
    let value = subst (λ xs. IsDown (λ (e : Numbered). nat_lt e.number c.args.number) xs → c.below-else-own-number.result ≡ prefix_len (λ (e : Numbered). nat_lt e.number c.args.number) xs) c.deref-else-own-number.ensures c.below-else-own-number.ensures.value in
    omega (arith, value (down_left (λ (e : Numbered). nat_lt e.number c.args.number) l (c.in-Fork.own ∷ r) here), down_false (λ (e : Numbered). nat_lt e.number c.args.number) l r c.in-Fork.own fails, ap (prefix_len (λ (e : Numbered). nat_lt e.number c.args.number)) whole)
