use Rattle.std.proofs.lemmas.Grind.{common_steps}
use Rattle.std.proofs.Common.{◌≡◌, ◌∷◌, length, true, false, ap, subst, arith, length-append}
use Rattle.std.specs.List.{prefix_len}
use Rattle.std.specs.Arc.{arc_value}
use Rattle.cql_window.specs.Key.{key_of}
use Rattle.cql_chunks.specs.Seq.{IsDown}
use Rattle.cql_chunks.proofs.Trees.{down_left, down_right, down_false, down_true}
use Rattle.cql_store.specs.Parts.{is_before}
use Rattle.cql_store.proofs.parted.+before.Goals as goal

pub returns-then-is_ahead-clause-value : goal.returns-then-is_ahead-clause-value
returns-then-is_ahead-clause-value t c = λ down.
    let l = arc_value c.in-Some.left.now in
    let r = arc_value c.in-Some.right.now in
    let x = c.in-Some.own.now in
    let p = is_before c.args.columns.now (key_of c.args.columns.now c.args.row.now) c.args.also in
    let whole = c.in-Some.ensures.some in
    let here = subst (IsDown p) whole down in
    let passes : p x ≡ true = grind (arith, c.part_cmp-order.ensures, c.row.ensures, c.is_ahead.ensures, c.if-is_ahead.true) in
    let value = subst (λ xs. IsDown p xs → c.before-then-is_ahead.result ≡ prefix_len p xs) c.deref-then-is_ahead.ensures c.before-then-is_ahead.ensures.value in
    omega (arith, length-append l (x ∷ r), ap length whole, c.len.ensures, c.len-then-is_ahead.ensures, ap length c.deref.ensures, value (down_right p l r x here), down_true p l r x here passes, ap (prefix_len p) whole)

pub returns-else-is_ahead-clause-value : goal.returns-else-is_ahead-clause-value
returns-else-is_ahead-clause-value t c = λ down.
    let l = arc_value c.in-Some.left.now in
    let r = arc_value c.in-Some.right.now in
    let x = c.in-Some.own.now in
    let p = is_before c.args.columns.now (key_of c.args.columns.now c.args.row.now) c.args.also in
    let whole = c.in-Some.ensures.some in
    let here = subst (IsDown p) whole down in
    let fails : p x ≡ false = grind (arith, c.part_cmp-order.ensures, c.row.ensures, c.is_ahead.ensures, c.if-is_ahead.false) in
    let value = subst (λ xs. IsDown p xs → c.before-else-is_ahead.result ≡ prefix_len p xs) c.deref-else-is_ahead.ensures c.before-else-is_ahead.ensures.value in
    omega (arith, value (down_left p l (x ∷ r) here), down_false p l r x fails, ap (prefix_len p) whole)

pub before-requires : goal.before-requires
before-requires t c = grind (arith, common_steps)

pub before-requires-else-is_ahead : goal.before-requires-else-is_ahead
before-requires-else-is_ahead t c = grind (arith, common_steps)

pub overflow_sub-here : goal.overflow_sub-here
overflow_sub-here t c = grind (arith, common_steps)

pub returns-else-is_ahead-clause-within : goal.returns-else-is_ahead-clause-within
returns-else-is_ahead-clause-within t c = grind (arith, common_steps)

pub returns-then-is_ahead-clause-within : goal.returns-then-is_ahead-clause-within
returns-then-is_ahead-clause-within t c = grind (arith, common_steps)
