use Rattle.std.proofs.lemmas.Grind.{common_steps}
use Rattle.std.proofs.Common.{◌≡◌, ◌<◌, ◌≤◌, ◌+◌, length, drop, slice_index, IfSome, false, ℕ, List, Option, Some, None, refl, sym, ap, ◌∙◌, arith, subst, length-drop}
use Rattle.cql_syntax.specs.declared.token.Token.{Token}
use Rattle.cql_syntax.specs.Lex as spec
use Rattle.cql_syntax.proofs.LexLemmas.{at_end, at_none, at_token, front_end, front_more, until_more, until_last, scan_steps}
use Rattle.cql_syntax.proofs.lex.lexed.Goals as goal
use Rattle.cql_syntax.specs.Lex.{lexed, lexed_until}

blank : (z b : List ℕ) (n : ℕ) → b ≡ z → spec.is_blank (slice_index b n) ≡ false → spec.is_blank (slice_index z n) ≡ false
blank z b n e h = subst (λ y. spec.is_blank (slice_index y n) ≡ false) e h

some_left : (z b : List ℕ) (n : ℕ) → b ≡ z → n < length b → n < length z
some_left z b n e h = subst (λ y. n < length y) e h

within : (o : Option (Token × ℕ)) (t : Token) (n len size : ℕ) → o ≡ Some (t, len) → IfSome o (λ p. (1 ≤ p.1) × (n + p.1 ≤ size)) → (1 ≤ len) × (n + len ≤ size)
within o t n len size e h = subst (λ y. IfSome y (λ p. (1 ≤ p.1) × (n + p.1 ≤ size))) e h

-- the token that begins at the byte, and what is behind it
here : (z b : List ℕ) (n len : ℕ) (t : Token) → b ≡ z → spec.is_blank (slice_index b n) ≡ false → spec.token (drop n z) ≡ Some (t, len) → (1 ≤ len) × (n + len ≤ length z) →
    spec.scan 0 n (drop n z) ≡ spec.after_lexeme (record { at = n; token = t }) (spec.scan 0 (n + len) (drop (n + len) z))
here z b n len t e h d w =
    let v : len ≤ length (drop n z) = omega (arith, length-drop n z, w.1) in
    let some : n < length z = omega (arith, w.0, w.1) in
    at_token z n t len some (blank z b n e h) d w.0 v

pub returns-in_default : goal.returns-in_default
returns-in_default c =
    let z = c.args.text.now in
    let n = c.loop-at.at in
    let d : spec.token (drop n z) ≡ None = sym c.in_ok-token.ensures.value ∙ c.in_default.is in
    let e = at_none z n (some_left z _ n c.as_bytes-bytes.ensures.value c.loop-at-test.true) (blank z _ n c.as_bytes-bytes.ensures.value (sym c.is_blank.ensures ∙ c.if-is_blank.false)) d in
    front_end c.loop-at.lexemes (Some n) _ _ (ap (spec.until c.args.most) e) c.loop-at.invariant.0

pub loop-at-preserved : goal.loop-at-preserved
loop-at-preserved c =
    let z = c.args.text.now in
    let n = c.loop-at.at in
    let len = c.in-Some.len in
    let w = within _ c.in-Some.token n len (length z) c.in-Some.is c.in_ok-token.ensures.within in
    let e = here z _ n len c.in-Some.token c.as_bytes-bytes.ensures.value (sym c.is_blank.ensures ∙ c.if-is_blank.false) (sym c.in_ok-token.ensures.value ∙ c.in-Some.is) w in
    let before : n < c.args.most = omega (arith, c.if-at-most.false) in (
      front_more c.loop-at.lexemes c.push.new.self _ _ _ _ (ap (spec.until c.args.most) e ∙ until_more c.args.most _ _ before) c.loop-at.invariant.0 c.in_ok-push.ensures.ok,
      w.1,
    )

pub returns : goal.returns
returns c = front_end c.loop-at.lexemes None _ _ (ap (spec.until c.args.most) (at_end c.args.text.now c.loop-at.at (subst (λ z. length z ≤ c.loop-at.at) c.as_bytes-bytes.ensures.value c.loop-at-test.false))) c.loop-at.invariant.0

pub returns-then-at-most : goal.returns-then-at-most
returns-then-at-most c =
    let z = c.args.text.now in
    let n = c.loop-at.at in
    let len = c.in-Some.len in
    let w = within _ c.in-Some.token n len (length z) c.in-Some.is c.in_ok-token.ensures.within in
    let e = here z _ n len c.in-Some.token c.as_bytes-bytes.ensures.value (sym c.is_blank.ensures ∙ c.if-is_blank.false) (sym c.in_ok-token.ensures.value ∙ c.in-Some.is) w in
    let k = front_more c.loop-at.lexemes c.push.new.self _ _ _ _ (ap (spec.until c.args.most) e ∙ until_last c.args.most _ _ c.if-at-most.true) c.loop-at.invariant.0 c.in_ok-push.ensures.ok in
    front_end c.push.new.self None _ _ refl k

pub loop-at-preserved-then-is_blank : goal.loop-at-preserved-then-is_blank
unfolding lexed lexed_until
loop-at-preserved-then-is_blank c = grind (arith, common_steps, scan_steps)

pub loop-at-smaller : goal.loop-at-smaller
unfolding lexed lexed_until
loop-at-smaller c = grind (arith, common_steps)
