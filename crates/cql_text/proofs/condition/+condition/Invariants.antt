use Rattle.std.proofs.Common.{◌≡◌, length, ◌+◌, ◌-◌, ◌*◌}
use Rattle.cql_syntax.specs.Tokens.{sign}
use Rattle.cql_text.specs.Reading.{chain}
use Rattle.cql_text.specs.Readers as spec
use Rattle.cql_syntax.specs.declared.syntax.Condition.TheVariants.{And, Or}
use Rattle.cql_syntax.specs.declared.token.Fixed.TheVariants as k
use Rattle.cql_text.proofs.condition.+condition.Given as goal

abbrev pub decreases-negation : goal.decreases-negation
decreases-negation l = 6 * l.level + 6

abbrev pub decreases-grouping : goal.decreases-grouping
decreases-grouping l = 6 * l.level + 6

abbrev pub decreases-plain : goal.decreases-plain
decreases-plain l = 6 * l.level + 1

abbrev pub decreases-more_plain : goal.decreases-more_plain
decreases-more_plain l = 6 * l.level + 2

abbrev pub decreases-both : goal.decreases-both
decreases-both l = 6 * l.level + 3

abbrev pub decreases-more_both : goal.decreases-more_both
decreases-more_both l = 6 * l.level + 4

abbrev pub decreases-condition : goal.decreases-condition
decreases-condition l = 6 * l.level + 5

abbrev pub invariant-more_plain-loop-turn : goal.invariant-more_plain-loop-turn
invariant-more_plain-loop-turn l =
    chain (spec.plain l.level) (sign k.And) (λ _ x y. And x y) (length l.fn.cursor) l.fn.left l.fn.cursor
    ≡ chain (spec.plain l.level) (sign k.And) (λ _ x y. And x y) (l._turn-end - l._turn) l.left l.cursor

abbrev pub invariant-more_both-loop-turn : goal.invariant-more_both-loop-turn
invariant-more_both-loop-turn l =
    chain (spec.both_of (spec.plain l.level)) (sign k.Or) (λ _ x y. Or x y) (length l.fn.cursor) l.fn.left l.fn.cursor
    ≡ chain (spec.both_of (spec.plain l.level)) (sign k.Or) (λ _ x y. Or x y) (l._turn-end - l._turn) l.left l.cursor
