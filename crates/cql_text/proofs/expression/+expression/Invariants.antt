use Rattle.std.proofs.Common.{◌≡◌, length, ◌+◌, ◌-◌, ◌*◌}
use Rattle.cql_syntax.specs.Operators.{sum_sign, product_sign}
use Rattle.cql_text.specs.Reading.{chain}
use Rattle.cql_text.specs.Readers as spec
use Rattle.cql_syntax.specs.declared.syntax.Expression.TheVariants.{Binary}
use Rattle.cql_text.proofs.expression.+expression.Given as goal

abbrev pub decreases-bracket : goal.decreases-bracket
decreases-bracket l = 6 * l.level + 6

abbrev pub decreases-factor : goal.decreases-factor
decreases-factor l = 6 * l.level + 1

abbrev pub decreases-more_factors : goal.decreases-more_factors
decreases-more_factors l = 6 * l.level + 2

abbrev pub decreases-term : goal.decreases-term
decreases-term l = 6 * l.level + 3

abbrev pub decreases-more_terms : goal.decreases-more_terms
decreases-more_terms l = 6 * l.level + 4

abbrev pub decreases-sum : goal.decreases-sum
decreases-sum l = 6 * l.level + 5

abbrev pub invariant-more_factors-loop-turn : goal.invariant-more_factors-loop-turn
invariant-more_factors-loop-turn l =
    chain (spec.factor l.level) product_sign Binary (length l.fn.cursor) l.fn.left l.fn.cursor
    ≡ chain (spec.factor l.level) product_sign Binary (l._turn-end - l._turn) l.left l.cursor

abbrev pub invariant-more_terms-loop-turn : goal.invariant-more_terms-loop-turn
invariant-more_terms-loop-turn l =
    chain (spec.term_of (spec.factor l.level)) sum_sign Binary (length l.fn.cursor) l.fn.left l.fn.cursor
    ≡ chain (spec.term_of (spec.factor l.level)) sum_sign Binary (l._turn-end - l._turn) l.left l.cursor
