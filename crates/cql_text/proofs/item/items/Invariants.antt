use Rattle.std.proofs.Common.{◌≡◌, ◌-◌}
use Rattle.cql_syntax.specs.declared.token.Fixed.TheVariants as k
use Rattle.cql_syntax.specs.Tokens.{sign, joined}
use Rattle.cql_text.specs.Reading.{chain, single}
use Rattle.cql_text.specs.Readers as spec
use Rattle.cql_text.proofs.item.items.Given as goal

abbrev pub invariant-loop-turn : goal.invariant-loop-turn
invariant-loop-turn l = spec.items l.fn.cursor ≡ chain (single spec.item) (sign k.Comma) joined (l._turn-end - l._turn) l.items l.cursor
