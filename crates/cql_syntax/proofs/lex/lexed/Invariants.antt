use Rattle.std.proofs.Common.{◌≡◌, ◌≤◌, ◌-◌, length, drop}
use Rattle.cql_syntax.specs.Lex.{scan, lexed_until, until, with_front}
use Rattle.cql_syntax.proofs.lex.lexed.Given as goal

abbrev pub invariant-loop-at : goal.invariant-loop-at
invariant-loop-at l = (with_front l.lexemes (until l.most (scan 0 l.at (drop l.at l.text))) ≡ lexed_until l.most l.text) × (l.at ≤ length l.text)

abbrev pub decreases-loop-at : goal.decreases-loop-at
decreases-loop-at l = length l.text - l.at
