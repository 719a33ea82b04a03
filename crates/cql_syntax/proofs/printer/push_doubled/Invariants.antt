use Rattle.std.proofs.Common.{◌≡◌, ◌++◌, length, string_bytes}
use denote.Text.{Utf8}
use denote.Shadow.{shadow}
use Rattle.cql_syntax.specs.Spelling.{doubled}
use Rattle.cql_syntax.proofs.printer.push_doubled.Given as goal

abbrev pub invariant-loop-before : goal.invariant-loop-before
invariant-loop-before l = (string_bytes l.out ++ doubled l.text ≡ string_bytes l.initial.out ++ doubled l.initial.text) × shadow (Utf8 l.text)

abbrev pub decreases-loop-before : goal.decreases-loop-before
decreases-loop-before l = length l.text
