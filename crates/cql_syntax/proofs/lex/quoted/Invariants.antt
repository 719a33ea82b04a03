use Rattle.std.proofs.Common.{◌≡◌, ◌+◌, length, false, string_bytes}
use denote.Shadow.{shadow}
use denote.Text.{Utf8}
use Rattle.cql_syntax.specs.Lex.{quoted, behind}
use Rattle.cql_syntax.proofs.lex.quoted.Given as goal

abbrev pub invariant-loop-before : goal.invariant-loop-before
invariant-loop-before l = (behind (string_bytes l.content) l.len (quoted false l.rest) ≡ quoted false l.initial.rest) × (l.len + length l.rest ≡ length l.initial.rest) × shadow (Utf8 l.rest)

abbrev pub decreases-loop-before : goal.decreases-loop-before
decreases-loop-before l = length l.rest
