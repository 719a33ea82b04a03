use Rattle.std.proofs.Common.{◌≡◌, length}
use Rattle.cql_syntax.specs.Spelling.{put_all, following, spell_plain}
use Rattle.cql_syntax.proofs.print.put_further_names.Given as goal

abbrev pub invariant-loop-rest : goal.invariant-loop-rest
invariant-loop-rest l = put_all l.out (following spell_plain l.rest) ≡ put_all l.initial.out (following spell_plain l.initial.rest)

abbrev pub decreases-loop-rest : goal.decreases-loop-rest
decreases-loop-rest l = length l.rest
