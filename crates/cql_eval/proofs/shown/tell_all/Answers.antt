use Rattle.std.proofs.lemmas.Grind.{common_steps}
use Rattle.std.proofs.Common.{subst, arith}
use Rattle.cql_eval.specs.Shown.{StandsFor}
use Rattle.cql_eval.proofs.shown.tell_all.Goals.{in-Rstream+in_ok-told-in-Rstream, in_default+in_ok-told-in_default}
use Rattle.cql_eval.proofs.shown.tell_all.Goals as goal

pub returns : goal.returns
returns c = λ told before stands can.
    elim c.match-kind.branch [
      | in-Rstream+in_ok-told-in-Rstream w ↦
          rw (w.last-is, w.told-is, w.in-Rstream.is) (w.in_ok-told-in-Rstream.ensures told before (subst (λ k. StandsFor k c.args.last.now told before) w.in-Rstream.is stands) can)
      | in_default+in_ok-told-in_default w ↦ rw (w.last-is, w.told-is) (w.in_ok-told-in_default.ensures w.in_default.not-Rstream told before stands can)
    ]

pub returns-then-is_none : goal.returns-then-is_none
returns-then-is_none c = grind (arith, common_steps)
