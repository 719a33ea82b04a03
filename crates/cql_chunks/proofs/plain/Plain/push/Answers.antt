use Rattle.std.proofs.lemmas.Grind.{common_steps}
use Rattle.std.proofs.Common.{◌≡◌, ◌+◌, ◌<◌, ◌^◌, arith, rules, [], ◌∷◌, ◌++◌}
use Rattle.cql_chunks.proofs.Rows.{push_chunks, push_rows}
use Rattle.cql_chunks.proofs.plain.Plain.push.Goals as goal

pub invariant_of-self-2 : goal.invariant_of-self-2
invariant_of-self-2 c =
    let s = c.self.inside in
    let pushed : c.push.new.self.items ≡ c.close.new.last.items ++ c.args.row ∷ [] = search rules in
    let fits : s.end + 1 < 2 ^ 63 = omega (arith, c.self.invariant.fits, c.if-self-eq-LIMIT.false) in
    rw pushed (push_chunks s.full.items c.close.new.full.items s.last.items c.close.new.last.items s.gone s.end c.args.row c.self.invariant c.close.ensures.rows c.close.ensures.are_full (search rules) fits)

pub returns-clause-ok : goal.returns-clause-ok
returns-clause-ok c =
    let s = c.self.inside in
    let pushed : c.push.new.self.items ≡ c.close.new.last.items ++ c.args.row ∷ [] = search rules in
    rw (pushed, ← c.self.view_is) (push_rows s.full.items c.close.new.full.items s.last.items c.close.new.last.items s.gone s.end c.args.row c.self.invariant c.close.ensures.rows)

pub invariant_of-self : goal.invariant_of-self
invariant_of-self c = grind (arith, common_steps)

pub invariant_of-self-in_err-push : goal.invariant_of-self-in_err-push
invariant_of-self-in_err-push c = grind (arith, common_steps)
