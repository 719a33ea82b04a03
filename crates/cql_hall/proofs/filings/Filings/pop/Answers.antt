use Rattle.std.proofs.lemmas.Grind.{common_steps}
use Rattle.std.proofs.Common.{◌≡◌, ◌-◌, ◌++◌, ◌∷◌, [], arith, ap, sym, subst, ◌∙◌, length, take}
use Rattle.cql_hall.specs.Queue.{calls_in, AreOf}
use Rattle.cql_hall.proofs.Queueing.{calls_pop}
use Rattle.cql_hall.proofs.filings.Filings.pop.Goals as goal

pub returns-in-Some : goal.returns-in-Some
returns-in-Some c =
    let s = c.self.inside in
    let last = c.in-Some.last in
    let rest = c.pop.new.self.items in
    let pieces : s.pieces.items ≡ rest ++ last ∷ [] = grind (arith, common_steps) in
    let text : c.truncate.new.self.items ≡ take (length s.text.items - last.len) s.text.items = c.truncate.ensures.items ∙ ap (λ n. take (n - last.len) s.text.items) (c.len.ensures ∙ s.text.ok.0) in
    let are = subst (λ ps. AreOf ps s.text.items) pieces c.self.invariant in
    ap (calls_in rest) text
    ∙ calls_pop rest s.text.items last are
    ∙ ap (λ ps. take (length (calls_in ps s.text.items) - 1) (calls_in ps s.text.items)) (sym pieces)
    ∙ ap (λ l. take (length l - 1) l) c.self.view_is

pub invariant_of-self : goal.invariant_of-self
invariant_of-self c = grind (arith, common_steps)

pub overflow_sub-len : goal.overflow_sub-len
overflow_sub-len c = grind (arith, common_steps)
