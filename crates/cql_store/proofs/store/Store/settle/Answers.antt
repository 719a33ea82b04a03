use Rattle.std.proofs.Common.{◌≡◌, ◌+◌, length, ap, ◌∙◌, subst}
use Rattle.cql_store.specs.Sequence.{settled}
use Rattle.cql_store.proofs.store.Store.settle.Goals as goal

pub invariant_of-self : goal.invariant_of-self
invariant_of-self c =
    let count = c.self.inside.gone + length c.self.inside.rows in
    let old = c.self.inside.stubs.slots in
    let new = c.sweep.new.stubs.slots in
    let at : c.count_of.result ≡ count = c.count_of.ensures ∙ ap (λ l. c.self.inside.gone + length l) c.settle.ensures in
    let same : settled count new ≡ settled count old = subst (λ n. settled n new ≡ settled n old) at c.sweep.ensures.same in
    rw (c.settle.ensures, c.sweep.ensures.firsts, c.sweep.ensures.limits, same) c.self.invariant

pub returns : goal.returns
returns c =
    let count = c.self.inside.gone + length c.self.inside.rows in
    let old = c.self.inside.stubs.slots in
    let new = c.sweep.new.stubs.slots in
    let at : c.count_of.result ≡ count = c.count_of.ensures ∙ ap (λ l. c.self.inside.gone + length l) c.settle.ensures in
    let same : settled count new ≡ settled count old = subst (λ n. settled n new ≡ settled n old) at c.sweep.ensures.same in
    rw (c.settle.ensures, same) c.self.view_is
