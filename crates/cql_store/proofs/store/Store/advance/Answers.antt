use Rattle.std.proofs.lemmas.Grind.{common_steps}
use Rattle.std.proofs.Common.{◌+◌, length, arith}
use Rattle.cql_store.specs.Sequence.{settled}
use Rattle.cql_store.proofs.store.Store.advance.Goals as goal

pub returns : goal.returns
returns c = grind (arith, common_steps)

pub invariant_of-self : goal.invariant_of-self
invariant_of-self c =
    let slots = settled (c.self.inside.gone + length c.self.inside.rows) c.move_one.new.stubs.slots in
    rw c.trim-self-inside.ensures.count (c.trim-self-inside.ensures.store slots c.move_one.ensures.known)

pub move_one-requires-clause-can : goal.move_one-requires-clause-can
move_one-requires-clause-can c = grind (arith, common_steps)
