use Rattle.std.proofs.lemmas.Grind.{common_steps}
use Rattle.std.proofs.Common.{arith}
use Rattle.cql_eval.proofs.warm.Warm.answer_shared.Goals as goal

pub evaluate-requires-clause-kept : goal.evaluate-requires-clause-kept
evaluate-requires-clause-kept g c = grind (arith, common_steps)

pub new-requires-in-Ok : goal.new-requires-in-Ok
new-requires-in-Ok g c = grind (arith, common_steps)

pub new-requires : goal.new-requires
new-requires g c = grind (arith, common_steps)

pub nothing_asked-blocks-requires : goal.nothing_asked-blocks-requires
nothing_asked-blocks-requires g c = grind (arith, common_steps)

pub returns-in-Ok : goal.returns-in-Ok
returns-in-Ok g c = grind (arith, common_steps)

pub returns-then-asks_nothing : goal.returns-then-asks_nothing
returns-then-asks_nothing g c = grind (arith, common_steps)

pub keep-requires : goal.keep-requires
keep-requires g c = grind (arith, common_steps)
