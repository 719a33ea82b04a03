use Rattle.std.proofs.lemmas.Grind.{common_steps}
use Rattle.std.proofs.Common.{rules, arith}
use Rattle.cql_algebra.proofs.Extend.{extends_set, extends_new}
use Rattle.cql_algebra.proofs.runs.extend.Goals as goal

pub returns-then-goes_on-clause-ok : goal.returns-then-goes_on-clause-ok
returns-then-goes_on-clause-ok c =
    extends_set c.args.from c.args.to c.args.output c.args.blocks.now.items c.len-last.result c.index_mut.result.now c.requires.forward (rw c.as_slice.ensures.value at c.if-goes_on.ensures.0 (search rules)) (search rules) c.index_mut.ensures.value

pub returns-clause-ok : goal.returns-clause-ok
returns-clause-ok c = rw c.in_ok-push.ensures.items (extends_new _ _ _ _ c.requires.forward (search rules) (search rules))

pub overflow_sub-last : goal.overflow_sub-last
overflow_sub-last c = grind (arith, common_steps)

pub index_mut-requires : goal.index_mut-requires
index_mut-requires c = grind (arith, common_steps)
