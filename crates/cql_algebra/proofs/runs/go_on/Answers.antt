use Rattle.std.proofs.lemmas.Grind.{common_steps}
use Rattle.std.proofs.Common.{rules, arith}
use Rattle.cql_algebra.proofs.Extend.{goes_on_set, goes_on_empty}
use Rattle.cql_algebra.proofs.runs.go_on.Goals as goal

pub returns-then-adjoins : goal.returns-then-adjoins
returns-then-adjoins c =
    goes_on_set c.args.from c.args.to c.args.blocks.now.items c.len-last.result c.index_mut.result.now c.requires.forward (rw c.as_slice.ensures.value at c.if-adjoins.ensures.0 (search rules)) (search rules) c.index_mut.ensures.value

pub returns-else-adjoins : goal.returns-else-adjoins
returns-else-adjoins c = goes_on_empty c.args.from c.args.to c.args.blocks.now.items c.requires.forward (search rules)

pub overflow_sub-last : goal.overflow_sub-last
overflow_sub-last c = grind (arith, common_steps)

pub index_mut-requires : goal.index_mut-requires
index_mut-requires c = grind (arith, common_steps)
