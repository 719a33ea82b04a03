use Rattle.std.proofs.lemmas.Grind.{common_steps}
use Rattle.std.proofs.Common.{◌≡◌, ◌+◌, ◌-◌, arith}
use Rattle.cql_eval.proofs.Passed.{moved_many}
use Rattle.cql_eval.proofs.passing.Passing.advance.Goals as goal
use Rattle.cql_eval.proofs.passing.Passing.advance.Goals.{then-self-limit, else-self-limit}

pub overflow_sub-self : goal.overflow_sub-self
overflow_sub-self c =
    let m = c.in_ok-moved.moved in
    let many = moved_many c.args.self.now.walk.held m c.advance.new.self c.in_ok-moved.ensures.moved in
    let all : c.in_ok-all.all ≡ c.args.self.now.held + (m.came.to - m.came.from) = grind (arith, common_steps) in
    omega (arith, many, all, c.requires.many)

pub overflow_sub-self-2 : goal.overflow_sub-self-2
overflow_sub-self-2 c =
    let m = c.in_ok-moved.moved in
    let many = moved_many c.args.self.now.walk.held m c.advance.new.self c.in_ok-moved.ensures.moved in
    let all : c.in_ok-all.all ≡ c.args.self.now.held + (m.came.to - m.came.from) = grind (arith, common_steps) in
    omega (arith, many, all, c.requires.many, c.len.ensures)

pub returns-clause-many : goal.returns-clause-many
returns-clause-many c =
    let m = c.in_ok-moved.moved in
    let many = moved_many c.args.self.now.walk.held m c.advance.new.self c.in_ok-moved.ensures.moved in
    let all : c.in_ok-all.all ≡ c.args.self.now.held + (m.came.to - m.came.from) = grind (arith, common_steps) in
    omega (arith, many, all, c.requires.many, c.len.ensures)
