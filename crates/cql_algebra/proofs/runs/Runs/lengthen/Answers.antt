use Rattle.std.proofs.Common.{◌<◌, ◌+◌, ◌-◌, subst, arith}
use Rattle.cql_algebra.specs.Blocks.{AreBlocks}
use Rattle.cql_algebra.specs.Runs.{RunsModel, IsStretch}
use Rattle.cql_algebra.proofs.runs.Runs.lengthen.Goals as goal

pub returns-clause-stand : goal.returns-clause-stand
returns-clause-stand c = λ O from lt stand stretch. (
  omega (arith, lt, c.requires.forward),
  subst (λ (v : RunsModel). from < v.next → IsStretch O v.next c.args.to (O (v.next - 1)) → AreBlocks O from v.next v.blocks → AreBlocks O from (c.args.to + 1) c.go_on.new.blocks.items) c.self.view_is (c.go_on.ensures O from) lt stretch stand.1,
)
