use Rattle.std.proofs.Common.{◌≡◌, ◌==◌, Some, slice_index_or, subst}
use Rattle.std.specs.Bool.{Decides}
use Rattle.cql_asked.proofs.Comparing.{goes_on, ends}
use Rattle.cql_asked.proofs.login.is_equal_key.Goals as goal

pub loop-offset-preserved : goal.loop-offset-preserved
loop-offset-preserved c =
    let byte = slice_index_or c.args.given.now c.loop-offset.offset 0 in
    goes_on c.args.given.now c.args.kept.now c.loop-offset.offset c.loop-offset.differences c.difference-differences.result c.loop-offset-test.true c.loop-offset.invariant
    (subst (λ other. Decides (c.difference-differences.result == 0) (other ≡ Some byte)) c.byte_at.ensures c.difference-differences.ensures)

pub returns-then-differences-eq0 : goal.returns-then-differences-eq0
returns-then-differences-eq0 c = ends c.args.given.now c.args.kept.now c.loop-offset.offset c.loop-offset-test.false (c.loop-offset.invariant.0 c.if-differences-eq0.true)
