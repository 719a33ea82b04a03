use Rattle.std.proofs.lemmas.Grind.{common_steps}
use Rattle.std.proofs.Common.{subst, arith}
use Rattle.cql_window.specs.Window.{IsWindow}
use Rattle.cql_store.specs.Sequence.{shifted}
use Rattle.cql_store.proofs.Later.{some_ready}
use Rattle.cql_store.proofs.moves.kept_at.Goals as goal

pub returns-in_ok-kept-in-Parts-clause-ok : goal.returns-in_ok-kept-in-Parts-clause-ok
returns-in_ok-kept-in-Parts-clause-ok c =
    let bounds = subst IsWindow c.in-Parts.is c.keeps_bounds.ensures in
    let front = rw c.saturating_sub-read_to.ensures at c.ahead_of-ahead.ensures.value in
    some_ready c.args.rows.now c.args.to c.in-Parts.columns c.in-Parts.count c.ahead_of-ahead.result c.of.result (shifted c.args.gone c.args.stub.now)
    c.in-Parts.is c.requires.sound c.requires.can bounds.0 front
    (grind (arith, c.of.ensures, c.in_ok-kept-in-Parts.ensures, c.as_slice-columns.ensures, c.saturating_sub-read_to.ensures))

pub behind-requires-clause-some : goal.behind-requires-clause-some
behind-requires-clause-some c = grind (arith, common_steps)

pub returns-then-ahead-eq0-clause-ok : goal.returns-then-ahead-eq0-clause-ok
returns-then-ahead-eq0-clause-ok c = grind (arith, common_steps)

pub returns-then-ahead-eq0-clause-err : goal.returns-then-ahead-eq0-clause-err
returns-then-ahead-eq0-clause-err c = grind (arith, common_steps)
