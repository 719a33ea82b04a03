use Rattle.std.proofs.Common.{◌≤◌, ◌+◌, sym, subst, rules, arith}
use Rattle.std.specs.List.{All}
use Rattle.cql_bag.specs.Levels.{changed_where}
use Rattle.cql_store.specs.Sequence.{settled, greatest, AreKnown}
use Rattle.cql_store.proofs.Lifted.{known_lifted}
use Rattle.cql_store.proofs.Settled.{settled_none, settled_later}
use Rattle.cql_store.proofs.retention_index.overrun_all.Goals as goal

pub returns-then-mark_few-clause-known : goal.returns-then-mark_few-clause-known
returns-then-mark_few-clause-known c =
    let few = c.mark_few.new.stubs.slots in
    let limits = c.mark_few.new.retention.limits in
    let none : All (λ n. c.args.came + 1 ≤ n) limits = search rules in
    subst (λ l. AreKnown l c.mark_few.new.retention.firsts limits) (sym (settled_none c.args.came few limits c.mark_few.ensures.known.of_limits c.mark_few.ensures.within none)) c.mark_few.ensures.known

pub returns-clause-known : goal.returns-clause-known
returns-clause-known c =
    let few = c.mark_few.new.stubs.slots in
    let firsts = c.mark_few.new.retention.firsts in
    let limits = c.mark_few.new.retention.limits in
    let count = c.args.came + 1 in
    let lifted = known_lifted (settled c.args.came few) firsts limits count c.mark_few.ensures.known c.mark_few.ensures.within (omega (arith, c.requires.fits)) in
    rw (c.lift.ensures.firsts, c.lift.ensures.limits) (subst (λ l. AreKnown l (changed_where limits count greatest firsts) (changed_where limits count greatest limits)) (settled_later c.args.came count few (omega arith)) lifted)
