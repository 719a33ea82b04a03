use Rattle.std.proofs.Common.{◌≡◌, ◌<◌, length, ap, subst, sym, ◌∙◌, arith}
use Rattle.cql_tenants.specs.Named.{change_nth}
use Rattle.cql_core.specs.Revoked.{revoked_at, AreAllStreams}
use Rattle.cql_core.proofs.Closes.{changed_next, changed_length, freed_twice, held_left, streams_left}
use Rattle.cql_core.proofs.revoking.revoke_all.Goals as goal

pub revoke_at-requires-clause-within : goal.revoke_at-requires-clause-within
revoke_at-requires-clause-within c =
    let e : length c.loop-index.queries ≡ length c.args.queries.now = ap length c.loop-index.invariant.0 ∙ changed_length (revoked_at c.args.owner c.args.stream) c.args.queries.now c.loop-index.index in
    omega (arith, e, c.loop-index-test.true, c.len-index-end.ensures)

pub loop-index-preserved : goal.loop-index-preserved
loop-index-preserved c =
    let lt : c.loop-index.index < length c.args.queries.now = omega (arith, c.loop-index-test.true, c.len-index-end.ensures) in
    let freed = c.revoke_at.ensures.freed in (
      c.revoke_at.ensures.revoked ∙ ap (change_nth (revoked_at c.args.owner c.args.stream) c.loop-index.index) c.loop-index.invariant.0
          ∙ changed_next (revoked_at c.args.owner c.args.stream) c.args.queries.now c.loop-index.index lt,
      freed_twice c.args.stores.now c.loop-index.stores c.revoke_at.new.stores c.args.queries.now c.loop-index.queries c.revoke_at.new.queries c.loop-index.invariant.1 freed,
      subst (AreAllStreams c.revoke_at.new.stores) (sym c.revoke_at.ensures.revoked)
          (streams_left c.args.owner c.args.stream c.loop-index.stores c.revoke_at.new.stores freed.shape c.loop-index.index c.loop-index.queries
          c.loop-index.invariant.2),
      held_left c.loop-index.stores c.revoke_at.new.stores c.loop-index.queries c.revoke_at.new.queries freed c.loop-index.invariant.3,
    )
