use Rattle.std.proofs.lemmas.Grind.{common_steps}
use Rattle.std.proofs.Common.{◌≡◌, false, ap, sym, ◌∙◌, arith}
use Rattle.std.specs.Prelude.{Some, IsSomeAnd, option_map}
use Rattle.cql_store.specs.Held.{pinned}
use Rattle.cql_store.specs.Stores.{held_at}
use Rattle.cql_core.proofs.Walks.{get_there, all_at, found_more, mapped_is}
use Rattle.cql_core.proofs.going.pin_all.Goals as goal

pub pin-requires-clause-there : goal.pin-requires-clause-there
pin-requires-clause-there c = grind (arith, common_steps)

pub loop-stub_ref-preserved : goal.loop-stub_ref-preserved
loop-stub_ref-preserved c =
    let stub_refs = c.args.stub_refs.now in
    let i = c.loop-stub_ref.stub_ref-index in
    let stub_ref = c.stub_ref-item.result in
    let at = get_there stub_refs i stub_ref c.loop-stub_ref-test.true ∙ ap (λ p. Some p) (sym c.stub_ref-item.is) in
    let live = all_at (λ p. IsSomeAnd (held_at c.args.stores.now p) (λ h. h.overrun ≡ false)) stub_refs i stub_ref at c.requires.live in
    found_more (λ p. option_map (pinned c.args.until) (held_at c.args.stores.now p)) stub_refs i stub_ref c.loop-stub_ref.windows.items _ _ c.loop-stub_ref-test.true c.stub_ref-item.is c.loop-stub_ref.invariant
    (mapped_is (held_at c.args.stores.now stub_ref) (pinned c.args.until) _ _ live c.in_ok-pin.ensures) c.in_ok-push.ensures.items

pub returns : goal.returns
returns c = grind (arith, common_steps)
