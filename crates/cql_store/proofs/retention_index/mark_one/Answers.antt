use Rattle.std.proofs.Common.{◌≡◌, ◌<◌, ◌∙◌, Some, None, IsSome, refl, sym, subst, rules, Option}
use Rattle.slab.proofs.SlabLemmas.{Updates-with_value}
use Rattle.cql_store.specs.declared.stub.Stub.{Stub}
use Rattle.cql_store.specs.Sequence.{slot_of, settled, emptied, greatest, live_count}
use Rattle.cql_store.proofs.Numbers.{known_put, mark_fewer}
use Rattle.cql_store.proofs.Settled.{is_over, none_over, over_same, settled_over, settled_new, within_emptied}
use Rattle.cql_store.proofs.retention_index.mark_one.Goals as goal

pub unreachable-requires : goal.unreachable-requires
unreachable-requires c =
    let none : slot_of c.args.stubs.now.slots c.args.slot ≡ None = search rules in
    none_over c.args.came c.args.stubs.now.slots c.args.retention.now.limits c.args.slot c.requires.known.of_limits c.requires.slot c.requires.over c.requires.fits none

pub returns-clause-settled : goal.returns-clause-settled
returns-clause-settled c =
    let slots = c.args.stubs.now.slots in
    let s = c.in-Some.stub.now in
    let found : slot_of slots c.args.slot ≡ Some s = sym c.in-Some.ensures.value in
    let over = is_over c.args.came slots c.args.retention.now.limits c.args.slot s c.requires.known.of_limits c.requires.slot c.requires.over c.requires.fits found in
    let at : c.mark.new.stub ≡ emptied s = c.mark.ensures ∙ over.after in
    rw at (over_same c.args.came slots c.args.slot s found over)

pub returns-clause-known : goal.returns-clause-known
returns-clause-known c =
    let slots = c.args.stubs.now.slots in
    let s = c.in-Some.stub.now in
    let found : slot_of slots c.args.slot ≡ Some s = sym c.in-Some.ensures.value in
    let over = is_over c.args.came slots c.args.retention.now.limits c.args.slot s c.requires.known.of_limits c.requires.slot c.requires.over c.requires.fits found in
    let at : c.mark.new.stub ≡ emptied s = c.mark.ensures ∙ over.after in
    let up = Updates-with_value c.args.stubs.now c.args.slot (emptied s) (subst (λ (o : Option Stub). IsSome o) (sym found) refl) in
    rw (c.put.ensures.firsts, c.put.ensures.limits, at) (known_put (settled c.args.came slots) _ c.args.retention.now.firsts c.args.retention.now.limits c.args.slot greatest greatest (Some (emptied s)) (settled_new c.args.came slots _ c.args.slot (emptied s) (record { changed = up.changed; others = up.others }) refl) (c.requires.known.of_firsts.covers c.args.slot s over.held) c.requires.slot refl refl c.requires.known)

pub returns-clause-fewer : goal.returns-clause-fewer
returns-clause-fewer c =
    let slots = c.args.stubs.now.slots in
    let s = c.in-Some.stub.now in
    let found : slot_of slots c.args.slot ≡ Some s = sym c.in-Some.ensures.value in
    let over = is_over c.args.came slots c.args.retention.now.limits c.args.slot s c.requires.known.of_limits c.requires.slot c.requires.over c.requires.fits found in
    let at : c.mark.new.stub ≡ emptied s = c.mark.ensures ∙ over.after in
    rw at (subst (λ l. live_count l < live_count (settled c.args.came slots)) (sym (settled_over c.args.came slots c.args.slot s)) (mark_fewer (settled c.args.came slots) c.args.slot s over.held over.live))

pub returns-clause-within : goal.returns-clause-within
returns-clause-within c = λ within.
    let slots = c.args.stubs.now.slots in
    let s = c.in-Some.stub.now in
    let found : slot_of slots c.args.slot ≡ Some s = sym c.in-Some.ensures.value in
    let over = is_over c.args.came slots c.args.retention.now.limits c.args.slot s c.requires.known.of_limits c.requires.slot c.requires.over c.requires.fits found in
    let at : c.mark.new.stub ≡ emptied s = c.mark.ensures ∙ over.after in
    rw (at, settled_over c.args.came slots c.args.slot s) (within_emptied (settled c.args.came slots) c.args.slot s over.held within)
