use Rattle.std.proofs.Common.{◌≡◌, ◌<◌, [], length, sym, ap, subst, ◌∙◌, arith, refl, rules, None}
use Rattle.cql_bag.specs.Bag.{bag_of}
use Rattle.cql_eval.specs.Projected.{ProjectedWalkModel, projected_content}
use Rattle.cql_eval.specs.Shown.{rows_of, IsStill, StandsFor}
use Rattle.cql_eval.specs.Passing.{fault_over}
use Rattle.cql_eval.specs.declared.passing.Passing.{Passing}
use Rattle.cql_eval.proofs.Passed.{IsThere, gone_there, some_walk, first_walk, nothing_stands, walk_later}
use Rattle.cql_eval.proofs.Quiet.{still_opening, stays}
use Rattle.cql_eval.proofs.passing.begin.Goals as goal

pub unreachable-requires : goal.unreachable-requires
unreachable-requires c =
    let none : c.in_ok-walks.walks.items ≡ [] = search rules in
    some_walk c.args.pin.now c.in_ok-walks.walks.items c.windows.ensures.pin c.requires.plain c.in_ok-walks.ensures none

pub advance-requires-clause-cursor : goal.advance-requires-clause-cursor
advance-requires-clause-cursor c =
    let first = first_walk c.args.pin.now c.in_ok-walks.walks.items c.pop.new.self.items c.in-Some.walk c.windows.ensures.pin c.requires.plain c.in_ok-walks.ensures c.in-Some.ensures.items in
    omega (arith, first.2)

pub advance-requires-clause-many : goal.advance-requires-clause-many
advance-requires-clause-many c =
    let first = first_walk c.args.pin.now c.in_ok-walks.walks.items c.pop.new.self.items c.in-Some.walk c.windows.ensures.pin c.requires.plain c.in_ok-walks.ensures c.in-Some.ensures.items in
    sym (ap length first.1)

pub returns-then-base-from : goal.returns-then-base-from
returns-then-base-from c =
    let p = c.args.pin.now in
    let n = c.args.runs.now.next in
    let k : ProjectedWalkModel = c.in-Some.walk in
    let s : Passing = c.advance.new.self in
    let moved = c.in_ok-advance.ensures in
    let first = first_walk p c.in_ok-walks.walks.items c.pop.new.self.items k c.windows.ensures.pin c.requires.plain c.in_ok-walks.ensures c.in-Some.ensures.items in
    let based : p.base < n = omega (arith, c.if-base-from.true, c.base.ensures, c.from.ensures.value, c.requires.next) in
    let at : c.from-then-base-from.result ≡ n = c.from-then-base-from.ensures.value ∙ sym c.requires.next in
    let there : IsThere p n s
    = gone_there c.put_all_counts.ensures c.own_entries.ensures c.change_types_law.ensures p c.requires.plain c.requires.kind 0 n k s c.in_ok-advance.field-0 based first.0 moved.pin (moved.cursor ∙ at)
    (moved.held ∙ ap (λ t. projected_content t k.pin) at) moved.moved moved.many (moved.fault ∙ ap (λ l. fault_over l s.held) c.limit.ensures) in
    let still : IsStill p n c.args.until = still_opening p n c.args.until (omega (arith, based, c.requires.next)) c.requires.next c.requires.still in
    record {
      based = omega (arith, based, still.forward);
      next = c.in_ok-hold.ensures.next;
      stand = c.in_ok-hold.ensures.stand (bag_of (rows_of s.walk.held)) there.stands c.requires.stand;
      walk = walk_later n c.args.until _ _ s.walk still.forward there.walk;
      many = moved.many;
      stands = subst (StandsFor p.plan.output s.last (bag_of (rows_of s.walk.held))) (sym (stays p n c.args.until c.args.until still.quiet still.forward (omega arith))) there.stands;
    }

-- the base itself comes first
pub pass_instant-requires-clause-passed : goal.pass_instant-requires-clause-passed
pass_instant-requires-clause-passed c =
    let p = c.args.pin.now in
    let n = c.args.runs.now.next in
    let k : ProjectedWalkModel = c.in-Some.walk in
    let first = first_walk p c.in_ok-walks.walks.items c.pop.new.self.items k c.windows.ensures.pin c.requires.plain c.in_ok-walks.ensures c.in-Some.ensures.items in
    record {
      based = omega (arith, c.requires.next, c.windows.ensures.pin.begins);
      next = refl;
      stand = c.requires.stand;
      walk = walk_later 0 n _ _ k (omega arith) first.0;
      many = sym (ap length first.1);
      stands = nothing_stands p n (record { walk = k; held = 0; last = record { bag = c.new.result; fault = None } }) c.requires.kind (omega (arith, c.requires.next, c.if-base-from.false, c.base.ensures, c.from.ensures.value)) first.1 refl;
    }
