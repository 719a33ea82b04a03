use Rattle.std.proofs.Common.{◌∙◌, refl, sym, subst}
use Rattle.cql_groups.specs.Filed.{groups_in, keys_in}
use Rattle.cql_groups.specs.Grouped.{IsTaken}
use Rattle.cql_groups.proofs.Filed.{group_at, changed_at, written_filed}
use Rattle.cql_groups.proofs.GroupingLaws.{changed_none, on_ok_from}
use Rattle.cql_groups.proofs.group.change_at.Goals as goal

pub change_group-requires : goal.change_group-requires
change_group-requires c =
    let m = c.args.groups.now in
    let group = c.in-Some-get_mut.group.now in
    let there = group_at m.index.entries m.slots c.requires.filed c.args.key.now c.in-Some.slot c.in-Some.ensures.found group (sym c.in-Some-get_mut.ensures.value) in
    let can = c.requires.can group (subst (λ o. IsTaken c.args.asked.now c.args.key.now c.args.change.now.row o group) (sym there) refl) in
    record { few = can.0; some = can.1; among = can.2 }

pub change_group-requires-in-None : goal.change_group-requires-in-None
change_group-requires-in-None c =
    let group = c.in_ok-group-in-None.group in
    let can = c.requires.can group (subst (λ o. IsTaken c.args.asked.now c.args.key.now c.args.change.now.row o group) (sym c.in-None.ensures) c.in_ok-group-in-None.ensures) in
    record { few = can.0; some = can.1; among = can.2 }

pub put_group-requires : goal.put_group-requires
put_group-requires c = record {
  filed = c.requires.filed;
  none = c.in-None.ensures;
  name = c.in_ok-change_group-in-None.ensures.group.key ∙ c.in_ok-group-in-None.ensures.keyed;
}

pub returns-in-Some-get_mut : goal.returns-in-Some-get_mut
returns-in-Some-get_mut c =
    let m = c.args.groups.now in
    let group = c.in-Some-get_mut.group.now in
    let new = c.change_group.new.group in
    let found = c.in-Some.ensures.found in
    let there = sym c.in-Some-get_mut.ensures.value in
    on_ok_from c.change_group.result _ _ (λ it. (
      changed_at m.index.entries m.slots c.requires.filed c.args.key.now c.in-Some.slot found group there new c.args.asked.now c.args.change.now (keys_in c.args.touched.now.items) (keys_in c.change_group.new.touched.items) c.args.lacking.now c.change_group.new.lacking it,
      written_filed m.index.entries m.slots c.requires.filed c.args.key.now c.in-Some.slot found group there new it.group.key,
    )) c.change_group.ensures

pub returns-in_ok-change_group-in-None : goal.returns-in_ok-change_group-in-None
returns-in_ok-change_group-in-None c =
    let it = c.in_ok-change_group-in-None.ensures in
    on_ok_from c.put_group.result _ _ (λ put. (
      changed_none c.args.asked.now c.args.change.now c.args.key.now (groups_in c.args.groups.now) (groups_in c.put_group.new.groups) (keys_in c.args.touched.now.items) (keys_in c.change_group-in-None.new.touched.items) c.args.lacking.now c.change_group-in-None.new.lacking c.in_ok-group-in-None.group c.change_group-in-None.new.group
          (sym c.in-None.ensures) c.in_ok-group-in-None.ensures it.group put.entries put.looks it.touched it.lacking,
      put.filed,
    )) c.put_group.ensures
