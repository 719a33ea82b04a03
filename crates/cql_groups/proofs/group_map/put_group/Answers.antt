use Rattle.std.proofs.Common.{◌≡◌, ◌≢◌, ℕ, List, Some, cond, sym, ap, ◌∙◌}
use Rattle.std.specs.BTreeMap.{insert_entry}
use Rattle.std.specs.Ordering.{is_eq}
use Rattle.slab.specs.Slab.{get}
use Rattle.cql_value.specs.Order.{row_cmp}
use Rattle.cql_value.specs.declared.value.Value.{Value}
use Rattle.cql_groups.specs.Filed.{slot_of_key}
use Rattle.cql_groups.proofs.Filed.{slot_missing, put_entries, put_looks, put_filed}
use Rattle.cql_groups.proofs.group_map.put_group.Goals as goal

pub insert_reserved-requires : goal.insert_reserved-requires
insert_reserved-requires c = c.in_ok-make_room.ensures.room

pub returns : goal.returns
returns c =
    let index = c.args.groups.now.index.entries in
    let slots = c.args.groups.now.slots in
    let now = c.insert_reserved.new.self in
    let key = c.args.key.now in
    let id = c.vacant_key-slot.result in
    let made = c.in_ok-make_room.ensures in
    let at : c.insert_reserved.result ≡ id = c.insert_reserved.ensures.key ∙ sym c.vacant_key-slot.ensures.value in
    let up = rw at at c.insert_reserved.ensures.updates in
    let others : (j : ℕ) → j ≢ id → get now j ≡ get slots j = λ j n. up.others j n ∙ made.slots j in
    let free = sym (made.slots id) ∙ c.vacant_key-slot.ensures.vacant in
    let none = slot_missing key index slots c.requires.filed c.requires.none in
    let after = c.insert.new.self.entries in
    let is : after ≡ insert_entry row_cmp index key id = c.in_ok-insert.ensures.entries ∙ ap (λ es. insert_entry row_cmp es c.in_ok-key.key id) made.index ∙ ap (λ k. insert_entry row_cmp index k id) c.in_ok-key.ensures in
    let looks : (q : List Value) → slot_of_key q after ≡ cond (is_eq (row_cmp key q)) (Some id) (slot_of_key q index) = λ q. c.in_ok-insert.ensures.updates.0 q ∙ ap (λ es. cond (is_eq (row_cmp c.in_ok-key.key q)) (Some id) (slot_of_key q es)) made.index ∙ ap (λ k. cond (is_eq (row_cmp k q)) (Some id) (slot_of_key q index)) c.in_ok-key.ensures in
    record {
      entries = put_entries index slots now c.requires.filed key id others none free c.args.group up.changed c.requires.name after is c.insert.ensures.ordered looks;
      looks = put_looks index slots now c.requires.filed key id others none free c.args.group up.changed c.requires.name after is c.insert.ensures.ordered looks;
      filed = put_filed index slots now c.requires.filed key id others none free c.args.group up.changed c.requires.name after is c.insert.ensures.ordered looks;
    }
