use Rattle.std.proofs.Common.{◌≡◌, sym, ap, ◌∙◌, subst}
use Rattle.cql_bag.specs.Bag.{Counts}
use Rattle.cql_bag.specs.Changes.{changed}
use Rattle.cql_algebra.specs.Shape.{key_of}
use Rattle.cql_groups.specs.Filed.{groups_in, keys_in}
use Rattle.cql_groups.specs.Grouped.{IsGrouping, CanChangeAt, IsChangedAt, at_key, lacking_groups, told_of}
use Rattle.cql_groups.proofs.GroupingLaws.{can_change_at, row_pushed, count_pushed, on_ok_from, told_now}
use Rattle.cql_groups.proofs.group.push_row.Goals as goal

pub change_at-requires-clause-can : goal.change_at-requires-clause-can
change_at-requires-clause-can c =
    let layout = c.args.layout.now in
    let is_key : key_of layout.shape.groups c.args.change.now.row ≡ c.set.new.self = sym (c.in_ok-set.ensures ∙ ap (λ l. key_of l c.values.result.now) c.as_slice.ensures ∙ ap (key_of layout.shape.groups) c.values.ensures) in
    subst (λ l. CanChangeAt l c.args.change.now c.set.new.self (at_key c.set.new.self (groups_in c.args.groups.now)) c.args.lacking.now) (sym c.as_slice-2.ensures) (can_change_at c.group_laws.ensures layout c.args.port.now (told_of (groups_in c.args.groups.now)) (groups_in c.args.groups.now) (keys_in c.args.touched.now.items) c.args.lacking.now c.args.change.now c.set.new.self is_key c.requires.held c.requires.lacking c.requires.types c.requires.there)

pub returns : goal.returns
returns c =
    let layout = c.args.layout.now in
    let key = c.set.new.self in
    let es = (groups_in c.args.groups.now) in
    let now = groups_in c.change_at.new.groups in
    let left = (keys_in c.args.touched.now.items) in
    let more = keys_in c.change_at.new.touched.items in
    let before = c.args.lacking.now in
    let after = c.change_at.new.lacking in
    let is_key : key_of layout.shape.groups c.args.change.now.row ≡ key = sym (c.in_ok-set.ensures ∙ ap (λ l. key_of l c.values.result.now) c.as_slice.ensures ∙ ap (key_of layout.shape.groups) c.values.ensures) in
    let turned : IsChangedAt layout.asked c.args.change.now key es now left more before after = subst (λ l. IsChangedAt l c.args.change.now key es now left more before after) c.as_slice-2.ensures c.in_ok-change_at.ensures.0 in
    let held = row_pushed c.group_laws.ensures layout c.args.port.now (told_of es) es now left more before after c.args.change.now key is_key c.requires.held c.requires.types c.requires.there turned in
    let same = told_now c.group_laws.ensures layout (changed c.args.change.now c.args.port.now) (told_of es) now more held in
    let as_told : IsGrouping layout (changed c.args.change.now c.args.port.now) (told_of now) now more = subst (λ t. IsGrouping layout (changed c.args.change.now c.args.port.now) t now more) (sym same) held in
    let count = count_pushed c.group_laws.ensures layout c.args.port.now (told_of es) es now left more before after c.args.change.now key is_key c.requires.held c.requires.types c.requires.there turned c.requires.lacking in
    on_ok_from c.change.result _ _ (λ e. (
      record {
        port = e;
        told = same;
        held = subst (λ (p : Counts). IsGrouping layout p (told_of now) now more) (sym e) as_told;
        lacking = subst (λ (p : Counts). after ≡ lacking_groups layout.shape p) (sym e) count;
      },
      c.in_ok-change_at.ensures.1,
    )) c.change.ensures
