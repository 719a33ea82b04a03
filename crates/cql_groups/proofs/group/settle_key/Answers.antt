use Rattle.std.proofs.Common.{inl, inr, sym, ap, subst}
use Rattle.std.proofs.lemmas.Result.{err_from_is_err_and}
use Rattle.slab.specs.Slab.{with_value}
use Rattle.cql_groups.specs.Filed.{entries_in, groups_in, keys_in}
use Rattle.cql_groups.specs.Grouped.{IsLacking, IsSettled, told_of}
use Rattle.cql_groups.specs.declared.group.Group.{Group}
use Rattle.cql_groups.proofs.Filed.{group_at, written_filed, written_is, written_entries, written_looks}
use Rattle.cql_groups.proofs.GroupingLaws.{held, settled_some, settled_none, told_none, told_to}
use Rattle.cql_groups.proofs.GroupValue.{lacking}
use Rattle.cql_groups.proofs.group.settle_key.Goals as goal

pub returns-in_default : goal.returns-in_default
returns-in_default c = record {
  told = (told_none c.group_laws.ensures c.args.layout.now c.args.port.now (groups_in c.args.groups.now) c.args.touched.now.key (keys_in c.args.rest.now) c.requires.held c.in_default.ensures c.args.out.now.items, c.requires.filed);
  err = tt;
}

pub returns-in_err-settle_group : goal.returns-in_err-settle_group
returns-in_err-settle_group c =
    let m = c.args.groups.now in
    let es = groups_in m in
    let key = c.args.touched.now.key in
    let group = c.in-Some-get_mut.group.now in
    let there = group_at m.index.entries m.slots c.requires.filed key c.in-Some.slot c.in-Some.ensures.found group (sym c.in-Some-get_mut.ensures.value) in
    let p = err_from_is_err_and c.from_residual.result c.from_residual.ensures.1 in
    rw (p.1, p.2) (record {
      told = tt;
      err = (
        c.in_err-settle_group.ensures.err.0,
        elim c.in_err-settle_group.ensures.err.1 [
          | inl n ↦ inl n
          | inr o ↦ inr (o.0, lacking c.group_laws.ensures c.args.layout.now c.args.port.now (told_of es) es key (keys_in c.args.rest.now) c.requires.held group there (subst (λ s. IsLacking s group) c.as_slice.ensures o.1))
        ],
      );
    })

pub settle_group-requires : goal.settle_group-requires
settle_group-requires c =
    let m = c.args.groups.now in
    let es = groups_in m in
    let key = c.args.touched.now.key in
    let group = c.in-Some-get_mut.group.now in
    let there = group_at m.index.entries m.slots c.requires.filed key c.in-Some.slot c.in-Some.ensures.found group (sym c.in-Some-get_mut.ensures.value) in
    (held c.group_laws.ensures c.group_laws.ensures.typing c.args.layout.now c.args.port.now (told_of es) es key (keys_in c.args.rest.now) c.requires.held group there).group.few

pub let_go-requires : goal.let_go-requires
let_go-requires c =
    let m = c.args.groups.now in
    let at = c.in-Some.ensures.found in
    let same = ap (λ (g : Group). g.key) c.in_ok-settle_group.ensures.settled.0.same in
    let there = sym c.in-Some-get_mut.ensures.value in
    record {
      filed = written_filed m.index.entries m.slots c.requires.filed c.args.touched.now.key c.in-Some.slot at c.in-Some-get_mut.group.now there c.settle_group.new.group same;
      there = record { is = written_is m.index.entries m.slots c.requires.filed c.args.touched.now.key c.in-Some.slot at c.in-Some-get_mut.group.now there c.settle_group.new.group same; found = at };
    }

pub returns-then-not-branch : goal.returns-then-not-branch
returns-then-not-branch c =
    let m = c.args.groups.now in
    let es = groups_in m in
    let key = c.args.touched.now.key in
    let group = c.in-Some-get_mut.group.now in
    let new = c.settle_group.new.group in
    let at = c.in-Some.ensures.found in
    let in_slot = sym c.in-Some-get_mut.ensures.value in
    let there = group_at m.index.entries m.slots c.requires.filed key c.in-Some.slot at group in_slot in
    let layout = c.args.layout.now in
    let port = c.args.port.now in
    let laws = c.group_laws.ensures in
    let rest = keys_in c.args.rest.now in
    let it = c.in_ok-settle_group.ensures.settled in
    let some = c.in_ok-settle_group.field-0 in
    let settled : IsSettled layout.sources group new some = subst (λ s. IsSettled s group new some) c.as_slice.ensures it.0 in
    let same = ap (λ (g : Group). g.key) settled.same in
    let now = groups_in c.let_go.new.groups in
    let grouping = settled_none laws laws.typing layout port (told_of es) es key rest c.requires.held group there new some (entries_in m.index.entries (with_value m.slots c.in-Some.slot new)) now settled c.if-not-branch.true
    (written_entries m.index.entries m.slots c.requires.filed key c.in-Some.slot at group in_slot new same) (written_looks m.index.entries m.slots c.requires.filed key c.in-Some.slot at group in_slot new same) c.let_go.ensures.entries c.let_go.ensures.looks in
    record {
      told = (told_to laws layout port es now key rest c.requires.held group there new.told settled.due c.args.out.now.items c.settle_group.new.out.items it.1 grouping, c.let_go.ensures.filed);
      err = tt;
    }

pub returns-else-not-branch : goal.returns-else-not-branch
returns-else-not-branch c =
    let m = c.args.groups.now in
    let es = groups_in m in
    let key = c.args.touched.now.key in
    let group = c.in-Some-get_mut.group.now in
    let new = c.settle_group.new.group in
    let at = c.in-Some.ensures.found in
    let in_slot = sym c.in-Some-get_mut.ensures.value in
    let there = group_at m.index.entries m.slots c.requires.filed key c.in-Some.slot at group in_slot in
    let layout = c.args.layout.now in
    let port = c.args.port.now in
    let laws = c.group_laws.ensures in
    let rest = keys_in c.args.rest.now in
    let it = c.in_ok-settle_group.ensures.settled in
    let some = c.in_ok-settle_group.field-0 in
    let settled : IsSettled layout.sources group new some = subst (λ s. IsSettled s group new some) c.as_slice.ensures it.0 in
    let same = ap (λ (g : Group). g.key) settled.same in
    let now = entries_in m.index.entries (with_value m.slots c.in-Some.slot new) in
    let grouping = settled_some laws laws.typing layout port (told_of es) es key rest c.requires.held group there new some now settled c.if-not-branch.false
    (written_entries m.index.entries m.slots c.requires.filed key c.in-Some.slot at group in_slot new same) (written_looks m.index.entries m.slots c.requires.filed key c.in-Some.slot at group in_slot new same) in
    record {
      told = (told_to laws layout port es now key rest c.requires.held group there new.told settled.due c.args.out.now.items c.settle_group.new.out.items it.1 grouping, written_filed m.index.entries m.slots c.requires.filed key c.in-Some.slot at group in_slot new same);
      err = tt;
    }
