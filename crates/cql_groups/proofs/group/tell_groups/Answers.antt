use Rattle.std.proofs.Common.{◌≡◌, List, [], ◌∷◌, length, refl, sym, subst, append-nil, arith}
use Rattle.std.proofs.lemmas.Result.{err_from_is_err_and}
use Rattle.cql_groups.specs.Filed.{groups_in, keys_in}
use Rattle.cql_groups.specs.declared.group_map.Touched.{Touched}
use Rattle.cql_groups.specs.Grouped.{IsGrouping, told_of}
use Rattle.cql_groups.proofs.Filed.{entries_sorted, entries_found}
use Rattle.cql_groups.proofs.GroupValue.{value_is}
use Rattle.cql_groups.proofs.Keyed.{told_both, told_more, tells_shape}
use Rattle.cql_groups.proofs.group.tell_groups.Goals as goal

none_left : (touched : List Touched) → length touched ≡ 0 → keys_in touched ≡ []
none_left [] h = refl
none_left (x ∷ xs) h = absurd (omega (arith, h))

pub loop-first-init : goal.loop-first-init
loop-first-init c =
    let es = groups_in c.args.groups.now in
    record {
      groups = subst (λ l. IsGrouping c.args.layout.now c.args.port.now (told_of es) es (keys_in l)) (sym c.as_slice-left.ensures.value) c.requires.held;
      filed = c.requires.filed;
      told = ([], sym (append-nil c.args.out.now.items), record { there = tt; leads = refl; columns = λ _. tt });
    }

pub settle_key-requires : goal.settle_key-requires
settle_key-requires c =
    let es = groups_in c.loop-first.groups in
    record {
      held = subst (λ l. IsGrouping c.args.layout.now c.args.port.now (told_of es) es (keys_in l)) c.in-Some.ensures.cases.0 c.loop-first.invariant.groups;
      filed = c.loop-first.invariant.filed;
    }

pub loop-first-preserved : goal.loop-first-preserved
loop-first-preserved c = record {
  groups = c.in_ok-settle_key.ensures.told.0.groups;
  filed = c.in_ok-settle_key.ensures.told.1;
  told = told_both c.args.layout.now.shape (told_of (groups_in c.args.groups.now)) (told_of (groups_in c.loop-first.groups)) (told_of (groups_in c.settle_key.new.groups)) c.args.out.now.items c.loop-first.out.items c.settle_key.new.out.items c.loop-first.invariant.told c.in_ok-settle_key.ensures.told.0.told;
}

pub returns-in_err-settle_key : goal.returns-in_err-settle_key
returns-in_err-settle_key c =
    let p = err_from_is_err_and c.from_residual.result c.from_residual.ensures.1 in
    rw (p.1, p.2) (record { told = tt; err = (told_more c.args.layout.now.shape (told_of (groups_in c.args.groups.now)) (told_of (groups_in c.loop-first.groups)) c.args.out.now.items c.loop-first.out.items c.settle_key.new.out.items c.loop-first.invariant.told c.in_err-settle_key.ensures.err.0, c.in_err-settle_key.ensures.err.1) })

pub returns : goal.returns
returns c =
    let groups = c.loop-first.groups in
    let es = groups_in groups in
    let layout = c.args.layout.now in
    let port = c.args.port.now in
    let filed = c.loop-first.invariant.filed in
    let done : IsGrouping layout port (told_of es) es [] = subst (IsGrouping layout port (told_of es) es) (none_left c.loop-first.left.now c.in_default.ensures.cases) c.loop-first.invariant.groups in
    record {
      told = (
        record {
          groups = subst (λ l. IsGrouping layout port (told_of es) es (keys_in l)) (sym c.clear.ensures.items) done;
          told = tells_shape layout.shape port (told_of (groups_in c.args.groups.now)) (told_of es) c.args.out.now.items c.loop-first.out.items
              (value_is c.group_laws.ensures layout port (told_of es) es done (entries_sorted groups.index.entries groups.slots filed) (entries_found groups.index.entries groups.slots filed)) c.loop-first.invariant.told;
        },
        filed,
      );
      err = tt;
    }
