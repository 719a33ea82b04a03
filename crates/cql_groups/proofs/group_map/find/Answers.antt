use Rattle.std.proofs.Common.{sym}
use Rattle.cql_groups.proofs.Filed.{found_at, group_missing}
use Rattle.cql_groups.proofs.group_map.find.Goals as goal

pub returns-in-Some : goal.returns-in-Some
returns-in-Some c =
    let found = sym c.in-Some.ensures.value in
    record { is = found_at c.args.key.now c.in-Some.slot.now c.args.groups.now.index.entries c.args.groups.now.slots c.requires found; found = found }

pub returns-in-None : goal.returns-in-None
returns-in-None c = group_missing c.args.key.now c.args.groups.now.index.entries c.args.groups.now.slots c.requires (sym c.in-None.ensures.value)
