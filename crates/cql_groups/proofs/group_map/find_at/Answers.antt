use Rattle.cql_groups.proofs.Filed.{slot_found}
use Rattle.cql_groups.proofs.group_map.find_at.Goals as goal

pub returns-then-is_at : goal.returns-then-is_at
returns-then-is_at c =
    let is = c.is_at.ensures c.if-is_at.true in
    record { is = is; found = slot_found c.args.key.now c.args.slot c.args.groups.now.index.entries c.args.groups.now.slots c.requires is }
