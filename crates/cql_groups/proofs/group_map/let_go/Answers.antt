use Rattle.cql_groups.proofs.Filed.{gone_entries, gone_looks, gone_filed}
use Rattle.cql_groups.proofs.group_map.let_go.Goals as goal

pub returns : goal.returns
returns c =
    let index = c.args.groups.now.index.entries in
    let slots = c.args.groups.now.slots in
    let now = c.try_remove.new.self in
    let key = c.args.key.now in
    let up = c.try_remove.ensures.updates in
    let after = c.remove.new.self.entries in
    record {
      entries = gone_entries index slots now c.requires.filed key c.args.slot up.others c.requires.there.found up.changed after c.remove.ensures.entries c.remove.ensures.ordered c.remove.ensures.updates.0;
      looks = gone_looks index slots now c.requires.filed key c.args.slot up.others c.requires.there.found up.changed after c.remove.ensures.entries c.remove.ensures.ordered c.remove.ensures.updates.0;
      filed = gone_filed index slots now c.requires.filed key c.args.slot up.others c.requires.there.found up.changed after c.remove.ensures.entries c.remove.ensures.ordered c.remove.ensures.updates.0;
    }
