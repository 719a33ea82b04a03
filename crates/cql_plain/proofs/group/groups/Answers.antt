use Rattle.std.proofs.lemmas.Grind.{common_steps}
use Rattle.std.proofs.Common.{arith, ◌≡◌, [], subst}
use Rattle.std.specs.Option.{option_map}
use Rattle.cql_algebra.specs.Shape.{key_of}
use Rattle.cql_plain.specs.Grouping.{gather, entries_from}
use Rattle.cql_plain.proofs.Grouping.{made_groups}
use Rattle.cql_plain.proofs.group.groups.Goals as goal

pub returns : goal.returns
returns c =
    let f = key_of c.args.columns.now in
    let all = subst (λ o. gather f (entries_from (option_map (λ e. (e.0.now, e.1.now)) o) c.loop-next.left) c.loop-next.groups.entries ≡ gather f c.args.bag.now []) c.in_default.is c.loop-next.invariant.made in
    made_groups c.own_entries.ensures c.put_all_counts.ensures c.args.columns.now c.args.bag.now c.loop-next.groups.entries c.entries-left.ensures.bag all

pub loop-next-preserved : goal.loop-next-preserved
loop-next-preserved c = grind (arith, common_steps)

pub loop-next-smaller : goal.loop-next-smaller
loop-next-smaller c = grind (arith, common_steps)
