use Rattle.std.proofs.lemmas.Grind.{common_steps}
use Rattle.std.proofs.Common.{◌-◌, ◌<◌, length, arith}
use Rattle.std.proofs.lemmas.List.Edits.{map_over_more}
use Rattle.cql_connections.proofs.run_queue.RunQueue.forgive.Goals as goal

pub loop-owner-preserved : goal.loop-owner-preserved
loop-owner-preserved g c =
    let within : c.loop-owner.owner < length c.args.self.now.spent.items = omega (arith, c.loop-owner-test.true, c.len-owner-end.ensures) in
    let was = c.loop-owner.invariant in
    record {
      spent = rw c.saturating_sub.ensures (map_over_more (λ nanos. nanos - 25000000) c.args.self.now.spent.items c.loop-owner.self.spent.items c.loop-owner.owner c.index.result.now within was.spent c.index.ensures);
      short = was.short;
      answers = was.answers;
      busy = was.busy;
      busy_of = was.busy_of;
    }

pub returns-clause-spent : goal.returns-clause-spent
returns-clause-spent g c = grind (arith, common_steps)
