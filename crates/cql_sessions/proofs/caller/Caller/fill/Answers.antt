use Rattle.std.proofs.Common.{◌≡◌, ◌++◌, Option, subst, arith}
use Rattle.std.specs.Option.{option_copied}
use Rattle.std.proofs.lemmas.Grind.{common_steps}
use Rattle.cql_core.specs.declared.reply.Reply.{Reply}
use Rattle.cql_sessions.specs.InHand.{to_come, last_reply}
use Rattle.cql_sessions.proofs.caller.Caller.fill.Goals.{in-Some, in-None}
use Rattle.cql_sessions.proofs.caller.Caller.fill.Goals as goal

pub returns-clause-told : goal.returns-clause-told
returns-clause-told c =
    let lent : option_copied c.match-last.lent ≡ last_reply c.args.self.now.receipts.items = elim c.match-last.branch [
      | in-Some w ↦ grind (arith, common_steps)
      | in-None w ↦ grind (arith, common_steps)
    ] in
    subst (λ (l : Option Reply). c.fill.new.buffer ++ to_come c.fill.new.self.held l ≡ c.args.buffer.now ++ to_come c.args.self.now.taking.held l) lent c.fill.ensures.told
