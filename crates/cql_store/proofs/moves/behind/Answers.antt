use Rattle.std.proofs.Common.{take, drop, ◌∙◌}
use Rattle.std.proofs.lemmas.Result.{IfOk-weaker}
use Rattle.cql_window.proofs.Coming.{more_come}
use Rattle.cql_store.proofs.moves.behind.Goals as goal

pub returns-else-ahead-len : goal.returns-else-ahead-len
returns-else-ahead-len c =
    let law = more_come c.args.columns.now c.args.count c.args.kept.now (take c.args.ahead (drop c.args.from c.args.rows.now)) c.requires.some c.requires.newest in
    IfOk-weaker c.anew.result _ _ (λ k is. is ∙ law) c.anew.ensures
