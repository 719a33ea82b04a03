use Rattle.std.proofs.Common.{◌≡◌, subst}
use Rattle.std.specs.Prelude.{None}
use Rattle.std.specs.List.{position}
use Rattle.cql_connections.specs.declared.run_queue.RunQueue.{RunQueue}
use Rattle.cql_connections.specs.Queues.{may_begin}
use Rattle.cql_connections.proofs.Begins.{if_none}
use Rattle.cql_connections.proofs.run_queue.RunQueue.take.Goals as goal

pub returns-clause-none : goal.returns-clause-none
returns-clause-none g c = if_none c.take_answer-task.result (λ h. (c.in_default-take_short.ensures.none.0, λ computes. subst (λ (q : RunQueue g.row.T.Denot). position (λ owner. may_begin q owner) q.answers.order ≡ None) c.in_default-take_short.ensures.none.1 h.0)) c.take_answer-task.ensures.none
