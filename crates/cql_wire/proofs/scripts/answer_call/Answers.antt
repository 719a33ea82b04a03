use Rattle.std.proofs.Common.{subst}
use Rattle.cql_asked.specs.Fault.{Means}
use Rattle.cql_wire.proofs.Serving.{reply_served, fault_served}
use Rattle.cql_wire.proofs.scripts.answer_call.Goals as goal

pub returns-in-Ok-clause-serves : goal.returns-in-Ok-clause-serves
returns-in-Ok-clause-serves g c = λ request means. reply_served c.args.core.now c.serve-reply.new.core request _ _ _ _ _ _ _ _ (subst (Means request) c.in-Ok.is means) c.serve-reply.ensures c.put_reply.ensures.buffers

pub returns-in-Err-clause-serves : goal.returns-in-Err-clause-serves
returns-in-Err-clause-serves g c = λ request means. fault_served c.args.core.now request c.in-Err.fault _ _ _ _ _ (subst (Means request) c.in-Err.is means) c.put_fault.ensures.buffers
