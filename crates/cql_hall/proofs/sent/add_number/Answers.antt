use Rattle.std.proofs.Common.{arith}
use Rattle.cql_hall.proofs.Sending.{number_added}
use Rattle.cql_hall.proofs.sent.add_number.Goals as goal

pub returns-clause-ok : goal.returns-clause-ok
returns-clause-ok c = λ place within.
    number_added (λ list. list.items) c.args.numbers.now.items c.args.receipt.now.place c.in-Some.place c.push.new.self c.index_mut.result.now c.args.number
    c.in-Some.ensures.0 (omega (arith, c.in-Some.ensures.1)) c.index_mut.ensures.value c.in_ok-push.ensures.items place
