use Rattle.std.proofs.lemmas.Grind.{common_steps}
use Rattle.std.proofs.Common.{map, take, ◌++◌, ap, sym, ◌∙◌, arith}
use Rattle.cql_hall.specs.Audit.{heard, in_order}
use Rattle.cql_hall.specs.Sent.{sent_by}
use Rattle.cql_hall.proofs.Lookups.{lists_more}
use Rattle.cql_hall.proofs.Sending.{sent_more}
use Rattle.cql_hall.proofs.sent.sent_by.Goals as goal

pub loop-list-preserved : goal.loop-list-preserved
loop-list-preserved c =
    let vs = c.args.receipts.now in
    let t = c.args.tenant in
    let i = c.loop-list.list-index in
    let v = c.list-item.result in
    let so_far = in_order 0 (map (λ list. list.items) (take i vs)) in
    c.in_ok-add_sent.ensures.ok i
    ∙ (λ j. c.loop-list.invariant j ++ sent_by t (map (heard i) (c.deref.ensures.value j)))
    ∙ sym (ap (sent_by t) (lists_more (λ list. list.items) vs i v c.loop-list-test.true c.list-item.is) ∙ sent_more t so_far (map (heard i) v.items))

pub returns-clause-ok : goal.returns-clause-ok
returns-clause-ok c = grind (arith, common_steps)
