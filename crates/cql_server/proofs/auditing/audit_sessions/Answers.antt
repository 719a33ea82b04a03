use Rattle.std.proofs.Common.{◌∙◌, ap, sym, map, sum_by}
use Rattle.cql_hall.specs.Audit.{placed}
use Rattle.cql_sessions.proofs.Taking.{lists_of, agreed_once, placed_in_lists, placed_as_counted}
use Rattle.cql_server.proofs.auditing.audit_sessions.Goals as goal

pub returns-clause-agreed : goal.returns-clause-agreed
returns-clause-agreed c =
    let ends = c.args.ends.items in
    let same = ap (map (λ list. list.items)) (c.deref-3.ensures.value ∙ c.in_ok-heard.ensures.lists) ∙ lists_of ends in
    agreed_once c.args.table.now ends (map (λ list. list.items) c.deref-3.result.now) c.deref-2.result.now c.in_ok-entries.entries same
    (c.deref-2.ensures.value ∙ c.in_ok-heard.ensures.seats) c.in_ok-entries.ensures.agreed c.in_ok-entries.ensures.counted

pub returns-clause-counted : goal.returns-clause-counted
returns-clause-counted c =
    let ends = c.args.ends.items in
    let lists = c.deref.ensures.value ∙ c.in_ok-heard.ensures.lists in
    let seats = c.deref-2.ensures.value ∙ c.in_ok-heard.ensures.seats in
    let receipts = c.placed-receipts.ensures ∙ ap (sum_by (λ list. placed list.items)) lists ∙ placed_in_lists ends in
    let entries = sym c.in_ok-entries.ensures.counted ∙ ap (sum_by (λ s. s.count)) seats ∙ sym (placed_as_counted ends) in
    (receipts, entries ∙ sym receipts)
