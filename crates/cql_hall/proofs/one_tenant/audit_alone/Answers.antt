use Rattle.std.proofs.Common.{◌<◌, map, length, ap, sym, subst, ◌∙◌, arith}
use Rattle.std.specs.Prelude.{Err, unwrap_or}
use Rattle.std.proofs.lemmas.List.{length-map}
use Rattle.cql_hall.specs.Entering.{noted}
use Rattle.cql_hall.specs.Audit.{Journal, in_order}
use Rattle.cql_hall.specs.Alone.{FirstFailsAlone}
use Rattle.cql_hall.specs.Sent.{sent_as, FailsFirst}
use Rattle.cql_hall.specs.declared.audits.AuditError.TheVariants as error
use Rattle.cql_hall.proofs.Alone.{has_no_mismatch}
use Rattle.cql_hall.proofs.Lookups.{get_map}
use Rattle.cql_hall.proofs.Sending.{none_fails, fails_within, one_fails}
use Rattle.cql_hall.proofs.one_tenant.audit_alone.Goals as goal

pub returns-in_default-clause-audits : goal.returns-in_default-clause-audits
returns-in_default-clause-audits c =
    let journal : Journal = record { table = c.args.table.now; entries = map noted c.args.entries.now } in
    none_fails c.args.tenant journal (in_order 0 (map (λ list. list.items) c.args.receipts.now)) (map sent_as c.deref.result.now) c.in_ok-number.field-0
    (ap (map sent_as) c.deref.ensures.value ∙ c.in_ok-sent.ensures.ok) c.in_default.is c.in_ok-number.ensures.ok

pub index-requires : goal.index-requires
index-requires c =
    let journal : Journal = record { table = c.args.table.now; entries = map noted c.args.entries.now } in
    let within = fails_within c.args.tenant journal (map sent_as c.deref.result.now) c.in_ok-number.field-0 c.in-Some.number c.in-Some.is c.in_ok-number.ensures.ok in
    omega (arith, within, length-map c.deref.result.now sent_as, c.deref.ensures.len)

pub returns-clause-audits : goal.returns-clause-audits
returns-clause-audits c =
    let journal : Journal = record { table = c.args.table.now; entries = map noted c.args.entries.now } in
    let hs = in_order 0 (map (λ list. list.items) c.args.receipts.now) in
    let sent = c.in_ok-sent.sent.items in
    let number = c.in-Some.number in
    let fails = subst (λ rs. FailsFirst c.args.tenant journal (map sent_as rs) c.in_ok-number.field-0) c.deref.ensures.value c.in_ok-number.ensures.ok in
    let within : number < length sent = omega (arith, fails_within c.args.tenant journal (map sent_as sent) c.in_ok-number.field-0 number c.in-Some.is fails, length-map sent sent_as) in
    subst (FirstFailsAlone c.args.tenant journal hs) (sym c.unwrap_or-place.ensures)
    (one_fails c.args.tenant journal hs (map sent_as sent) c.in_ok-number.field-0 number (sent_as c.index.result.now) c.in_ok-sent.ensures.ok c.in-Some.is (get_map sent_as sent number c.index.result.now within c.index.ensures) fails)

pub returns-clause-agreed : goal.returns-clause-agreed
returns-clause-agreed c =
    let journal : Journal = record { table = c.args.table.now; entries = map noted c.args.entries.now } in
    let hs = in_order 0 (map (λ list. list.items) c.args.receipts.now) in
    let sent = c.in_ok-sent.sent.items in
    let number = c.in-Some.number in
    let fails = subst (λ rs. FailsFirst c.args.tenant journal (map sent_as rs) c.in_ok-number.field-0) c.deref.ensures.value c.in_ok-number.ensures.ok in
    let within : number < length sent = omega (arith, fails_within c.args.tenant journal (map sent_as sent) c.in_ok-number.field-0 number c.in-Some.is fails, length-map sent sent_as) in
    λ all. has_no_mismatch journal hs c.args.tenant (Err (error.Mismatch (unwrap_or c.index.result.now.now.place 0))) all
    (one_fails c.args.tenant journal hs (map sent_as sent) c.in_ok-number.field-0 number (sent_as c.index.result.now) c.in_ok-sent.ensures.ok c.in-Some.is (get_map sent_as sent number c.index.result.now within c.index.ensures) fails)
