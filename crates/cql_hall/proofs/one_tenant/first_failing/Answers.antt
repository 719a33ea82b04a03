use Rattle.std.proofs.Common.{◌≡◌, ◌+◌, ◌<◌, [], ◌∷◌, ◌++◌, map, length, take, ap, sym, subst, ◌∙◌, arith}
use Rattle.std.specs.Prelude.{option_map}
use Rattle.std.specs.List.{take-map}
use Rattle.std.proofs.lemmas.List.{length-map}
use Rattle.std.proofs.lemmas.List.Elements.{All-same}
use Rattle.cql_core.specs.Machine.{opening}
use Rattle.cql_core.specs.Steps.{stepped_of}
use Rattle.cql_hall.specs.Entering.{noted}
use Rattle.cql_hall.specs.Audit.{Journal}
use Rattle.cql_hall.specs.Tells.{after_alone, replayed_alone}
use Rattle.cql_hall.specs.Sent.{sent_as, numbers_at, FailsAmong}
use Rattle.cql_hall.proofs.Lookups.{map_more, get_map}
use Rattle.cql_hall.proofs.Telling.{replayed_alone_more}
use Rattle.cql_hall.proofs.Sending.{numbers_below, numbers_read, so_far_none, so_far_more, so_far_all}
use Rattle.cql_hall.proofs.one_tenant.first_failing.Goals as goal

pub first_among-first-requires : goal.first_among-first-requires
first_among-first-requires c =
    let rs = c.args.sent.now in
    let i = c.loop-i.i in
    let count = length c.args.entries.now in
    let many : length c.in_ok-numbers.numbers.items ≡ count = omega (arith, c.in_ok-numbers.numbers.ok, c.in_ok-numbers.ensures.room) in
    let is = numbers_read (λ list. list.items) c.in_ok-numbers.numbers.items count i c.index.result.now c.deref.result.now (map sent_as rs)
    many c.loop-i-test.true c.index.ensures c.deref.ensures.value c.in_ok-numbers.ensures.ok in
    All-same (λ number. number < length rs) c.deref.result.now (numbers_at i 0 (map sent_as rs)) is (numbers_below i (map sent_as rs) (length rs) (length-map rs sent_as))

pub loop-i-init : goal.loop-i-init
loop-i-init c = record {
  core = c.in_ok-core.ensures;
  first = so_far_none c.args.tenant (record { table = c.args.table.now; entries = map noted c.args.entries.now }) (map sent_as c.args.sent.now) c.unplaced-first.result (length c.args.entries.now)
      (sym (length-map c.args.entries.now noted)) c.unplaced-first.ensures;
}

pub loop-i-preserved : goal.loop-i-preserved
loop-i-preserved c =
    let t = c.args.tenant in
    let es = c.args.entries.now in
    let i = c.loop-i.i in
    let e = c.index-entries-i.result in
    let n = noted e in
    let ns = map noted (take i es) in
    let start = opening c.args.table.now in
    let ss = map sent_as c.args.sent.now in
    let journal : Journal = record { table = c.args.table.now; entries = map noted es } in
    let step = c.in_ok-step.step in
    let many : length c.in_ok-numbers.numbers.items ≡ length es = omega (arith, c.in_ok-numbers.numbers.ok, c.in_ok-numbers.ensures.room) in
    let is = numbers_read (λ list. list.items) c.in_ok-numbers.numbers.items (length es) i c.index.result.now c.deref.result.now ss
    many c.loop-i-test.true c.index.ensures c.deref.ensures.value c.in_ok-numbers.ensures.ok in
    let more : map noted (take (i + 1) es) ≡ ns ++ n ∷ [] = map_more noted es i e c.loop-i-test.true c.index-entries-i.is in
    let among = subst (λ ks. FailsAmong ss (option_map stepped_of step) ks c.loop-i.first c.first_among-first.result) is c.first_among-first.ensures in
    record {
      core = c.in_ok-step.ensures.core ∙ ap (λ s. after_alone t s n) c.loop-i.invariant.core ∙ sym (ap (replayed_alone t start) more ∙ replayed_alone_more t ns start n);
      first = so_far_more t journal i n c.loop-i.core (option_map stepped_of step) ss (get_map noted es i e c.loop-i-test.true c.index-entries-i.is)
          (c.loop-i.invariant.core ∙ sym (ap (replayed_alone t start) (take-map noted i es))) c.in_ok-step.ensures.told c.loop-i.first c.first_among-first.result among c.loop-i.invariant.first;
    }

pub returns-clause-ok : goal.returns-clause-ok
returns-clause-ok c =
    let es = c.args.entries.now in
    so_far_all c.args.tenant (record { table = c.args.table.now; entries = map noted es }) c.loop-i.i (map sent_as c.args.sent.now) c.loop-i.first
    (omega (arith, length-map es noted, c.loop-i-test.false)) c.loop-i.invariant.first
