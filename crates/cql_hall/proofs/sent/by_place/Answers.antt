use Rattle.std.proofs.lemmas.Grind.{common_steps}
use Rattle.std.proofs.Common.{◌≡◌, [], ◌∷◌, ◌++◌, map, length, take, ap, sym, ◌∙◌, arith}
use Rattle.std.specs.Prelude.{if◌then◌else◌}
use Rattle.std.proofs.lemmas.List.{length-map, length-take-le}
use Rattle.cql_hall.specs.Tracks.{is_at}
use Rattle.cql_hall.specs.Sent.{sent_as, numbers_at}
use Rattle.cql_hall.proofs.Lookups.{map_more}
use Rattle.cql_hall.proofs.Sending.{numbers_more}
use Rattle.cql_hall.proofs.sent.by_place.Goals as goal

pub loop-number-preserved : goal.loop-number-preserved
loop-number-preserved c =
    let rs = c.args.sent.now in
    let i = c.loop-number.number in
    let r = c.index-sent-number.result in
    let so_far = map sent_as (take i rs) in
    let many : length so_far ≡ i = length-map (take i rs) sent_as ∙ length-take-le i rs (omega (arith, c.loop-number-test.true)) in
    record {
      room = c.add_number.ensures.room ∙ c.loop-number.invariant.room;
      numbers = λ place within.
          c.in_ok-add_number.ensures.ok place (omega (arith, within, c.loop-number.invariant.room))
          ∙ ap (λ ks. ks ++ (if is_at place r.now.place then i ∷ [] else [])) (c.loop-number.invariant.numbers place within)
          ∙ sym (ap (numbers_at place 0) (map_more sent_as rs i r c.loop-number-test.true c.index-sent-number.is) ∙ numbers_more so_far (sent_as r) place 0 i (omega (arith, many)));
    }

pub returns-clause-ok : goal.returns-clause-ok
returns-clause-ok c = grind (arith, common_steps)
