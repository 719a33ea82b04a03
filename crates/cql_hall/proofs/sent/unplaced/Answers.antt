use Rattle.std.proofs.Common.{not, map, ap, ◌∙◌, arith}
use Rattle.std.proofs.lemmas.List.{length-map}
use Rattle.std.proofs.lemmas.Option.{slice_get_within}
use Rattle.cql_hall.specs.Sent.{sent_as}
use Rattle.cql_hall.proofs.Lookups.{get_map}
use Rattle.cql_hall.proofs.Sending.{within_of, within_more}
use Rattle.cql_hall.proofs.sent.unplaced.Goals as goal

pub loop-number-preserved : goal.loop-number-preserved
loop-number-preserved c =
    let rs = c.args.sent.now in
    let i = c.loop-number.number in
    let x = c.index-sent-number.result in
    within_more (map sent_as rs) c.args.count i (sent_as x) (get_map sent_as rs i x c.loop-number-test.true c.index-sent-number.is)
    (within_of c.args.count x.now.place c.place_in.result c.place_in.ensures (c.is_none.ensures ∙ ap not c.if-is_none.false)) c.loop-number.invariant

pub returns : goal.returns
returns c = record {
  fails = tt;
  holds = λ k s at before.
      let within = slice_get_within (map sent_as c.args.sent.now) k s at in
      c.loop-number.invariant k s (omega (arith, within, length-map c.args.sent.now sent_as, c.loop-number-test.false)) at;
}
