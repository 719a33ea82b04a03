use Rattle.std.proofs.lemmas.Bool.{false≢true}
use Rattle.std.proofs.lemmas.Grind.{common_steps}
use Rattle.std.proofs.Common.{◌≡◌, ◌<◌, [], ◌∷◌, ◌++◌, true, map, length, take, get_or, ap, sym, subst, ◌∙◌, arith}
use Rattle.std.specs.Prelude.{Some, option_map}
use Rattle.std.proofs.lemmas.List.{take_more}
use Rattle.std.proofs.lemmas.List.Elements.{All-get_or}
use Rattle.cql_core.specs.Steps.{stepped_of}
use Rattle.cql_hall.specs.Sent.{sent_as, is_before, FailsAmong, Replies}
use Rattle.cql_hall.proofs.Lookups.{get_map}
use Rattle.cql_hall.proofs.Sending.{among_new, among_same, replies_decide}
use Rattle.cql_hall.proofs.one_tenant.first_among.Goals.{then-is_before+then-not-is_reply_of, else-is_before, else-is_before-via-then-is_before+else-not-is_reply_of, else-is_before-via-else-is_before}
use Rattle.cql_hall.proofs.one_tenant.first_among.Goals as goal

pub loop-number-preserved : goal.loop-number-preserved
loop-number-preserved c =
    let ks = c.args.numbers.now in
    let rs = c.args.sent.now in
    let i = c.loop-number.number-index in
    let m = get_or ks i 0 in
    let ss = map sent_as rs in
    let tell = option_map stepped_of c.args.step.now in
    let least = c.loop-number.least in
    let within : m < length rs = All-get_or (λ number. number < length rs) ks i 0 c.loop-number-test.true c.requires in
    subst (λ z. FailsAmong ss tell z c.args.first c.if-is_before.least) (sym (take_more ks i 0 c.loop-number-test.true))
    (elim c.if-is_before.branch [
      | then-is_before+then-not-is_reply_of w ↦
          let x = w.index-sent-number.result in
          let decides = replies_decide ss tell m (sent_as (get_or rs m x)) w.is_reply_of.result (get_map sent_as rs m x within w.index-sent-number.is ∙ ap (λ y. Some (sent_as y)) w.index-sent-number.is) w.is_reply_of.ensures in
          subst (FailsAmong ss tell (take i ks ++ m ∷ []) c.args.first) (sym w.least-is)
          (among_new ss tell (take i ks) c.args.first least m (sym c.is_before.ensures ∙ w.if-is_before.true) (λ r. absurd (false≢true (sym w.if-not-is_reply_of.true ∙ decides.1 r))) c.loop-number.invariant)
      | else-is_before w ↦
          subst (FailsAmong ss tell (take i ks ++ m ∷ []) c.args.first) (sym w.least-is)
          (among_same ss tell (take i ks) c.args.first least m (λ (before : is_before m least ≡ true).
          let reply : Replies ss tell m = elim w.else-is_before.branch [
            | else-is_before-via-then-is_before+else-not-is_reply_of v ↦
                let x = v.index-sent-number.result in
                (replies_decide ss tell m (sent_as (get_or rs m x)) v.is_reply_of.result (get_map sent_as rs m x within v.index-sent-number.is ∙ ap (λ y. Some (sent_as y)) v.index-sent-number.is) v.is_reply_of.ensures).0 v.if-not-is_reply_of.false
            | else-is_before-via-else-is_before v ↦ absurd (false≢true (sym v.if-is_before.false ∙ c.is_before.ensures ∙ before))
          ] in reply) c.loop-number.invariant)
    ])

pub returns : goal.returns
returns c = grind (arith, common_steps)
