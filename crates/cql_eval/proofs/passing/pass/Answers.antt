use Rattle.std.proofs.Common.{sym, ap, ◌∙◌, subst, arith}
use Rattle.cql_algebra.specs.Runs.{StandFor}
use Rattle.cql_eval.specs.Answer.{AreBlocksOf}
use Rattle.cql_eval.specs.Relation.{output_at}
use Rattle.cql_eval.specs.Shown.{AreLeft, first_change, next_of}
use Rattle.cql_eval.proofs.Quiet.{still_before, still_behind, left_from_next, left_later}
use Rattle.cql_eval.proofs.Passed.{passed_at, passed_here, passed_blocks}
use Rattle.cql_eval.proofs.passing.pass.Goals as goal

pub begin-requires-clause-still : goal.begin-requires-clause-still
begin-requires-clause-still c =
    let p = c.args.pin.now in
    still_before p (first_change p) c.as_slice-left.result.now c.next_of.result (omega (arith, c.next-end.ensures.bound, c.next-end.ensures.value)) (omega (arith, c.from.ensures.pin.begins, c.from.ensures.pin.ends, c.if-from-end.false, c.from.ensures.value, c.next-end.ensures.value))
    (subst (AreLeft p (first_change p)) (sym c.as_slice-left.ensures.value) c.in_ok-instants.ensures.left) (c.next_of.ensures ∙ ap (next_of c.as_slice-left.result.now) c.next-end.ensures.value)

pub begin-requires-clause-stand : goal.begin-requires-clause-stand
begin-requires-clause-stand c = subst (λ n. StandFor (output_at c.args.pin.now) n c.new-runs.result) c.from-2.ensures.value (c.new-runs.ensures.stand (output_at c.args.pin.now))

pub loop-later-init : goal.loop-later-init
loop-later-init c =
    let p = c.args.pin.now in
    record {
      passed = passed_at p c.next_of.result (next_of c.as_slice-left.result.now p.next) c.begin.new.runs c.in_ok-passing.passing (c.next_of.ensures ∙ ap (next_of c.as_slice-left.result.now) c.next-end.ensures.value) c.in_ok-passing.ensures;
      left = left_from_next p (first_change p) c.as_slice-left.result.now (omega (arith, c.from.ensures.pin.begins, c.from.ensures.pin.ends, c.if-from-end.false, c.from.ensures.value, c.next-end.ensures.value))
          (subst (AreLeft p (first_change p)) (sym c.as_slice-left.ensures.value) c.in_ok-instants.ensures.left);
    }

pub pass_instant-requires-clause-passed : goal.pass_instant-requires-clause-passed
pass_instant-requires-clause-passed c = passed_here c.args.pin.now (next_of c.loop-later.left.now c.args.pin.now.next) c.loop-later.runs c.loop-later.passing c.loop-later.invariant.passed

pub pass_instant-requires-clause-still : goal.pass_instant-requires-clause-still
pass_instant-requires-clause-still c =
    let p = c.args.pin.now in
    still_behind p c.loop-later.left.now c.in-Some.field-0-0.now c.in-Some.later.now c.loop-later.runs.next c.next_of-until.result (omega (arith, c.next-end.ensures.bound, c.next-end.ensures.value)) c.in-Some.ensures.cases.0 c.loop-later.invariant.left c.loop-later.invariant.passed.next
    (c.next_of-until.ensures ∙ ap (next_of c.in-Some.later.now) c.next-end.ensures.value)

pub loop-later-preserved : goal.loop-later-preserved
loop-later-preserved c =
    let p = c.args.pin.now in
    record {
      passed = passed_at p c.next_of-until.result (next_of c.in-Some.later.now p.next) c.pass_instant.new.runs c.pass_instant.new.passing (c.next_of-until.ensures ∙ ap (next_of c.in-Some.later.now) c.next-end.ensures.value) c.in_ok-pass_instant.ensures;
      left = left_later p c.loop-later.left.now c.in-Some.field-0-0.now c.in-Some.later.now c.in-Some.ensures.cases.0 c.loop-later.invariant.left;
    }

pub returns : goal.returns
returns c =
    let p = c.args.pin.now in
    record {
      forward = c.from.ensures.pin.ends;
      are = subst (AreBlocksOf p) (sym c.finish.ensures) (passed_blocks p c.loop-later.left.now c.loop-later.runs c.loop-later.passing c.in_default.ensures.cases c.loop-later.invariant.passed);
      turns = record {
        few = omega (arith, c.in_ok-instants.ensures.few, c.len.ensures);
        none = λ none. absurd (omega (arith, none, c.if-from-end.false, c.from.ensures.value, c.next-end.ensures.value));
      };
    }
