use Rattle.std.proofs.Common.{arith, ap, length, length-append, ◌≡◌, ◌≤◌, ◌<◌, ◌+◌, ◌-◌, ◌*◌, ℕ, false, ◌∙◌}
use Rattle.std.proofs.lemmas.Grind.{common_steps}
use Rattle.cql_journal.specs.declared.reading.Next.TheVariants.{Record, Commit, Wrong, Part}
use Rattle.cql_journal.proofs.Finding.{is_batch_there, no_batch_there, records_stay, still_kept, follows, record_more, within, none_if_wrong, none_if_long, none_at_end}
use Rattle.cql_journal.proofs.reading.front_at.Goals as goal

pub loop-more-preserved-in-Record : goal.loop-more-preserved-in-Record
loop-more-preserved-in-Record g c =
    let f = follows _ _ _ _ _ _ (Record c.in-Record.more) c.split_at.ensures.front c.split_at.ensures.back c.as_slice-held.ensures c.in-Record.ensures in
    record {
      records = record_more _ _ _ c.loop-more.invariant.records c.in-Record.more f;
      kept = c.loop-more.invariant.kept;
      room = c.loop-more.invariant.room;
    }

pub loop-more-preserved : goal.loop-more-preserved
loop-more-preserved g c =
    let fill = c.in-Ok-true.ensures in
    record {
      records = records_stay _ _ _ c.loop-more.invariant.records _ _ _ _ fill;
      kept = still_kept _ _ _ _ _ _ c.loop-more.invariant.kept fill;
      room = omega (arith, ap length c.as_slice-held.ensures, c.if-held-ge-MAX_BATCH.false, fill.bound, ap length fill.grown, length-append c.loop-more.ahead fill.piece);
    }

pub loop-more-smaller : goal.loop-more-smaller
loop-more-smaller g c =
    let fill = c.in-Ok-true.ensures in
    let size : length c.fill.new.self ≡ length c.loop-more.ahead + length fill.piece = ap length fill.grown ∙ length-append c.loop-more.ahead fill.piece in
    let less : 2 * (length c.args.ahead.now + 16842752) - length c.fill.new.self - c.loop-more.size < 2 * (length c.args.ahead.now + 16842752) - length c.loop-more.ahead - c.loop-more.size =
    omega (arith, size, fill.came c.in-Ok-true.field-0-test, ap length c.as_slice-held.ensures, c.if-held-ge-MAX_BATCH.false, fill.bound, within _ _ _ c.loop-more.invariant.records) in
    less

pub loop-more-smaller-in-Record : goal.loop-more-smaller-in-Record
loop-more-smaller-in-Record g c =
    let f = follows _ _ _ _ _ _ (Record c.in-Record.more) c.split_at.ensures.front c.split_at.ensures.back c.as_slice-held.ensures c.in-Record.ensures in
    let less : 2 * (length c.args.ahead.now + 16842752) - length c.loop-more.ahead - (c.loop-more.size + c.in-Record.more) < 2 * (length c.args.ahead.now + 16842752) - length c.loop-more.ahead - c.loop-more.size =
    omega (arith, f.4, within _ _ _ (record_more _ _ _ c.loop-more.invariant.records c.in-Record.more f), c.loop-more.invariant.room) in
    less

pub returns-in-Commit : goal.returns-in-Commit
returns-in-Commit g c =
    let f = follows _ _ _ _ _ _ Commit c.split_at.ensures.front c.split_at.ensures.back c.as_slice-held.ensures c.in-Commit.ensures in
    is_batch_there _ _ _ _ _ c.loop-more.invariant.records c.loop-more.invariant.kept f

pub returns-in-Wrong : goal.returns-in-Wrong
returns-in-Wrong g c =
    let f = follows _ _ _ _ _ _ Wrong c.split_at.ensures.front c.split_at.ensures.back c.as_slice-held.ensures c.in-Wrong.ensures in
    no_batch_there _ _ _ _ _ _ c.no_batch.ensures c.loop-more.invariant.records c.loop-more.invariant.kept (none_if_wrong _ _ _ c.loop-more.invariant.records c.requires _ f)

pub returns-then-held-ge-MAX_BATCH : goal.returns-then-held-ge-MAX_BATCH
returns-then-held-ge-MAX_BATCH g c =
    let f = follows c.args.chain.now _ _ _ _ _ Part c.split_at.ensures.front c.split_at.ensures.back c.as_slice-held.ensures c.in-Part.ensures in
    let long : 16777216 ≤ length c.loop-more.ahead = omega (arith, ap length c.as_slice-held.ensures, c.if-held-ge-MAX_BATCH.true) in
    no_batch_there _ _ _ _ _ _ c.no_batch-then-held-ge-MAX_BATCH.ensures c.loop-more.invariant.records c.loop-more.invariant.kept (none_if_long _ _ _ c.loop-more.invariant.records c.requires _ f long)

pub returns-in-Ok-false : goal.returns-in-Ok-false
returns-in-Ok-false g c =
    let f = follows c.args.chain.now _ _ _ _ _ Part c.split_at.ensures.front c.split_at.ensures.back c.as_slice-held.ensures c.in-Part.ensures in
    let fill = c.in-Ok-false.ensures in
    no_batch_there _ _ _ _ _ _ c.no_batch-in-Ok-false.ensures (records_stay _ _ _ c.loop-more.invariant.records _ _ _ _ fill) (still_kept _ _ _ _ _ _ c.loop-more.invariant.kept fill) (none_at_end _ _ _ c.loop-more.invariant.records c.requires _ _ _ _ c.in-Ok-false.field-0-test f fill)

pub overflow_add-size : goal.overflow_add-size
overflow_add-size g c = grind (arith, common_steps)

pub split_at-requires : goal.split_at-requires
split_at-requires g c = omega (arith, ap length c.as_slice-held.ensures, within _ _ _ c.loop-more.invariant.records)
