use Rattle.std.proofs.Common.{◌≡◌, ◌+◌, ◌-◌, drop, arith, length-drop}
use Rattle.cql_window.proofs.Ends.{before_le}
use Rattle.cql_store.specs.Sequence.{shifted}
use Rattle.cql_store.proofs.Later.{fit_pin, fit_unseen, pin_shown}
use Rattle.cql_store.proofs.moves.pin_of.Goals as goal

pub rows_before-ahead-requires-clause-ascending : goal.rows_before-ahead-requires-clause-ascending
rows_before-ahead-requires-clause-ascending c = rw c.saturating_sub-read_to.ensures (fit_unseen c.args.rows.now (shifted c.args.gone c.args.stub.now) c.requires.sound)

pub part-requires-clause-within : goal.part-requires-clause-within
part-requires-clause-within c = omega (arith, c.rows_before-ahead.ensures.value, before_le c.args.until (drop c.saturating_sub-read_to.result c.args.rows.now), length-drop c.saturating_sub-read_to.result c.args.rows.now, c.saturating_sub-read_to.ensures, c.requires.sound.counted, c.requires.sound.within)

pub new-requires : goal.new-requires
new-requires c =
    let ahead : c.saturating_sub-read_to.result + c.rows_before-ahead.result - c.saturating_sub-read_to.result ≡ c.rows_before-ahead.result = omega arith in
    rw (c.in_ok-content.ensures, c.in_ok-unseen.ensures, ahead, c.in_ok-window.ensures, c.saturating_sub-first.ensures, c.saturating_sub-read_to.ensures) (fit_pin c.args.rows.now c.rows_before-ahead.result (shifted c.args.gone c.args.stub.now) c.requires.sound)

pub returns : goal.returns
returns c =
    let rows = c.args.rows.now in
    let s = shifted c.args.gone c.args.stub.now in
    let ahead : c.saturating_sub-read_to.result + c.rows_before-ahead.result - c.saturating_sub-read_to.result ≡ c.rows_before-ahead.result = omega arith in
    rw (c.new.ensures, c.in_ok-content.ensures, c.in_ok-unseen.ensures, ahead, c.in_ok-window.ensures, c.rows_before-ahead.ensures.value, c.saturating_sub-first.ensures, c.saturating_sub-read_to.ensures) (pin_shown rows c.args.until s c.requires.live)
