use Rattle.std.proofs.Common.{arith}
use Rattle.cql_journal.proofs.Hiding.{searches_line, searches_records, over_short, over_feedless, found_there, gives_up, gives_up_kept}
use Rattle.cql_journal.proofs.Finding.{keeps_more}
use Rattle.cql_journal.proofs.searching.search_on.Goals as goal

pub returns-in-Ok-false : goal.returns-in-Ok-false
returns-in-Ok-false g c = over_short _ _ _ _ _ c.in-Ok-false.field-0-test c.in-Ok-false.ensures

pub returns-in-Err : goal.returns-in-Err
returns-in-Err g c = gives_up _ _ _ c.in-Err.ensures

pub returns-in-Err-see : goal.returns-in-Err-see
returns-in-Err-see g c = gives_up _ _ _ c.in-Err-see.ensures

pub returns-in-Err-skip_line : goal.returns-in-Err-skip_line
returns-in-Err-skip_line g c = gives_up_kept _ _ _ _ (keeps_more _ _ _ c.in-Ok-true.ensures.kept c.in-Ok.ensures.kept) c.in-Err-skip_line.ensures

pub returns-in-Ok-true-skip_line : goal.returns-in-Ok-true-skip_line
returns-in-Ok-true-skip_line g c = searches_line _ _ _ _ _ c.in-Ok-true.ensures.kept (c.in-Ok.ensures.other c.if-front-eq0.true) c.in-Ok.ensures.kept c.in-Ok-true-skip_line.field-0-test c.in-Ok-true-skip_line.ensures

pub returns-in-Ok-false-skip_line : goal.returns-in-Ok-false-skip_line
returns-in-Ok-false-skip_line g c = over_feedless _ _ _ _ _ c.in-Ok-true.ensures.kept c.in-Ok.ensures.kept c.in-Ok-false-skip_line.field-0-test c.in-Ok-false-skip_line.ensures

pub returns-then-front : goal.returns-then-front
returns-then-front g c = found_there _ _ _ _ _ c.in-Ok-true.ensures.kept c.in-Ok.ensures (omega (arith, c.if-front-eq0.false)) c.if-front.true

pub returns : goal.returns
returns g c = searches_records _ _ _ _ _ _ c.in-Ok-true.ensures.kept c.in-Ok.ensures (omega (arith, c.if-front-eq0.false)) c.if-front.false c.consume.ensures
