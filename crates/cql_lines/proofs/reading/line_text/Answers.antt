use Rattle.cql_lines.proofs.Trees.{text_read, no_text_read}
use Rattle.cql_lines.proofs.reading.line_text.Goals as goal

pub returns-in-Ok : goal.returns-in-Ok
returns-in-Ok c =
    let text = c.in-Ok.ensures.cases in
    text_read c.args.line.now c.in-Ok.text.now text.0 text.1

pub returns-in-Err : goal.returns-in-Err
returns-in-Err c = no_text_read c.args.line.now c.in-Err.ensures.cases.0
