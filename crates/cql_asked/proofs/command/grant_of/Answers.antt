use Rattle.std.proofs.Common.{◌≡◌, arith}
use Rattle.std.specs.Prelude.{Err, codes}
use Rattle.cql_lines.specs.View.{view}
use Rattle.cql_lines.specs.Tree.{text_at}
use Rattle.cql_asked.specs.Command.{named_columns_of, grant_of}
use Rattle.cql_asked.proofs.Readings.{passed_on, nothing}
use Rattle.cql_asked.proofs.command.grant_of.Goals as goal

pub returns-in_err-columns : goal.returns-in_err-columns
returns-in_err-columns c =
    let d = view c.args.tree.now in
    let is : c.from_residual-in_err-columns.result ≡ Err c.in_err-columns.field-0.0 = grind arith in
    passed_on (named_columns_of d) (grant_of d) c.in_err-columns.field-0.0 c.from_residual-in_err-columns.result is
    (λ none. rw (none, nothing (text_at (codes "to") d), nothing (text_at (codes "stream") d))) c.in_err-columns.ensures

pub returns-in_err-to : goal.returns-in_err-to
returns-in_err-to c =
    let d = view c.args.tree.now in
    let is : c.from_residual-in_err-to.result ≡ Err c.in_err-to.field-0.0 = grind arith in
    passed_on (text_at (codes "to") d) (grant_of d) c.in_err-to.field-0.0 c.from_residual-in_err-to.result is
    (λ none. rw (none, nothing (text_at (codes "stream") d))) c.in_err-to.ensures

pub returns-in_err-stream : goal.returns-in_err-stream
returns-in_err-stream c =
    let d = view c.args.tree.now in
    let is : c.from_residual.result ≡ Err c.in_err-stream.field-0.0 = grind arith in
    passed_on (text_at (codes "stream") d) (grant_of d) c.in_err-stream.field-0.0 c.from_residual.result is
    (λ none. rw none) c.in_err-stream.ensures
