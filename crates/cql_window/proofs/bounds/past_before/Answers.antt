use Rattle.std.proofs.Common.{◌+◌, ap, ◌∙◌, arith, nat_le, drop}
use Rattle.std.proofs.lemmas.List.Sums.{prefix_len-le-length}
use Rattle.cql_window.specs.Span.{rows_of}
use Rattle.cql_window.specs.Window.{count_before}
use Rattle.cql_window.proofs.Ends.{past_is}
use Rattle.cql_window.proofs.Walked.{prefix_rest}
use Rattle.cql_window.proofs.bounds.past_before.Goals as goal

pub go_on-requires-clause-from : goal.go_on-requires-clause-from
go_on-requires-clause-from c =
    omega (arith, c.requires.least, prefix_len-le-length (λ x. nat_le (x.at + c.args.ticks + 2) c.args.end) (rows_of c.args.pin.now))

pub returns-clause-value : goal.returns-clause-value
returns-clause-value c =
    let rest = drop c.args.least (rows_of c.args.pin.now) in
    c.go_on.ensures.index
    ∙ ap (λ n. c.args.least + n) (ap (λ n. count_before n rest) c.saturating_sub.ensures ∙ past_is c.args.ticks c.args.end rest)
    ∙ prefix_rest (λ x. nat_le (x.at + c.args.ticks + 2) c.args.end) c.args.least (rows_of c.args.pin.now) c.requires.least
