use Rattle.std.proofs.Common.{length, ap, ◌∙◌, arith, length-append}
use Rattle.cql_window.proofs.Ends.{before_le}
use Rattle.cql_window.proofs.Fronts.{seen_is}
use Rattle.cql_window.proofs.bounds.seen_before.Goals as goal

pub overflow_add-settled : goal.overflow_add-settled
overflow_add-settled c =
    omega (arith, c.requires.least, before_le c.args.end c.args.pin.now.unseen, length-append c.args.pin.now.content c.args.pin.now.unseen, ap length c.content.ensures.value, c.len-settled.ensures.value, c.requires.few)

pub go_on-index-requires-clause-from : goal.go_on-index-requires-clause-from
go_on-index-requires-clause-from c =
    omega (arith, c.requires.least, before_le c.args.end c.args.pin.now.unseen, length-append c.args.pin.now.content c.args.pin.now.unseen, ap length c.content.ensures.value, c.len-settled.ensures.value)

pub returns-clause-value : goal.returns-clause-value
returns-clause-value c =
    seen_is c.args.end c.args.least c.len-settled.result c.go_on-index.result.0 c.args.pin.now.content c.args.pin.now.unseen (c.len-settled.ensures.value ∙ ap length c.content.ensures.value) c.go_on-index.ensures.index c.requires.least

pub returns-clause-within : goal.returns-clause-within
returns-clause-within c = omega (arith, returns-clause-value c, before_le c.args.end c.args.pin.now.unseen)
