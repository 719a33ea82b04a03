use Rattle.std.proofs.Common.{◌≡◌, Some, None, arith}
use Rattle.cql_asked.specs.declared.command.Verb.TheVariants as kinds
use Rattle.cql_asked.proofs.PlainLines.{asked_put}
use Rattle.cql_asked.proofs.plain.PlainLine.into_put.Goals as goal

pub returns : goal.returns
returns c =
    let is : c.args.self ≡ record { verb = Some kinds.Put; tenant = c.args.self.tenant; stream = Some c.in-Some.stream; name = None; at = Some c.in-Some.at; to = None; until = None; row = Some c.in-Some.row } = grind arith in
    let stream : c.in_ok-stream.stream ≡ c.in-Some.stream.now = grind arith in
    let row : c.in_ok-row.row ≡ c.in-Some.row.items = grind arith in
    λ ms h. rw (c.named.ensures, stream, row) (asked_put c.args.self.tenant ms c.in-Some.stream c.in-Some.at c.in-Some.row c.args.self is h)
