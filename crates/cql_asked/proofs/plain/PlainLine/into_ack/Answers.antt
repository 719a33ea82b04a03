use Rattle.std.proofs.Common.{◌≡◌, Some, None, arith}
use Rattle.cql_asked.specs.declared.command.Verb.TheVariants as kinds
use Rattle.cql_asked.proofs.PlainLines.{asked_ack}
use Rattle.cql_asked.proofs.plain.PlainLine.into_ack.Goals as goal

pub returns : goal.returns
returns c =
    let is : c.args.self ≡ record { verb = Some kinds.Ack; tenant = c.args.self.tenant; stream = None; name = Some c.in-None.name; at = None; to = Some c.in-None.to; until = None; row = None } = grind arith in
    let name : c.in_ok-name.name ≡ c.in-None.name.now = grind arith in
    λ ms h. rw (c.named.ensures, name) (asked_ack c.args.self.tenant ms c.in-None.name c.in-None.to c.args.self is h)
