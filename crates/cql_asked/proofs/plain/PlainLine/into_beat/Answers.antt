use Rattle.std.proofs.Common.{◌≡◌, Some, None, arith}
use Rattle.cql_asked.specs.declared.command.Verb.TheVariants as kinds
use Rattle.cql_asked.proofs.PlainLines.{asked_beat}
use Rattle.cql_asked.proofs.plain.PlainLine.into_beat.Goals as goal

pub returns : goal.returns
returns c =
    let is : c.args.self ≡ record { verb = Some kinds.Beat; tenant = c.args.self.tenant; stream = Some c.in-Some.stream; name = None; at = Some c.in-Some.at; to = None; until = None; row = None } = grind arith in
    let stream : c.in_ok-stream.stream ≡ c.in-Some.stream.now = grind arith in
    λ ms h. rw (c.named.ensures, stream) (asked_beat c.args.self.tenant ms c.in-Some.stream c.in-Some.at c.args.self is h)
