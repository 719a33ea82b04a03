use Rattle.std.proofs.Common.{◌≡◌, Some, None, arith}
use Rattle.cql_asked.specs.declared.command.Verb.TheVariants as kinds
use Rattle.cql_asked.proofs.PlainLines.{asked_list}
use Rattle.cql_asked.proofs.plain.PlainLine.into_list.Goals as goal

pub returns : goal.returns
returns c =
    let is : c.args.self ≡ record { verb = Some kinds.List; tenant = c.args.self.tenant; stream = None; name = None; at = None; to = None; until = None; row = None } = grind arith in
    λ ms h. rw (c.named.ensures) (asked_list c.args.self.tenant ms c.args.self is h)
