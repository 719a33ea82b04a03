use Rattle.std.proofs.Common.{◌≡◌, Some, None, arith}
use Rattle.cql_asked.specs.declared.command.Verb.TheVariants as kinds
use Rattle.cql_asked.proofs.PlainLines.{asked_drop}
use Rattle.cql_asked.proofs.plain.PlainLine.into_drop.Goals as goal

pub returns : goal.returns
returns c =
    let is : c.args.self ≡ record { verb = Some kinds.Drop; tenant = c.args.self.tenant; stream = None; name = Some c.in-None.name; at = None; to = None; until = None; row = None } = grind arith in
    let name : c.in_ok-name.name ≡ c.in-None.name.now = grind arith in
    λ ms h. rw (c.named.ensures, name) (asked_drop c.args.self.tenant ms c.in-None.name c.args.self is h)
