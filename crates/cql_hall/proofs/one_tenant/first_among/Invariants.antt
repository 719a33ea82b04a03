use Rattle.std.proofs.Common.{map, take}
use Rattle.std.specs.Prelude.{option_map}
use Rattle.cql_core.specs.Steps.{stepped_of}
use Rattle.cql_hall.specs.Sent.{sent_as, FailsAmong}
use Rattle.cql_hall.proofs.one_tenant.first_among.Given as goal

-- of the numbers so far
abbrev pub invariant-loop-number : goal.invariant-loop-number
invariant-loop-number l = FailsAmong (map sent_as l.sent) (option_map stepped_of l.step) (take l.number-index l.numbers) l.fn.first l.least
