-- The law of a script's output at one worked by hand: a premise that it doesn't meet is refused here.
use Rattle.std.proofs.Common.{◌≡◌, ℕ, ◌+◌, List, [], ◌∷◌, ◌++◌, length, Ok, inl, refl, ap, ◌∙◌, arith, length-append}
use Rattle.std.specs.Prelude.{codes}
use Rattle.cql_value.specs.Name as words
use Rattle.cql_tenants.specs.declared.tenants.Tenant.{Tenant}
use Rattle.cql_tenants.specs.Named.{same_name}
use Rattle.cql_core.specs.declared.command.Command.{Command}
use Rattle.cql_core.specs.declared.command.Command.TheVariants.{Stream}
use Rattle.cql_core.specs.ReplyModel.{Done, no_memory}
use Rattle.cql_wire.specs.Request.{Request}
use Rattle.cql_wire.specs.Line.{told_line}
use Rattle.cql_wire.specs.Output.{IsOutput, StandsIn, output_from, OutputLaw}

abbrev table : List Tenant
table = record { name = 97 ∷ []; key = 107 ∷ []; quotas = record { streams = 8; queries = 8; hold = 100; result = 1000 } } ∷ []

-- a line that makes a stream of one column of numbers
abbrev make : Command
make = Stream (115 ∷ []) (record { name = 118 ∷ []; kind = codes "int" } ∷ [])

abbrev request : List Request
request = Ok (0, make) ∷ []

abbrev written : List ℕ
written = told_line Done

is_output : IsOutput table [] request written
unfolding same_name words.is_reserved
is_output = (written, [], (0, make) ∷ [], inl (refl, refl), refl, refl)

-- the line of 70 is longer
is_another : StandsIn written (told_line no_memory) → ⊥
is_another stands =
    let (front, rest, is) = stands in
    omega (arith, ap length is ∙ length-append front (told_line no_memory ++ rest) ∙ ap (λ n. length front + n) (length-append (told_line no_memory) rest))

output_law_at : OutputLaw → written ≡ output_from table [] request
output_law_at law = law.unique table [] request written is_output is_another
