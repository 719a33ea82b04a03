-- The output at an instant, by kind.
use Rattle.cql_plan.specs.declared.plan.OutputKind.{OutputKind}
use Rattle.cql_plan.specs.declared.plan.OutputKind.TheVariants.{Istream, Dstream, Rstream, Signed}
use Rattle.cql_bag.specs.Bag.{Counts, minus, listing}
use Rattle.cql_algebra.specs.declared.relation.Relation.{Relation}
use Rattle.cql_algebra.specs.declared.relation.Relation.TheVariants.{Bag, Fault}
use Rattle.cql_algebra.specs.declared.told.Output.{Output}
use Rattle.cql_algebra.specs.declared.told.Output.TheVariants as output
use Rattle.cql_algebra.specs.Output.{told}

-- of two bags, that of the instant before and that of this one
abbrev pub output_of_bags : OutputKind → Counts → Counts → Output
output_of_bags Istream before now = told (minus now before)
output_of_bags Dstream before now = told (minus before now)
output_of_bags Rstream before now = told now
output_of_bags Signed before now = output.Signed (listing (minus now before)) (listing (minus before now))

-- of two relations: a fault of this instant comes first, then one of the instant before, which Rstream doesn't ask
abbrev pub output_of : OutputKind → Relation → Relation → Output
output_of kind before (Fault fault) = output.Fault fault
output_of kind (Bag before) (Bag now) = output_of_bags kind before now
output_of Istream (Fault fault) (Bag now) = output.Fault fault
output_of Dstream (Fault fault) (Bag now) = output.Fault fault
output_of Rstream (Fault fault) (Bag now) = told now
output_of Signed (Fault fault) (Bag now) = output.Fault fault
