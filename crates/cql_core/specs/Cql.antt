-- The language of the product's queries: what the machine and the meaning ask of texts and pins.
use Rattle.std.specs.Prelude.{ℕ, List, [], Option, Result, Ok, Err, unwrap_or, option_map}
use Rattle.cql_syntax.specs.declared.syntax.Query.{Query}
use Rattle.cql_syntax.specs.Spelling.{canonical}
use Rattle.cql_text.specs.Read.{read_of}
use Rattle.cql_plan.specs.declared.error.PlanFault.{PlanFault}
use Rattle.cql_plan.specs.declared.error.PlanFault.TheVariants as fault
use Rattle.cql_plan.specs.declared.plan.Planned.{Planned}
use Rattle.cql_plan.specs.Sources.{SchemaLookup}
use Rattle.cql_plan.specs.Typing.{typing}
use Rattle.cql_tenants.specs.declared.namespace.Namespace.{Namespace}
use Rattle.cql_tenants.specs.Lookup.{found}
use Rattle.cql_algebra.specs.declared.told.Block.{Block}
use Rattle.cql_algebra.specs.Blocks.{blocks_of}
use Rattle.cql_eval.specs.Pin.{PinModel}
use Rattle.cql_eval.specs.Relation.{output_at}
use Rattle.cql_core.specs.declared.refusal.Refusal.{Refusal}
use Rattle.cql_core.specs.declared.refusal.Refusal.TheVariants.{UnknownStream, BadQuery, UnknownColumn, AmbiguousColumn, TypeMismatch}
use Rattle.cql_core.specs.Lookup.{columns_at}
use Rattle.cql_core.specs.StreamId.{projection_in}
use Rattle.cql_core.specs.Language.{Language}
use Rattle.std.specs.Result.{result_err, result_ok}

-- the refusal that a fault of the typing is
abbrev pub plan_refusal : PlanFault → Refusal
plan_refusal fault.UnknownStream = UnknownStream
plan_refusal fault.UnknownColumn = UnknownColumn
plan_refusal fault.AmbiguousColumn = AmbiguousColumn
plan_refusal fault.TypeMismatch = TypeMismatch

abbrev pub or_refusal : Result Planned PlanFault → Result Planned Refusal
or_refusal (Err error) = Err (plan_refusal error)
or_refusal (Ok plan) = Ok plan

-- the plan of a query, or the refusal that the first fault of its typing is
unfoldable pub planned : SchemaLookup → Query → Result Planned Refusal
planned readable q = or_refusal (typing readable q)

abbrev pub planned_from : SchemaLookup → Result Query ℕ → Result Planned Refusal
planned_from readable (Ok q) = planned readable q
planned_from readable (Err at) = Err (BadQuery at)

-- what a tenant reads: the columns that it sees of each stream, with their indices in the stream's whole rows
abbrev pub readable_in : List Namespace → ℕ → SchemaLookup
readable_in namespaces user = columns_at (projection_in namespaces user) (found namespaces user)

-- ---- the language

-- the byte at which a text is refused
unfoldable pub bad_byte : List ℕ → Option ℕ
bad_byte text = result_err (read_of text)

-- the plan of the query of a text
unfoldable pub plan_of : SchemaLookup → List ℕ → Result Planned Refusal
plan_of readable text = planned_from readable (read_of text)

-- the canonical spelling of a text
unfoldable pub spelled : List ℕ → List ℕ
spelled text = unwrap_or (option_map canonical (result_ok (read_of text))) []

-- the maximal runs of a pin's outputs
unfoldable pub pin_blocks : PinModel → List Block
pin_blocks p = blocks_of (output_at p) p.from p.next

abbrev pub cql : Language
cql = record { bad_byte = bad_byte; plan_of = plan_of; spelled = spelled; blocks_of = pin_blocks }
