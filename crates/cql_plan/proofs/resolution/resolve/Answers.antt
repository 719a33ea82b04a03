use Rattle.std.proofs.Common.{sym, subst}
use Rattle.cql_syntax.specs.declared.syntax.Query.{Query}
use Rattle.cql_text.specs.Read.{IsSyntax}
use Rattle.cql_plan.proofs.Bounds.{first_bounded, later_bounded}
use Rattle.cql_plan.proofs.Few.{planned_few}
use Rattle.cql_plan.proofs.Fits.{form_law}
use Rattle.cql_plan.proofs.Ports.{planned_ports}
use Rattle.cql_plan.proofs.resolution.resolve.Goals as goal

pub new-requires : goal.new-requires
new-requires g c =
    let P : Query → Type 0 = λ q. IsSyntax q in
    let readable = g.L.Lookup.readable c.args.lookup.now in
    let query = c.query.result.now in
    let planned = c.in_ok-planned.planned in
    let valid : IsSyntax query = subst P (sym c.query.ensures.value) c.query.ensures.valid in
    let typed = c.in_ok-planned.ensures in
    let form = form_law readable query planned typed in
    record {
      few = planned_few readable query planned valid typed;
      ports = planned_ports readable query planned typed;
      first = form.0;
      combined = form.1;
    }

pub planned-requires-clause-first : goal.planned-requires-clause-first
planned-requires-clause-first g c =
    let P : Query → Type 0 = λ q. IsSyntax q in
    first_bounded c.query.result.now (subst P (sym c.query.ensures.value) c.query.ensures.valid)

pub planned-requires-clause-second : goal.planned-requires-clause-second
planned-requires-clause-second g c =
    let P : Query → Type 0 = λ q. IsSyntax q in
    later_bounded c.query.result.now (subst P (sym c.query.ensures.value) c.query.ensures.valid)
