use Rattle.std.proofs.Common.{inr, refl, sym, ap, ◌∙◌, arith}
use Rattle.cql_groups.specs.Layouts.{row_of_parts}
use Rattle.cql_groups.proofs.group.Group.row.Goals as goal

pub returns-in-None-clause-err : goal.returns-in-None-clause-err
returns-in-None-clause-err c =
    let g = c.args.self.now in
    inr (refl, (omega (arith, c.if-self-eq0.false), ap (row_of_parts c.args.sources.now g.size g.sample) (sym c.as_slice.ensures.value) ∙ sym c.in_ok-row.ensures ∙ c.in-None.is))
