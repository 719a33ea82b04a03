use Rattle.std.proofs.Common.{◌≡◌, sym, subst, ◌∙◌, arith, rules, ◌∷◌, []}
use Rattle.cql_plan.specs.declared.node.Node.TheVariants as node
use Rattle.cql_plan.specs.Fit.{all_columns}
use Rattle.cql_plan.specs.Node.{Feeds}
use Rattle.cql_plan.specs.Ports.{columns_from, IsPlain}
use Rattle.cql_plan.proofs.ShownColumns.{one_port, fed_columns}
use Rattle.cql_plan.proofs.plan.Plan.is_plain.Goals as goal

pub returns : goal.returns
returns c = λ are.
    let join = c.in-Join-Shape-None-None.join in
    let shape = c.in-Join-Shape-None-None.shape in
    let first = c.self.inside.planned.first in
    let fed : Feeds (node.Join join) (node.Shape shape)
    = subst (λ n. Feeds n (node.Shape shape)) c.in-Join-Shape-None-None.is-0 (subst (Feeds first.join) c.in-Join-Shape-None-None.is-1 c.self.invariant.first.joined) in
    let ports : join.ports ≡ shape.columns ∷ [] = one_port join.ports shape.columns (omega (arith, c.len.ensures, c.if-len-ne1.false)) (sym (fed_columns shape.columns (all_columns join.ports) fed)) in
    let items : shape.items ≡ columns_from 0 shape.columns = sym c.as_slice.ensures ∙ c.are_columns.ensures are shape.columns (sym c.len-2.ensures) in
    let groups : shape.groups ≡ [] = search rules in
    subst IsPlain c.self.view_is (record {
      columns = shape.columns;
      join = c.in-Join-Shape-None-None.is-0 ∙ (λ i. node.Join (record { ports = ports i; condition = c.in-Always.is i }));
      shape = c.in-Join-Shape-None-None.is-1 ∙ (λ i. node.Shape (record { columns = shape.columns; items = items i; groups = groups i }));
      distinct = c.in-Join-Shape-None-None.is-2;
      combined = c.in-Join-Shape-None-None.is-3;
    })
