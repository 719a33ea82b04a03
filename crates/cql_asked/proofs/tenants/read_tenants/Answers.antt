use Rattle.std.proofs.Common.{IsSome, sym, subst}
use Rattle.serde_json.specs.View.{view}
use Rattle.cql_asked.proofs.Ruling.{refused_breaks}
use Rattle.cql_asked.proofs.tenants.read_tenants.Goals as goal

pub unwrap-requires : goal.unwrap-requires
unwrap-requires c =
    subst (λ o. IsSome o) (sym c.rule_of_tree.ensures)
    (refused_breaks (view c.in_ok-tree.tree) (rw c.in-Err-Refused.field-0-is at c.in-Err-Refused.ensures))
