use Rattle.std.proofs.Common.{◌≡◌, None, subst}
use Rattle.cql_lines.specs.Tree.{tree_of}
use Rattle.cql_asked.specs.Rules.{Breaks}
use Rattle.cql_asked.proofs.WithTree.{json_has_no_tree}
use Rattle.cql_wire.proofs.Tabling.{behind}
use Rattle.cql_wire.proofs.tables.given_table.Goals as goal

-- the line breaks the rule that it is JSON, so it has no tree
pub returns-in-Json-clause-told : goal.returns-in-Json-clause-told
returns-in-Json-clause-told g c =
    let refused = rw c.in-Err-Refused.field-0-is at c.in-Err-Refused.ensures in
    let broken = subst (λ rule. Breaks (tree_of c.as_slice.result.now) rule) c.in-Json.is refused.1 in
    let no_tree = json_has_no_tree (tree_of c.as_slice.result.now) c.in-Json.line c.in-Json.column broken in
    behind _ _ _ c.in_ok-line.line.items c.whole_table.result c.in_ok-line.ensures.line
    (subst (λ line. tree_of line ≡ None) c.as_slice.ensures.value no_tree) c.whole_table.ensures.told
