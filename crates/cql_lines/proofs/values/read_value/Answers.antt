use Rattle.std.proofs.Common.{◌≡◌, true, false, sym, ◌∙◌}
use Rattle.serde_json.specs.View.{view}
use Rattle.cql_lines.proofs.Trees.{tree_of-read, tree_of-refused}
use Rattle.cql_lines.proofs.values.read_value.Goals as goal

pub returns-in-Ok : goal.returns-in-Ok
returns-in-Ok c = tree_of-read c.args.line.now (view c.in-Ok.tree) c.in-Ok.ensures.ok

pub returns-in-Err-2 : goal.returns-in-Err-2
returns-in-Err-2 c = tree_of-refused c.args.line.now (c.in-Err.ensures.err (λ m. let clash : true ≡ false = sym (c.is_memory.ensures.1 m) ∙ c.if-is_memory.false in cc))
