use Rattle.std.proofs.Common.{◌≡◌, true, false, sym, ◌∙◌}
use Rattle.serde_json.specs.View.{view}
use Rattle.cql_lines.proofs.Trees.{tree_of-read, tree_of-refused}
use Rattle.cql_asked.proofs.tenants.tree_of.Goals as goal

pub returns-in-Ok-clause-ok : goal.returns-in-Ok-clause-ok
returns-in-Ok-clause-ok c = sym (tree_of-read c.args.line.now (view c.in-Ok.tree) c.in-Ok.ensures.ok)

pub returns-in-Err-2-clause-err : goal.returns-in-Err-2-clause-err
returns-in-Err-2-clause-err c = (sym (tree_of-refused c.args.line.now (c.in-Err.ensures.err (λ m. let clash : true ≡ false = sym (c.is_memory.ensures.1 m) ∙ c.if-is_memory.false in cc))), tt)
