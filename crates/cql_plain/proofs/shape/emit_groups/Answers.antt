use Rattle.std.proofs.Common.{◌≡◌, ◌⊎◌, None, IfErr, rules}
use Rattle.std.proofs.lemmas.Result.{IfErr-weaker}
use Rattle.cql_algebra.specs.Shape.{groups_value, groups_in}
use Rattle.cql_ops.specs.declared.error.OpError.TheVariants.{NoMemory, Overflow}
use Rattle.cql_plain.proofs.Shaped.{groups_keep, groups_told, groups_fail}
use Rattle.cql_plain.proofs.shape.emit_groups.Goals as goal

pub returns-in_err-value-clause-err : goal.returns-in_err-value-clause-err
returns-in_err-value-clause-err c =
    let fails : IfErr c.from_residual.result (λ e. (e ≡ NoMemory) ⊎ ((e ≡ Overflow) × (groups_value c.args.shape.now.items (groups_in c.args.shape.now c.args.port.now) ≡ None))) = search rules in
    IfErr-weaker c.from_residual.result _ _ (λ e h. groups_fail c.args.shape.now c.args.port.now e c.requires.grouped h) fails

pub returns-clause-told : goal.returns-clause-told
returns-clause-told c = groups_told c.node_types_law.ensures c.args.shape.now c.args.port.now c.args.told.now c.in_ok-value.value c.requires c.in_ok-value.ensures.ok c.args.out.now.items c.tell_difference.new.out.items c.in_ok-tell_difference.ensures.ok

pub returns-clause-keeps : goal.returns-clause-keeps
returns-clause-keeps c = groups_keep c.node_types_law.ensures c.args.shape.now c.args.port.now c.args.told.now c.in_ok-value.value c.requires c.in_ok-value.ensures.ok

pub returns-in_err-value-clause-kept : goal.returns-in_err-value-clause-kept
returns-in_err-value-clause-kept c = search rules
