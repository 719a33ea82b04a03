use Rattle.std.proofs.Common.{sym, ◌∙◌}
use Rattle.cql_value.proofs.Ties.{tied}
use Rattle.cql_groups.proofs.group_map.is_at.Goals as goal

pub returns-in-Some : goal.returns-in-Some
returns-in-Some c = λ t. (c.in-Some.group.now, sym c.in-Some.ensures, tied c.in-Some.group.now.key c.args.key.now (sym c.eq.ensures ∙ t))
