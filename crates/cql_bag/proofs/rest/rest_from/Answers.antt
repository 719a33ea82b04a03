use Rattle.std.proofs.Common.{rules, ◌≡◌, ◌∙◌}
use Rattle.cql_bag.specs.Rest.{rest_rows}
use Rattle.cql_bag.proofs.Struck.{ascending, kept_whole}
use Rattle.cql_bag.proofs.rest.rest_from.Goals as goal

pub returns-else-strikes_any : goal.returns-else-strikes_any
returns-else-strikes_any c =
    let kept : rest_rows c.args.rows.items c.args.others.now ≡ c.args.rows.items = search rules in
    c.from_vec.ensures ∙ kept_whole c.args.rows.items c.args.others.now (ascending c.args.rows.items c.requires.first) (ascending c.args.others.now c.requires.second) kept
