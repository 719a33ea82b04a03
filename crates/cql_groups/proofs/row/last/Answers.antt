use Rattle.std.proofs.Common.{slice_get, sym, ap, ◌∙◌}
use Rattle.cql_groups.proofs.Greatest.{last_is}
use Rattle.cql_groups.proofs.row.last.Goals as goal

pub returns-in-Some : goal.returns-in-Some
returns-in-Some c =
    c.at.ensures ∙ ap (λ r. slice_get r 0) c.values.ensures
    ∙ sym (last_is c.args.values.now c.next_back.new.self (c.in-Some.row.now, c.in-Some.field-0-1.now) (sym c.entries.ensures.value ∙ c.in-Some.ensures.steps))
