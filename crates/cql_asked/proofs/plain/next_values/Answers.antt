use Rattle.std.proofs.Common.{length, Some, sym, ap, ◌∙◌, arith}
use Rattle.cql_asked.proofs.plain.next_values.Goals as goal

pub returns-clause-ok : goal.returns-clause-ok
returns-clause-ok c =
    let found = c.in_ok-values.ensures.ok in
    (found.0, found.1 (length c.args.reader.now) (omega arith), found.2 ∙ ap Some (sym c.reverse.ensures.items))
