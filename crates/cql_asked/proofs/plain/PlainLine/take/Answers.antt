use Rattle.std.proofs.Common.{◌≡◌, true, bytes_eq, refl, arith}
use Rattle.std.specs.Prelude.{codes}
use Rattle.std.proofs.lemmas.Slice.Eq.{bytes_eq-Decides}
use Rattle.cql_asked.proofs.PlainLines.{holds_row}
use Rattle.cql_asked.proofs.plain.PlainLine.take.Goals as goal

pub returns-then-eq-clause-ok : goal.returns-then-eq-clause-ok
returns-then-eq-clause-ok c =
    let same : bytes_eq c.args.key.now (codes "row") ≡ true = grind arith in
    let named = (bytes_eq-Decides c.args.key.now (codes "row")).0 same in
    let found = c.in_ok-next_row in
    let row = found.ensures.ok in
    (row.0, row.1, λ ms h. rw named (holds_row c.args.self.now ms h row.0 found.field-0 _ row.2 refl))
