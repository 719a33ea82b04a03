use Rattle.std.proofs.Common.{sym, ap, arith}
use Rattle.cql_hall.specs.Entering.{BookModel}
use Rattle.cql_hall.proofs.hall.close_book.Goals as goal

pub returns-then-counted-kept-clause-given : goal.returns-then-counted-kept-clause-given
returns-then-counted-kept-clause-given g c = (sym (ap (λ (b : BookModel). b.table) c.into_parts-table.ensures.parts), sym (ap (λ (b : BookModel). b.entries) c.into_parts-table.ensures.parts))

pub returns-clause-given : goal.returns-clause-given
returns-clause-given g c = (sym (ap (λ (b : BookModel). b.table) c.into_parts-table.ensures.parts), sym (ap (λ (b : BookModel). b.entries) c.into_parts-table.ensures.parts))

pub returns-then-counted-kept-clause-journal : goal.returns-then-counted-kept-clause-journal
returns-then-counted-kept-clause-journal g c = λ keeps. (c.into_parts-table.ensures.gives keeps).0

pub returns-clause-journal_too : goal.returns-clause-journal_too
returns-clause-journal_too g c = λ keeps. (c.into_parts-table.ensures.gives keeps).0

pub returns-clause-err : goal.returns-clause-err
returns-clause-err g c = (c.total-counted.ensures, c.len-kept.ensures, λ same. absurd (omega (arith, same)))
