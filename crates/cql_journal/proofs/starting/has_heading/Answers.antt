use Rattle.std.proofs.Common.{◌≡◌, ◌++◌, Some, ap, ◌∙◌}
use Rattle.std.proofs.lemmas.Slice.Eq.{strip_prefix_is}
use Rattle.std.proofs.lemmas.Bool.Decides.{Decides-eqb}
use Rattle.cql_journal.proofs.starting.has_heading.Goals as goal

pub returns-in-Some-clause-some : goal.returns-in-Some-clause-some
returns-in-Some-clause-some c = λ e.
    let is = strip_prefix_is Decides-eqb c.args.held.now c.as_slice.result.now (Some c.in-Some.field-0) c.in-Some.ensures.cases in
    (c.in-Some.field-0.now, is ∙ ap (λ t. t ++ c.in-Some.field-0.now) c.as_slice.ensures)
