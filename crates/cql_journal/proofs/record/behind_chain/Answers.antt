use Rattle.std.proofs.Common.{◌≡◌, ◌++◌, ◌∷◌, Some, None, ap, sym, ◌∙◌}
use Rattle.std.proofs.lemmas.Slice.Eq.{strip_prefix_is}
use Rattle.std.proofs.lemmas.Bool.Decides.{Decides-eqb}
use Rattle.cql_journal.proofs.Cutting.{behind_some, behind_none}
use Rattle.cql_journal.proofs.record.behind_chain.Goals as goal

pub returns-in_default-clause-none : goal.returns-in_default-clause-none
returns-in_default-clause-none c = λ rest is.
    (strip_prefix_is Decides-eqb c.args.line.now c.as_slice.result.now None c.in_default.ensures.cases) (32 ∷ rest) (is ∙ ap (λ t. t ++ 32 ∷ rest) (sym c.as_slice.ensures))

pub returns-clause-some : goal.returns-clause-some
returns-clause-some c =
    let front : c.args.line.now ≡ c.as_slice.result.now ++ c.in-Some.spaced.now = strip_prefix_is Decides-eqb c.args.line.now c.as_slice.result.now (Some c.in-Some.spaced) c.in-Some.ensures.cases in
    behind_some c.args.line.now c.args.chain.now c.in-Some.spaced.now c.as_slice-2.result.now c.strip_prefix-2.result (front ∙ ap (λ t. t ++ c.in-Some.spaced.now) c.as_slice.ensures) c.as_slice-2.ensures
    (strip_prefix_is Decides-eqb c.in-Some.spaced.now c.as_slice-2.result.now c.strip_prefix-2.result c.strip_prefix-2.ensures.cases)

pub returns-clause-none : goal.returns-clause-none
returns-clause-none c =
    let front : c.args.line.now ≡ c.as_slice.result.now ++ c.in-Some.spaced.now = strip_prefix_is Decides-eqb c.args.line.now c.as_slice.result.now (Some c.in-Some.spaced) c.in-Some.ensures.cases in
    behind_none c.args.line.now c.args.chain.now c.in-Some.spaced.now c.as_slice-2.result.now c.strip_prefix-2.result (front ∙ ap (λ t. t ++ c.in-Some.spaced.now) c.as_slice.ensures) c.as_slice-2.ensures
    (strip_prefix_is Decides-eqb c.in-Some.spaced.now c.as_slice-2.result.now c.strip_prefix-2.result c.strip_prefix-2.ensures.cases)
