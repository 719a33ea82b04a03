use Rattle.std.proofs.Common.{◌≡◌, ◌+◌, [], ◌∷◌, ◌++◌, rules, ap, sym, ◌∙◌, length}
use Rattle.std.proofs.lemmas.List.{nil_from_length}
use Rattle.cql_window.specs.Laws.{between}
use Rattle.cql_window.specs.Span.{rows_of, rows_in}
use Rattle.cql_window.proofs.Segments.{between_more}
use Rattle.cql_window.proofs.span.PartIterator.next.Goals as goal

pub returns-clause-steps : goal.returns-clause-steps
returns-clause-steps c =
    let s = c.self.inside in
    let run = c.near-near.result.now in
    let all = rows_of s.pin.now in
    let none : s.near.now ≡ [] = nil_from_length s.near.now c.in_default.ensures.cases in
    let parts : run ≡ c.in-Some-split_first.row.now ∷ c.in-Some-split_first.rest.now = search rules in
    sym c.self.view_is
    ∙ ap (λ l. l ++ rows_in s.span all) none
    ∙ sym (between_more s.span.from s.span.to (length run) all run c.near-near.ensures.rows c.near-near.ensures.within c.self.invariant.1)
    ∙ ap (λ l. l ++ between (s.span.from + length run) s.span.to all) parts
