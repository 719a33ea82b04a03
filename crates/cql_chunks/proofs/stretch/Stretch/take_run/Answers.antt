use Rattle.std.proofs.lemmas.Grind.{common_steps}
use Rattle.std.proofs.Common.{◌≡◌, ◌+◌, ◌-◌, [], ◌++◌, arith, ap, sym, ◌∙◌, length, drop, take}
use Rattle.std.proofs.lemmas.List.{nil_from_length}
use Rattle.cql_chunks.proofs.Rows.{stretch_more}
use Rattle.cql_chunks.proofs.stretch.Stretch.take_run.Goals as goal

pub returns-clause-rows : goal.returns-clause-rows
returns-clause-rows c =
    let s = c.self.inside in
    let all = s.chunks.now in
    let run = c.run-run.result in
    let none : s.near.now ≡ [] = grind (arith, nil_from_length) in
    sym c.self.view_is
    ∙ ap (λ l. l ++ take (s.to - s.at) (drop s.at all)) none
    ∙ sym (stretch_more s.at s.to (length c.run-run.result) all c.run-run.result c.run-run.ensures.rows c.run-run.ensures.within)
    ∙ ap (λ l. run ++ (l ++ take (s.to - (s.at + length run)) (drop (s.at + length run) all))) (sym none)
    ∙ ap (λ n. run ++ (s.near.now ++ take (s.to - (s.at + n)) (drop (s.at + n) all))) (sym c.len.ensures)

pub returns-then-self-clause-none : goal.returns-then-self-clause-none
returns-then-self-clause-none c = grind (arith, common_steps)
