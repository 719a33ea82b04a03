use Rattle.std.proofs.lemmas.Grind.{common_steps}
use Rattle.std.proofs.Common.{◌≡◌, ◌++◌, ◌∷◌, [], arith, ap, ◌∙◌, length, refl}
use Rattle.cql_hall.specs.declared.filings.FiledLine.{FiledLine}
use Rattle.cql_hall.specs.Queue.{calls_in}
use Rattle.cql_hall.proofs.Queueing.{calls_push}
use Rattle.cql_hall.proofs.filings.Filings.push.Goals as goal

pub returns-clause-ok : goal.returns-clause-ok
returns-clause-ok c =
    let s = c.self.inside in
    let line = c.args.line.now in
    let piece : FiledLine = record { tenant = c.args.tenant; len = length line } in
    let pieces : c.push_reserved.new.self.items ≡ s.pieces.items ++ piece ∷ [] = grind (arith, common_steps) in
    let text : c.extend_from_slice.new.self.items ≡ s.text.items ++ line = grind (arith, common_steps) in
    ap (λ ps. calls_in ps c.extend_from_slice.new.self.items) pieces
    ∙ ap (calls_in (s.pieces.items ++ piece ∷ [])) text
    ∙ calls_push s.pieces.items s.text.items piece line c.self.invariant refl
    ∙ ap (λ calls. calls ++ record { tenant = c.args.tenant; line = line } ∷ []) c.self.view_is

pub invariant_of-self-2 : goal.invariant_of-self-2
invariant_of-self-2 c = grind (arith, common_steps)
