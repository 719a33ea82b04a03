use Rattle.std.proofs.lemmas.Grind.{common_steps}
use Rattle.std.proofs.Common.{◌≡◌, rules, ap, ◌∙◌, [], ◌∷◌, ◌++◌, append-nil, arith}
use Rattle.cql_chunks.specs.Chunks.{rows_of}
use Rattle.cql_chunks.proofs.Rows.{rows_close}
use Rattle.cql_chunks.proofs.plain.close.Goals as goal

pub returns-in-Ok-push_back-clause-rows : goal.returns-in-Ok-push_back-clause-rows
returns-in-Ok-push_back-clause-rows c =
    let full = c.args.full.now.items in
    let last = c.args.last.now.items in
    let pushed : c.push_back.new.self.items ≡ full ++ last ∷ [] = search rules in
    let none : c.replace.new.dest.items ≡ [] = search rules in
    rw (pushed, none) (rows_close full last [] ∙ ap (rows_of full) (append-nil last))

pub returns-in-Ok-push_back-clause-are_full : goal.returns-in-Ok-push_back-clause-are_full
returns-in-Ok-push_back-clause-are_full c = grind (arith, common_steps)

pub returns-in-Err-clause-are_full : goal.returns-in-Err-clause-are_full
returns-in-Err-clause-are_full c = grind (arith, common_steps)

pub returns-in-Err-clause-short : goal.returns-in-Err-clause-short
returns-in-Err-clause-short c = grind (arith, common_steps)

pub returns-in-Ok-push_back-clause-room : goal.returns-in-Ok-push_back-clause-room
returns-in-Ok-push_back-clause-room c = grind (arith, common_steps)

pub returns-in-Ok-push_back-clause-short : goal.returns-in-Ok-push_back-clause-short
returns-in-Ok-push_back-clause-short c = grind (arith, common_steps)
