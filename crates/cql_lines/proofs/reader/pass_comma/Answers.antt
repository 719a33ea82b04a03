use Rattle.std.proofs.Common.{◌≡◌, ◌∷◌, true, sym, subst, arith}
use Rattle.cql_lines.specs.Plain.{Passes}
use Rattle.cql_lines.proofs.Steps.{comma_passed}
use Rattle.cql_lines.proofs.reader.pass_comma.Goals as goal

pub returns-else-not-take : goal.returns-else-not-take
returns-else-not-take c =
    let passed : Passes true (44 ∷ c.take.new.self) c.pass_space.new.self = comma_passed c.take.new.self c.pass_space.new.self c.pass_space.ensures in
    let first : c.args.cursor.now ≡ 44 ∷ c.take.new.self = grind arith in
    let follows : c.args.follows ≡ true = grind arith in
    subst (λ f. Passes f c.args.cursor.now c.pass_space.new.self) (sym follows) (subst (λ t. Passes true t c.pass_space.new.self) (sym first) passed)
