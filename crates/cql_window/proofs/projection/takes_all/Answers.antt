use Rattle.std.proofs.Common.{take, sym, ◌∙◌}
use Rattle.std.proofs.lemmas.Bool.Decides.{Decides-eqb}
use Rattle.std.proofs.lemmas.Slice.Eq.{slice_eq-Decides}
use Rattle.cql_window.specs.Projection.{whole_projection}
use Rattle.cql_window.proofs.Picks.{fewer_columns}
use Rattle.cql_window.proofs.projection.takes_all.Goals as goal

pub returns-then-many : goal.returns-then-many
returns-then-many c =
    let first = fewer_columns 0 c.args.many 16 c.if-many.true in
    let same = slice_eq-Decides Decides-eqb c.args.projection.now (take c.args.many (whole_projection 16)) c.eq.result c.eq.ensures in
    (λ t. (c.if-many.true, same.0 t ∙ first), λ p. same.1 (p.1 ∙ sym first))
