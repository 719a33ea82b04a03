use Rattle.std.proofs.Common.{sym, subst, ◌∙◌}
use Rattle.std.specs.Arc.{arc_value}
use Rattle.cql_hall.specs.Entering.{Enters}
use Rattle.cql_hall.proofs.book.Book.enter.Goals as goal

pub returns-then-is_kept : goal.returns-then-is_kept
returns-then-is_kept g c =
    subst (λ keeps. Enters keeps c.args.self.now c.args.tenant (arc_value c.args.prepared.now) c.enter_kept.result c.enter_kept.new.self) (sym c.if-is_kept.true ∙ c.is_kept.ensures) c.enter_kept.ensures

pub returns-else-is_kept : goal.returns-else-is_kept
returns-else-is_kept g c =
    subst (λ keeps. Enters keeps c.args.self.now c.args.tenant (arc_value c.args.prepared.now) c.enter_bare.result c.enter_bare.new.self) (sym c.if-is_kept.false ∙ c.is_kept.ensures) c.enter_bare.ensures
