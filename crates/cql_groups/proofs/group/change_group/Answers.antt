use Rattle.std.proofs.Common.{◌≡◌, ◌+◌, ◌<◌, ◌≤◌, false, true, sym, subst}
use Rattle.cql_groups.specs.Grouped.{IsChangedGroup, one_if}
use Rattle.cql_groups.specs.declared.group.Group.{Group}
use Rattle.cql_groups.proofs.group.change_group.Goals as goal

pub change-requires : goal.change-requires
change-requires c =
    let same = sym c.in_ok-mark.ensures.0 in
    record {
      few = subst (λ (g : Group). g.size < 9223372036854775808) same c.requires.few;
      some = subst (λ (g : Group). c.args.change.now.plus ≡ false → 1 ≤ g.size) same c.requires.some;
    }

pub counted-requires : goal.counted-requires
counted-requires c = subst (λ (g : Group). g.lacks ≡ true → 1 ≤ c.args.lacking.now) (sym c.in_ok-mark.ensures.0) c.requires.among

pub returns : goal.returns
returns c =
    let same = c.in_ok-mark.ensures.0 in
    record {
      group = subst (λ g. IsChangedGroup c.args.change.now g c.change.new.self) same c.in_ok-change.ensures;
      touched = c.in_ok-mark.ensures.1;
      lacking = subst (λ (g : Group). c.in_ok-lacking.field-0 + one_if g.lacks ≡ c.args.lacking.now + one_if c.change.new.self.lacks) same c.in_ok-lacking.ensures;
    }
