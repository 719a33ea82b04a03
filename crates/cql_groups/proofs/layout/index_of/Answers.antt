use Rattle.std.proofs.Common.{◌≡◌, ◌++◌, List, [], ◌∷◌, Some, length, slice_get, inl, inr, refl, sym, ap, ◌∙◌, subst}
use Rattle.std.specs.List.{AllByRecursion}
use Rattle.cql_groups.specs.Layouts.{IsOther}
use Rattle.cql_groups.specs.declared.accumulator.AccumulatorKind.{AccumulatorKind}
use Rattle.cql_groups.proofs.layout.index_of.Goals as goal

at_end : (asked : List AccumulatorKind) (one : AccumulatorKind) → slice_get (asked ++ one ∷ []) (length asked) ≡ Some one
at_end [] one = refl
at_end (x ∷ asked) one = at_end asked one

pub returns-in-Some : goal.returns-in-Some
returns-in-Some c = (subst (λ l. slice_get l c.in-Some.index ≡ Some c.args.one) c.as_slice.ensures.value c.in-Some.ensures.index, inl refl)

pub returns : goal.returns
returns c =
    let asked = c.args.asked.now.items in
    let grown = c.in_ok-push.ensures.items in
    let last = c.len-index.ensures ∙ sym c.as_slice.ensures.len ∙ ap length c.as_slice.ensures.value in (
      ap (slice_get c.push.new.self.items) last ∙ ap (λ l. slice_get l (length asked)) grown ∙ at_end asked c.args.one,
      inr (grown, subst (AllByRecursion (IsOther c.args.one)) c.as_slice.ensures.value (c.found.ensures.none c.in_default.is)),
    )
