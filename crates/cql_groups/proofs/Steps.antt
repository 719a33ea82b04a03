-- What the operator of kept groups is seen as, once a row was pushed or changes were told.
use Rattle.std.proofs.Common.{◌≡◌, ℕ, [], ◌∷◌, List, Bool, true, false, inl, inr, Some, refl, sym, ap, ◌∙◌, subst}
use Rattle.cql_bag.specs.Bag.{Counts}
use Rattle.cql_bag.specs.Changes.{changed, changed_by}
use Rattle.cql_bag.specs.declared.change.Change.{Change}
use Rattle.cql_plan.specs.declared.fault.Fault.TheVariants as fault
use Rattle.cql_plan.specs.declared.node.Node.TheVariants as node
use Rattle.cql_plan.specs.declared.node.OperatorKind.TheVariants as kind
use Rattle.cql_plan.specs.declared.node.Shape.{Shape}
use Rattle.cql_algebra.specs.Value.{or_overflow}
use Rattle.cql_ops.specs.Clauses.{Emits, FailsToEmit, FailsToPush, IsFaulty}
use Rattle.cql_ops.specs.OperatorModel.{OperatorModel, pushed}
use Rattle.cql_ops.specs.declared.error.OpError.{OpError}
use Rattle.cql_ops.specs.declared.error.OpError.TheVariants.{NoMemory, Spent}
use Rattle.cql_plain.specs.Shaped.{FailsToShape, TellsShape}

not_both : (b : Bool) → b ≡ true → b ≡ false → ⊥
not_both b t f = (let e : true ≡ false = sym t ∙ f in absurd cc)

-- an operator that doesn't run is spent
pub spent_push : (s : OperatorModel) → s.running ≡ false → FailsToPush s Spent
spent_push s off = record { running = λ on. absurd (not_both s.running on off); spent = λ _. refl }

pub spent_emit : (s : OperatorModel) → s.running ≡ false → FailsToEmit s Spent
spent_emit s off = record { running = λ on. absurd (not_both s.running on off); spent = λ _. refl }

pub no_memory : (s : OperatorModel) → s.running ≡ true → FailsToPush s NoMemory
no_memory s on = record { running = λ _. refl; spent = λ off. absurd (not_both s.running on off) }

module _ (shape : Shape) (limit : ℕ) where
  abbrev pub seen : Counts → Counts → Bool → OperatorModel
  seen port told running = record { kind = kind.Shape; node = node.Shape shape; limit = limit; ports = port ∷ []; told = told; running = running }

  module _ (port told : Counts) (running : Bool) (s : OperatorModel) (is : seen port told running ≡ s) (on : running ≡ true) where
    pub pushed_is : (now now_told : Counts) (c : Change) (at : ℕ) → at ≡ 0 → now ≡ changed c port → now_told ≡ told → seen now now_told true ≡ pushed at c s
    pushed_is now now_told c at zero e f = ap (λ p. seen p now_told true) e ∙ ap (λ t. seen (changed c port) t true) f ∙ ap (seen (changed c port) told) (sym on) ∙ ap (λ n. pushed n c (seen port told running)) (sym zero) ∙ ap (pushed at c) is

    pub emits_is : (after : Counts) (before out : List Change) → TellsShape shape port told after before out → Emits s (seen port after true) before out
    emits_is after before out (changes, grown, t) = subst (λ m. Emits m (seen port after true) before out) is (
      changes,
      grown,
      record {
        running = on;
        same = ap (λ b. seen port b true) t.leads ∙ ap (seen port (changed_by changes told)) (sym on);
        there = t.there;
        value = ap or_overflow (t.value ∙ ap (λ b. Some b) t.leads);
        columns = t.columns;
      },
    )

    pub fails_is : (e : OpError) → FailsToShape shape port e → FailsToEmit s e
    fails_is e why = subst (λ m. FailsToEmit m e) is (record { running = λ _. faulty why; spent = λ off. absurd (not_both running on off) })
      where
        faulty : FailsToShape shape port e → IsFaulty (seen port told running) e
        faulty (inl n) = inl n
        faulty (inr o) = inr (fault.Overflow, o.0, ap or_overflow o.1)
