-- What was told up to an instant, and what is shown there.
use Rattle.std.proofs.Common.{◌≡◌, ℕ, ◌≤◌, List, [], ◌∷◌, length, sym, subst, arith}
use Rattle.std.specs.Prelude.{Result, Ok, Err, OnOk}
use Rattle.cql_bag.specs.Bag.{Counts}
use Rattle.cql_algebra.specs.Blocks.{AreBlocks}
use Rattle.cql_algebra.specs.Runs.{RunsModel, StandFor}
use Rattle.cql_ops.specs.Bench.{BenchModel}
use Rattle.cql_ops.specs.Running.{told_of}
use Rattle.cql_eval.specs.Answer.{AreBlocksOf}
use Rattle.cql_eval.specs.Pin.{PinModel}
use Rattle.cql_eval.specs.Projected.{ProjectedWalkModel}
use Rattle.cql_eval.specs.Relation.{relation_at, output_at}
use Rattle.cql_eval.specs.declared.shown.LastTold.{LastTold}
use Rattle.cql_eval.specs.Shown.{IsReady, IsShown, StandsFor, IsStill, HasCome, next_of}
use Rattle.cql_eval.proofs.Holding.{later_ready}
use Rattle.cql_eval.proofs.Quiet.{stays}

-- two facts behind a call that went well
pub on_ok_both : {T E : Type 0} (P Q : Type 0) (r : Result T E) → OnOk r P → OnOk r Q → OnOk r (P × Q)
on_ok_both P Q (Ok x) p q = (p, q)
on_ok_both P Q (Err e) p q = tt

-- the runs hold what is told while nothing changes
pub come_held : (p : PinModel) (n to : ℕ) (runs : RunsModel) (ks : List ProjectedWalkModel) (kept : LastTold) (o : BenchModel) → p.base ≤ to → IsStill p n to → runs.next ≡ to → StandFor (output_at p) p.from runs → IsReady p to ks o → StandsFor p.plan.output kept (told_of p.plan o) (relation_at p n) → HasCome p to runs ks kept o
come_held p n to runs ks kept o based still next stand ready stands = record {
  based = based;
  next = next;
  stand = stand;
  shown = record { ready = ready; stands = subst (StandsFor p.plan.output kept (told_of p.plan o)) (sym (stays p n to to still.quiet still.forward (omega arith))) stands };
}

-- the runs went on from what is shown where they were
pub come_from : (p : PinModel) (n to : ℕ) (old new : RunsModel) (ks : List ProjectedWalkModel) (kept : LastTold) (o : BenchModel) → p.base ≤ to → n ≡ old.next → IsStill p old.next to → IsShown p n ks kept o → StandFor (output_at p) p.from old → new.next ≡ to → ((told : Counts) → StandsFor p.plan.output kept told (relation_at p old.next) → StandFor (output_at p) p.from old → StandFor (output_at p) p.from new) → HasCome p to new ks kept o
come_from p n to old new ks kept o based at still shown stand next held =
    let here : IsShown p old.next ks kept o = subst (λ m. IsShown p m ks kept o) at shown in
    come_held p old.next to new ks kept o based still next (held (told_of p.plan o) here.stands stand) (later_ready p old.next to ks o still.forward here.ready) here.stands

-- from what is shown at the next instant, over which the runs may have gone
pub come_told : (p : PinModel) (n to : ℕ) (told new : RunsModel) (ks : List ProjectedWalkModel) (kept : LastTold) (o : BenchModel) → p.base ≤ to → n ≤ to → IsStill p told.next to → relation_at p told.next ≡ relation_at p n → IsShown p n ks kept o → StandFor (output_at p) p.from told → new.next ≡ to → ((bag : Counts) → StandsFor p.plan.output kept bag (relation_at p told.next) → StandFor (output_at p) p.from told → StandFor (output_at p) p.from new) → HasCome p to new ks kept o
come_told p n to told new ks kept o based le still same shown stand next held =
    let stands : StandsFor p.plan.output kept (told_of p.plan o) (relation_at p told.next) = subst (StandsFor p.plan.output kept (told_of p.plan o)) (sym same) shown.stands in
    come_held p told.next to new ks kept o based still next (held (told_of p.plan o) stands stand) (later_ready p n to ks o le shown.ready) stands

-- the same, with the instant said otherwise
pub come_at : (p : PinModel) (m n : ℕ) (runs : RunsModel) (ks : List ProjectedWalkModel) (kept : LastTold) (o : BenchModel) → m ≡ n → HasCome p m runs ks kept o → HasCome p n runs ks kept o
come_at p m n runs ks kept o is = subst (λ t. HasCome p t runs ks kept o) is

pub come_here : (p : PinModel) (n : ℕ) (runs : RunsModel) (ks : List ProjectedWalkModel) (kept : LastTold) (o : BenchModel) → HasCome p n runs ks kept o → HasCome p runs.next runs ks kept o
come_here p n runs ks kept o come = come_at p n runs.next runs ks kept o (sym come.next) come

-- at the pin's end, where no instant is left
pub come_end : (p : PinModel) (ts : List ℕ) (runs : RunsModel) (ks : List ProjectedWalkModel) (kept : LastTold) (o : BenchModel) → length ts ≡ 0 → HasCome p (next_of ts p.next) runs ks kept o → HasCome p p.next runs ks kept o
come_end p [] runs ks kept o none come = come
come_end p (t ∷ ts) runs ks kept o none come = absurd (omega (arith, none))

-- there the blocks are the pin's
pub come_blocks : (p : PinModel) (runs : RunsModel) (ks : List ProjectedWalkModel) (kept : LastTold) (o : BenchModel) → HasCome p p.next runs ks kept o → AreBlocksOf p runs.blocks
come_blocks p runs ks kept o come = subst (λ n. AreBlocks (output_at p) p.from n runs.blocks) come.next come.stand.1
