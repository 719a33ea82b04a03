use Rattle.std.proofs.Common.{◌∙◌, sym}
use Rattle.std.proofs.lemmas.Result.{IfOk-weaker}
use Rattle.cql_algebra.specs.ByKind.{output_of, output_of_bags}
use Rattle.cql_eval.specs.Shown.{fault_or}
use Rattle.cql_eval.proofs.Passed.{same_bag}
use Rattle.cql_eval.proofs.passing.told_of_moved.Goals as goal

pub returns-in-None-None : goal.returns-in-None-None
returns-in-None-None c =
    IfOk-weaker c.told_of_rows.result _ _
    (λ o is other was now same. is other
    ∙ (λ i. output_of_bags c.args.kind (same_bag c.same_counts.ensures c.put_all_counts.ensures _ _ c.sort.ensures.left i) (same_bag c.same_counts.ensures c.put_all_counts.ensures _ _ c.sort.ensures.came i))
    ∙ same ∙ (λ i. output_of c.args.kind (fault_or (sym c.in-None-None.is-1 i) was) (fault_or (sym c.in-None-None.is-0 i) now)))
    c.told_of_rows.ensures
