use Rattle.std.proofs.Common.{ℕ, List, subst}
use Rattle.std.specs.List.Sorted.{IsPermutation}
use Rattle.std.proofs.lemmas.List.Sorted.{IsPermutation-map}
use Rattle.std.proofs.lemmas.Result.{IfOk-weaker}
use Rattle.cql_window.specs.Through.{narrowed}
use Rattle.cql_eval.specs.Projected.{ProjectedWalkModel, projected_by}
use Rattle.cql_eval.proofs.projected_walk.ProjectedWalk.held.Goals as goal

pub returns : goal.returns
returns c =
    let projection : List ℕ = c.self.inside.projection.now in
    IfOk-weaker c.held.result _ _ (λ r is.
    subst (λ (k : ProjectedWalkModel). IsPermutation (projected_by k r.items) k.held) c.self.view_is
    (IsPermutation-map (narrowed projection) r.items c.self.inside.walk.held is)) c.held.ensures
