use Rattle.std.proofs.Common.{◌≡◌, ℕ, List, sym, ap, subst}
use Rattle.std.proofs.lemmas.Result.{IfOk-weaker}
use Rattle.cql_value.specs.Element.{Element}
use Rattle.cql_window.specs.Pin.{Pinned}
use Rattle.cql_window.specs.Span.{rows_of, rows_in, rows_left, IsWithin}
use Rattle.cql_window.specs.Walk.{IsExchange}
use Rattle.cql_window.specs.Through.{narrowed_all}
use Rattle.cql_eval.specs.Projected.{ProjectedWalkModel}
use Rattle.cql_eval.proofs.Through.{both_ok, exchange_through}
use Rattle.cql_eval.proofs.projected_walk.ProjectedWalk.advance.Goals as goal

pub returns-clause-moved : goal.returns-clause-moved
returns-clause-moved c =
    let projection : List ℕ = c.self.inside.projection.now in
    let before : List Element = c.self.inside.walk.held in
    let now : List Element = c.advance.new.self.held in
    let pin : c.self.inside.walk.pin ≡ c.advance.new.self.pin = sym c.advance.ensures.pin in
    let held : narrowed_all projection before ≡ c.args.self.now.held = ap (λ (s : ProjectedWalkModel). s.held) c.self.view_is in
    IfOk-weaker c.advance.result _ _
    (λ m is. record {
      came = subst (λ (p : Pinned). IsWithin m.came (rows_of p)) pin is.0.0;
      left = subst (λ (p : Pinned). IsWithin m.left (rows_of p)) pin is.0.1;
      moved = subst (λ l. IsExchange l (narrowed_all projection (rows_in m.came (rows_of c.advance.new.self.pin))) (narrowed_all projection (rows_left m (rows_of c.advance.new.self.pin))) (narrowed_all projection now)) held
          (exchange_through projection before (rows_in m.came (rows_of c.advance.new.self.pin)) (rows_left m (rows_of c.advance.new.self.pin)) now
          (subst (λ (p : Pinned). IsExchange before (rows_in m.came (rows_of p)) (rows_left m (rows_of p)) now) pin is.1));
    })
    (both_ok c.advance.result _ _ (both_ok c.advance.result _ _ c.advance.ensures.came c.advance.ensures.left) c.advance.ensures.moved)
