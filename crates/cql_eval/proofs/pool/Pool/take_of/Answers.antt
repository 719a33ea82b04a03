use Rattle.std.proofs.Common.{◌≡◌, ap, option_map, unwrap_or, arith}
use Rattle.cql_eval.specs.Warm.{WarmModel}
use Rattle.cql_eval.proofs.Pools.{taken}
use Rattle.cql_eval.proofs.pool.Pool.take_of.Goals as goal

pub invariant_of-self : goal.invariant_of-self
invariant_of-self g c =
    let inside = c.self.inside in
    taken inside.spare.items inside.kept c.pop.new.self inside.left inside.left inside.room c.self.invariant _ c.pop.result c.pop.ensures.value c.pop.ensures.entries (omega arith)

pub invariant_of-self-2 : goal.invariant_of-self-2
invariant_of-self-2 g c =
    let inside = c.self.inside in
    let weight : unwrap_or (option_map (λ (w : WarmModel). w.weight) c.pop.result) 0 ≡ c.in_ok-bench.bench.weight = ap (λ o. unwrap_or (option_map (λ (w : WarmModel). w.weight) o) 0) c.in_ok-bench.was in
    taken inside.spare.items inside.kept c.pop.new.self inside.left c.saturating_add-self-inside.result inside.room c.self.invariant _ c.pop.result c.pop.ensures.value c.pop.ensures.entries (omega (arith, weight, c.weight.ensures, c.saturating_add-self-inside.ensures))
