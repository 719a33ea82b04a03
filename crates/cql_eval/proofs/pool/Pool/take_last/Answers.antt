use Rattle.std.proofs.Common.{◌≡◌, ap, option_map, unwrap_or, arith}
use Rattle.cql_eval.specs.declared.query_key.QueryKey.{QueryKey}
use Rattle.cql_eval.specs.Warm.{WarmModel}
use Rattle.cql_eval.proofs.Pools.{last_taken}
use Rattle.cql_eval.proofs.pool.Pool.take_last.Goals as goal

pub invariant_of-self : goal.invariant_of-self
invariant_of-self g c =
    let inside = c.self.inside in
    last_taken inside.spare.items inside.kept c.pop_lru.new.self inside.left inside.left inside.room c.self.invariant c.pop_lru.result c.pop_lru.ensures.value c.pop_lru.ensures.entries (omega arith)

pub invariant_of-self-2 : goal.invariant_of-self-2
invariant_of-self-2 g c =
    let inside = c.self.inside in
    let weight : unwrap_or (option_map (λ (e : QueryKey × WarmModel). e.1.weight) c.pop_lru.result) 0 ≡ c.in_ok-_key.last.weight = ap (λ o. unwrap_or (option_map (λ (e : QueryKey × WarmModel). e.1.weight) o) 0) c.in_ok-_key.was in
    last_taken inside.spare.items inside.kept c.pop_lru.new.self inside.left c.saturating_add-self-inside.result inside.room c.self.invariant c.pop_lru.result c.pop_lru.ensures.value c.pop_lru.ensures.entries (omega (arith, weight, c.weight.ensures, c.saturating_add-self-inside.ensures))
