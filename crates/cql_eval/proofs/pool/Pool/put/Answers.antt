use Rattle.std.proofs.Common.{◌≡◌, ◌+◌, ap, arith}
use Rattle.cql_eval.specs.contracts.query_key.QueryKeyPartialEq.TheImpl.{eq-value}
use Rattle.cql_eval.specs.Warm.{WarmModel}
use Rattle.cql_eval.proofs.Pools.{put, spare_put}
use Rattle.cql_eval.proofs.pool.Pool.put.Goals as goal

pub invariant_of-self-in-Ok-2 : goal.invariant_of-self-in-Ok-2
invariant_of-self-in-Ok-2 g c =
    let inside = c.self.inside in
    let after : WarmModel = c.used_at.new.self in
    let same = ap (λ (w : WarmModel). w.weight) c.used_at.ensures in
    let before : inside.left ≡ c.in-Some-checked_sub.left + after.weight = omega (arith, c.in-Some-checked_sub.ensures, c.weight-2.ensures, same) in
    put inside.spare.items inside.kept c.put.new.self inside.left c.in-Some-checked_sub.left inside.room c.self.invariant eq-value.it c.in-Some.key after c.in-Ok.ensures.entries before

pub invariant_of-self : goal.invariant_of-self
invariant_of-self g c =
    let inside = c.self.inside in
    let none : c.args.bench.weight ≡ 0 = omega (arith, c.weight.ensures, c.if-weight-eq0.true) in
    spare_put inside.spare.items c.push.new.self.items inside.kept inside.left inside.room c.self.invariant c.args.bench _ c.push.ensures.items none

pub invariant_of-self-in-Err : goal.invariant_of-self-in-Err
invariant_of-self-in-Err g c = rw c.in-Err.ensures.err c.self.invariant
