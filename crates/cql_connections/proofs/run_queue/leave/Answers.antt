use Rattle.std.proofs.Common.{◌≡◌, ℕ, not, refl, rules}
use Rattle.std.specs.Prelude.{◌==◌}
use Rattle.std.proofs.lemmas.Fn.{filter_same}
use Rattle.cql_connections.proofs.run_queue.leave.Goals as goal

pub returns-then-is_last : goal.returns-then-is_last
returns-then-is_last c =
    let same = filter_same _ (λ (one : ℕ). not (one == c.args.owner)) _ (λ x b f called. search rules) _ _ c.retain.ensures.filtered in
    record { items = rw c.if-is_last.true same }
