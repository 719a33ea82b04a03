use Rattle.std.proofs.Common.{◌≡◌, ap, arith}
use Rattle.cql_sessions.specs.declared.parting.Parting.{Parting}
use Rattle.cql_sessions.proofs.parting.Parting.go_on.Goals.{then-not-self+else-not-is_shut+else-is_err, else-not-self}
use Rattle.cql_sessions.proofs.parting.Parting.go_on.Goals as goal

pub returns-in-Ok-clause-less : goal.returns-in-Ok-clause-less
returns-in-Ok-clause-less c = λ worker.
    let same : c.if-not-self.self.left ≡ c.args.self.now.left = elim c.if-not-self.branch [
      | then-not-self+else-not-is_shut+else-is_err w ↦ ap (λ (p : Parting). p.left) w.self-is
      | else-not-self w ↦ ap (λ (p : Parting). p.left) w.self-is
    ] in
    omega (arith, same)

pub returns-in-Ok-clause-no_more : goal.returns-in-Ok-clause-no_more
returns-in-Ok-clause-no_more c =
    let same : c.if-not-self.self.left ≡ c.args.self.now.left = elim c.if-not-self.branch [
      | then-not-self+else-not-is_shut+else-is_err w ↦ ap (λ (p : Parting). p.left) w.self-is
      | else-not-self w ↦ ap (λ (p : Parting). p.left) w.self-is
    ] in
    omega (arith, same)

pub returns-in_default-clause-less : goal.returns-in_default-clause-less
returns-in_default-clause-less c = λ worker. grind arith

pub returns-in-Err-clause-less : goal.returns-in-Err-clause-less
returns-in-Err-clause-less c = λ worker. grind arith

pub returns-in_default-2-clause-less : goal.returns-in_default-2-clause-less
returns-in_default-2-clause-less c = λ worker. grind arith

pub returns-in_default-3-clause-less : goal.returns-in_default-3-clause-less
returns-in_default-3-clause-less c = λ worker. grind arith
