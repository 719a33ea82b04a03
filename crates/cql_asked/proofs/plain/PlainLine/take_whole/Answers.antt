use Rattle.std.proofs.Common.{◌≡◌, true, bytes_eq, refl, arith}
use Rattle.std.specs.Prelude.{codes}
use Rattle.std.proofs.lemmas.Slice.Eq.{bytes_eq-Decides}
use Rattle.cql_asked.proofs.PlainLines.{holds_at, holds_to, holds_until}
use Rattle.cql_asked.proofs.plain.PlainLine.take_whole.Goals as goal

pub returns-in-at : goal.returns-in-at
returns-in-at c =
    let same : bytes_eq c.args.key.now (codes "at") ≡ true = grind arith in
    let named = (bytes_eq-Decides c.args.key.now (codes "at")).0 same in
    λ ms h. rw named (holds_at c.args.self.now ms h c.args.n _ refl)

pub returns-in-to : goal.returns-in-to
returns-in-to c =
    let same : bytes_eq c.args.key.now (codes "to") ≡ true = grind arith in
    let named = (bytes_eq-Decides c.args.key.now (codes "to")).0 same in
    λ ms h. rw named (holds_to c.args.self.now ms h c.args.n _ refl)

pub returns-in-until : goal.returns-in-until
returns-in-until c =
    let same : bytes_eq c.args.key.now (codes "until") ≡ true = grind arith in
    let named = (bytes_eq-Decides c.args.key.now (codes "until")).0 same in
    λ ms h. rw named (holds_until c.args.self.now ms h c.args.n _ refl)
