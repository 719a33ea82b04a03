use Rattle.std.proofs.Common.{◌≡◌, true, bytes_eq, refl, arith}
use Rattle.std.specs.Prelude.{codes}
use Rattle.std.proofs.lemmas.Slice.Eq.{bytes_eq-Decides}
use Rattle.cql_asked.proofs.PlainLines.{holds_word, holds_tenant, holds_stream, holds_name}
use Rattle.cql_asked.proofs.plain.PlainLine.take_text.Goals as goal

pub returns-in-do : goal.returns-in-do
returns-in-do c =
    let same : bytes_eq c.args.key.now (codes "do") ≡ true = grind arith in
    let named = (bytes_eq-Decides c.args.key.now (codes "do")).0 same in
    λ ms h. rw (named, c.read-self.ensures) (holds_word c.args.self.now ms h c.args.text.now _ refl)

pub returns-in-stream : goal.returns-in-stream
returns-in-stream c =
    let same : bytes_eq c.args.key.now (codes "stream") ≡ true = grind arith in
    let named = (bytes_eq-Decides c.args.key.now (codes "stream")).0 same in
    λ ms h. rw named (holds_stream c.args.self.now ms h c.args.text _ refl)

pub returns-in-tenant : goal.returns-in-tenant
returns-in-tenant c =
    let same : bytes_eq c.args.key.now (codes "tenant") ≡ true = grind arith in
    let named = (bytes_eq-Decides c.args.key.now (codes "tenant")).0 same in
    λ ms h. rw named (holds_tenant c.args.self.now ms h c.args.text _ refl)

pub returns-in-name : goal.returns-in-name
returns-in-name c =
    let same : bytes_eq c.args.key.now (codes "name") ≡ true = grind arith in
    let named = (bytes_eq-Decides c.args.key.now (codes "name")).0 same in
    λ ms h. rw named (holds_name c.args.self.now ms h c.args.text _ refl)
