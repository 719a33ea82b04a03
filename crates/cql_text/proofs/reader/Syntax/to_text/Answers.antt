use Rattle.std.proofs.Common.{◌≡◌, ◌≤◌, length, IfOk, Result, Ok, Err, String, string_bytes, subst}
use Rattle.cql_syntax.specs.declared.syntax.Query.{Query}
use Rattle.cql_text.specs.Read.{most_bytes, Is, IsSyntax}
use Rattle.cql_syntax.specs.Spelling.{canonical}
use Rattle.cql_text.proofs.RoundTrip.{canonical_is}
use Rattle.cql_text.proofs.reader.Syntax.to_text.Goals as goal

fits : {Z E : Type 0} (r : Result (String Z) E) (q p : Query) → IsSyntax q → q ≡ p → IfOk r (λ s. string_bytes s ≡ canonical q) → IfOk r (λ s. length (string_bytes s) ≤ most_bytes → Is (string_bytes s) p)
fits (Ok s) q p h e g = λ small. subst (Is (string_bytes s)) e (canonical_is (string_bytes s) q h g small)
fits (Err x) q p h e g = tt

pub returns-clause-again : goal.returns-clause-again
returns-clause-again c = fits c.text_of.result c.self.inside.query c.args.self.now c.self.invariant c.self.view_is c.text_of.ensures
