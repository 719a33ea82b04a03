use Rattle.std.proofs.Common.{◌≡◌, ◌∷◌, arith}
use Rattle.json.specs.Token.{Token}
use Rattle.json.specs.Reads.{token_of}
use Rattle.serde_json.specs.Data.{string, number, unsigned}
use Rattle.cql_asked.proofs.PlainLines.{if_on, reads_string, reads_number}
use Rattle.cql_asked.proofs.plain.PlainLine.take_scalar.Goals as goal

pub returns-in-String-clause-ok : goal.returns-in-String-clause-ok
returns-in-String-clause-ok c =
    let first : c.args.reader.now ≡ token_of c.in_ok-token.token ∷ c.scalar.new.self = grind arith in
    let text = c.in-String.text.now in
    let is : c.args.reader.now ≡ Token.string text ∷ c.scalar.new.self = grind (arith, first) in
    if_on c.take_text.result (λ more. (string text, reads_string 126 c.args.reader.now text c.scalar.new.self is, more)) c.take_text.ensures

pub returns-in_ok-n-in-Number-clause-ok : goal.returns-in_ok-n-in-Number-clause-ok
returns-in_ok-n-in-Number-clause-ok c =
    let first : c.args.reader.now ≡ token_of c.in_ok-token.token ∷ c.scalar.new.self = grind arith in
    let text = c.in-Number.text.now in
    let is : c.args.reader.now ≡ Token.number text ∷ c.scalar.new.self = grind (arith, first) in
    let n = c.in_ok-n-in-Number.n in
    if_on c.take_whole.result (λ more. (number (unsigned n), reads_number 126 c.args.reader.now text (unsigned n) c.scalar.new.self is c.in_ok-n-in-Number.ensures, more)) c.take_whole.ensures
