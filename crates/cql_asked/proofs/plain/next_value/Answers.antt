use Rattle.std.proofs.Common.{◌≡◌, ◌∷◌, Some, arith, rules}
use Rattle.json.specs.Token.{Token}
use Rattle.json.specs.Reads.{token_of}
use Rattle.serde_json.specs.Data.{number, string}
use Rattle.serde_json.specs.Read.{number_of}
use Rattle.serde_json.specs.Find.{as_i64}
use Rattle.cql_lines.specs.View.{num_view}
use Rattle.cql_asked.proofs.PlainLines.{reads_number, reads_string}
use Rattle.cql_asked.proofs.plain.next_value.Goals as goal

pub returns-in-Some-as_i64-clause-ok : goal.returns-in-Some-as_i64-clause-ok
returns-in-Some-as_i64-clause-ok c =
    let first : c.args.reader.now ≡ token_of c.in_ok-token.token ∷ c.scalar.new.self = grind arith in
    let is : c.args.reader.now ≡ Token.number c.in-Number.text.now ∷ c.scalar.new.self = grind (arith, first) in
    let x = num_view c.in-Some.number in
    let read : number_of c.in-Number.text.now ≡ Some x = grind arith in
    let whole : as_i64 x ≡ Some c.in-Some-as_i64.number = grind arith in
    (number x, reads_number 125 c.args.reader.now c.in-Number.text.now x c.scalar.new.self is read, rw whole (search rules))

pub returns-in_ok-text-in-String-clause-ok : goal.returns-in_ok-text-in-String-clause-ok
returns-in_ok-text-in-String-clause-ok c =
    let first : c.args.reader.now ≡ token_of c.in_ok-token.token ∷ c.scalar.new.self = grind arith in
    let is : c.args.reader.now ≡ Token.string c.in-String.text.now ∷ c.scalar.new.self = grind (arith, first) in
    (string c.in-String.text.now, reads_string 125 c.args.reader.now c.in-String.text.now c.scalar.new.self is, search rules)
