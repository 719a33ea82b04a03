use Rattle.std.proofs.Common.{◌≡◌, ◌∷◌, arith}
use Rattle.json.specs.Token.{number}
use Rattle.json.specs.Lex.{token, between, lex}
use Rattle.cql_lines.proofs.Steps.{number_read}
use Rattle.cql_lines.proofs.reader.number_token.Goals as goal

pub returns : goal.returns
returns c =
    let t = c.args.cursor.now in
    let s = c.in_ok-text.text.now in
    let u = c.number.new.self in
    let first : lex between t ≡ token (number s) ∷ lex between u = grind arith in
    number_read t u s first
