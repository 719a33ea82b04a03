use Rattle.std.proofs.Common.{◌≡◌, ◌∷◌, true, arith}
use Rattle.json.specs.Token.{string}
use Rattle.json.specs.Word.{head}
use Rattle.json.specs.Lex.{token, between, lex}
use Rattle.cql_lines.specs.Plain.{is_mark}
use Rattle.cql_lines.proofs.Steps.{string_read}
use Rattle.cql_lines.proofs.reader.text_token.Goals as goal

pub returns : goal.returns
returns c =
    let t = c.args.cursor.now in
    let s = c.in_ok-text.text.now in
    let u = c.string.new.self in
    let first : lex between t ≡ token (string s) ∷ lex between u = grind arith in
    let mark : is_mark (head u) ≡ true = grind arith in
    string_read t u s first mark
