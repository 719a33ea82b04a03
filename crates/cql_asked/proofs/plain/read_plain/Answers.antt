use Rattle.std.proofs.Common.{◌≡◌, [], ◌∷◌, length, ap, ◌∙◌, arith}
use Rattle.json.specs.Token.{Token}
use Rattle.json.specs.Json.{members, value, parse_map}
use Rattle.json.specs.Lex.{tokens}
use Rattle.json.proofs.Grammar.{value-begin_object}
use Rattle.serde_json.specs.Data.{object}
use Rattle.serde_json.specs.Read.{read, of_json, converted}
use Rattle.cql_asked.specs.Plain.{Reads}
use Rattle.cql_lines.proofs.Turns.{converted-object, whole_read}
use Rattle.cql_asked.proofs.PlainLines.{called}
use Rattle.cql_asked.proofs.plain.read_plain.Goals as goal

pub returns : goal.returns
returns c =
    let text = c.args.text.now in
    let ts = tokens text in
    let rest = c.begin_object.new.self in
    let is : ts ≡ Token.begin_object ∷ rest = grind arith in
    let found = c.in_ok-line.ensures in
    let opened = ap (converted of_json) (ap (value 127) is ∙ value-begin_object 127 rest (omega arith)) ∙ converted-object (members (value 126) (length rest) rest) in
    let read_so_far : Reads 127 ts (object found.0) c.next_members.new.reader = opened ∙ ap (parse_map object) found.1 in
    let all : Reads 127 ts (object found.0) [] = grind (arith, read_so_far) in
    called (read text) c.in_ok-line.line found.0 c.into_command.result (whole_read (value 127 ts) (object found.0) all) found.2 c.into_command.ensures
