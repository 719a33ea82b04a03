use Rattle.std.proofs.Common.{◌≡◌, ◌∷◌, length, ap, ◌∙◌, arith}
use Rattle.json.specs.Token.{Token}
use Rattle.json.specs.Json.{items, value, parse_map}
use Rattle.json.proofs.Grammar.{value-begin_array}
use Rattle.serde_json.specs.Data.{array}
use Rattle.serde_json.specs.Read.{of_json, converted}
use Rattle.cql_lines.proofs.Turns.{converted-array}
use Rattle.cql_asked.proofs.PlainLines.{if_ok}
use Rattle.cql_asked.proofs.plain.next_row.Goals as goal

pub returns-clause-ok : goal.returns-clause-ok
returns-clause-ok c =
    let rest = c.begin_array.new.self in
    let is : c.args.reader.now ≡ Token.begin_array ∷ rest = grind arith in
    let opened = ap (converted of_json) (ap (value 126) is ∙ value-begin_array 126 rest (omega arith)) ∙ converted-array (items (value 125) (length rest) rest) in
    if_ok c.next_values.result (λ _ found. (array found.0, opened ∙ ap (parse_map array) found.1, found.2)) c.next_values.ensures.ok
