use Rattle.std.proofs.Common.{◌≡◌, ◌<◌, ◌∷◌, length, drop, get_or, true, Some, arith, sym, ap, ◌∙◌}
use Rattle.json.specs.Token.{number}
use Rattle.json.specs.Word.{after_number}
use Rattle.json.specs.Lex.{token, between, lex}
use Rattle.cql_lines.specs.Plain.{is_mark}
use Rattle.cql_lines.proofs.Plain.{number_at}
use Rattle.cql_lines.proofs.text_cursor.TextCursor.number.Goals as goal

pub returns : goal.returns
returns c =
    let d = c.self.inside.text.now in
    let i = c.self.inside.at in
    let stop = c.in_ok-stop.stop in
    let some : i < stop = grind arith in
    let within : stop < length d = grind arith in
    let mark : is_mark (get_or d stop 0) ≡ true = grind arith in
    let is : after_number (drop i d) ≡ Some (drop stop d) = grind arith in
    ap (lex between) (sym c.self.view_is) ∙ number_at d i stop some within mark is ∙ ap (λ s. token (number s) ∷ lex between (drop stop d)) (sym c.range-found.ensures.value)
