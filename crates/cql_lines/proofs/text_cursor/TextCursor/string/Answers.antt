use Rattle.std.proofs.Common.{◌≡◌, ◌+◌, ◌<◌, ◌∷◌, length, drop, get_or, arith, sym, ap, ◌∙◌}
use Rattle.std.proofs.lemmas.Str.{IsCharBoundary-after_ascii}
use Rattle.std.specs.List.{prefix_len}
use Rattle.json.specs.Token.{string}
use Rattle.json.specs.Lex.{token, between, lex}
use Rattle.json.specs.Run.{is_plain}
use Rattle.cql_lines.proofs.Plain.{string_at}
use Rattle.cql_lines.proofs.text_cursor.TextCursor.string.Goals as goal

pub range-found-requires-clause-start_boundary : goal.range-found-requires-clause-start_boundary
range-found-requires-clause-start_boundary c some = IsCharBoundary-after_ascii c.self.inside.text.now c.self.inside.at c.self.invariant.0 (grind arith) (grind arith)

pub returns : goal.returns
returns c =
    let d = c.self.inside.text.now in
    let i = c.self.inside.at in
    let stop = c.plain_end-stop.result in
    let some : i < length d = grind arith in
    let first : get_or d i 0 ≡ 34 = grind arith in
    let is : stop ≡ i + 1 + prefix_len is_plain (drop (i + 1) d) = grind arith in
    let within : stop < length d = grind arith in
    let last : get_or d stop 0 ≡ 34 = grind arith in
    ap (lex between) (sym c.self.view_is) ∙ string_at d i stop some first is within last ∙ ap (λ s. token (string s) ∷ lex between (drop (stop + 1) d)) (sym c.range-found.ensures.value)
