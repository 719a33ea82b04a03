use Rattle.std.proofs.Common.{◌≡◌, ◌∷◌, sym, ap, ◌∙◌, arith}
use Rattle.json.specs.Token.{string}
use Rattle.json.specs.Lex.{token, between, lex}
use Rattle.json.specs.Json.{read_key}
use Rattle.cql_lines.specs.Plain.{tokens_from, Passes}
use Rattle.cql_lines.proofs.Steps.{object_closes, key_read}
use Rattle.cql_lines.proofs.reader.Reader.next_key.Goals as goal

pub returns-then-take : goal.returns-then-take
returns-then-take c =
    let f = c.self.inside.follows in
    let first : c.self.inside.cursor ≡ 125 ∷ c.take.new.self = grind arith in
    ap read_key (sym c.self.view_is ∙ ap (tokens_from f) first ∙ object_closes f c.take.new.self)

pub returns : goal.returns
returns c =
    let f = c.self.inside.follows in
    let old = c.self.inside.cursor in
    let t = c.pass_comma.new.cursor in
    let s = c.in_ok-key.key.now in
    let u = c.string.new.self in
    let v = c.pass_space.new.self in
    let passes : Passes f old t = grind arith in
    let first : lex between t ≡ token (string s) ∷ lex between u = grind arith in
    let next : u ≡ 58 ∷ c.take-2.new.self = grind arith in
    ap read_key (sym c.self.view_is ∙ key_read f old t passes s u c.take-2.new.self v first next c.pass_space.ensures)
