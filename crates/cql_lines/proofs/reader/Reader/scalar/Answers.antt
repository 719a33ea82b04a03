use Rattle.std.proofs.Common.{sym, ◌∙◌, arith}
use Rattle.json.specs.Reads.{token_of}
use Rattle.cql_lines.specs.Plain.{Passes, IsScalar}
use Rattle.cql_lines.proofs.Steps.{scalar_read}
use Rattle.cql_lines.proofs.reader.Reader.scalar.Goals as goal

pub returns : goal.returns
returns c =
    let f = c.self.inside.follows in
    let old = c.self.inside.cursor in
    let t = c.pass_comma.new.cursor in
    let k = token_of c.in_ok-token.token in
    let u = c.scalar_token.new.cursor in
    let passes : Passes f old t = grind arith in
    let first : IsScalar t k u = c.in_ok-token.ensures in
    sym c.self.view_is ∙ scalar_read f old t passes k u first
