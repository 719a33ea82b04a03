use Rattle.std.proofs.Common.{◌≤◌, length, sym, ◌∙◌, arith}
use Rattle.std.proofs.lemmas.List.{drop_all}
use Rattle.cql_lines.proofs.text_cursor.TextCursor.is_at_end.Goals as goal

pub returns : goal.returns
returns c is = let all : length c.self.inside.text.now ≤ c.self.inside.at = grind arith in sym c.self.view_is ∙ drop_all c.self.inside.at c.self.inside.text.now all
