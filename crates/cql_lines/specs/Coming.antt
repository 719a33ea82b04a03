-- What has come of an input whose end isn't known yet.
use Rattle.std.specs.Prelude.{◌≡◌, ℕ, Bool, if◌then◌else◌, List, [], ◌∷◌, ◌++◌}
use Rattle.std.specs.List.{All, filter_map}
use Rattle.cql_lines.specs.Text.{LineText, HasNoFeed, kept, line_found, joined}

-- of these bytes: the lines that are whole and not blank, and what is kept of the one after them. Where that is fed, its line feed has come too, and it doesn't count yet
pub record HasCome (bytes : List ℕ) (lines : List LineText) (line : List ℕ) (fed : Bool) : Type 0 where
  pub raws : List (List ℕ)
  pub rest : List ℕ
  pub each : All HasNoFeed raws
  pub part : HasNoFeed rest
  pub bytes_are : bytes ≡ joined raws ++ (rest ++ (if fed then 10 ∷ [] else []))
  pub lines_are : lines ≡ filter_map line_found raws
  pub line_is : line ≡ kept rest
