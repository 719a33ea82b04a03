-- Rows whose times and numbers lie side by side.
use Rattle.std.specs.Prelude.{◌≡◌, ℕ, ◌+◌, ◌<◌, ℤ, pos, List, ◌∷◌, length, map}
use Rattle.std.specs.List.{AllByRecursion, flat_map}
use Rattle.cql_value.specs.declared.value.Value.{Value}
use Rattle.cql_value.specs.Element.{Element}
use Rattle.cql_value.specs.Order.{kind_of, number_of}

-- a row's words: its time, and then its numbers
abbrev pub words_in : Element → List ℤ
words_in e = pos e.at ∷ map number_of e.row

-- those of rows, one row after another
abbrev pub words_of : List Element → List ℤ
words_of rows = flat_map words_in rows

-- no value is a text
abbrev pub AreNumbers : List Value → Type 0
AreNumbers row = AllByRecursion (λ v. kind_of v ≡ 0) row

-- rows of numbers that have so many words each
abbrev pub HaveWords : ℕ → List Element → Type 0
HaveWords width rows = AllByRecursion (λ e. (length e.row + 1 ≡ width) × AreNumbers e.row) rows

-- what lies beside rows is their words, so many for each; where that is 0 the words aren't known
abbrev pub IsBeside : ℕ → List ℤ → List Element → Type 0
IsBeside width words rows = 0 < width → HaveWords width rows × (words ≡ words_of rows)
