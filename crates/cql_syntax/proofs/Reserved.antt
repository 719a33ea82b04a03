-- The reserved words of a text are those of names.
use Rattle.std.proofs.Common.{◌≡◌, Bool, true, false, ◌||◌, if◌then◌else◌, [], ◌∷◌, map, Some, is_some, refl}
use Rattle.std.specs.List.{list_any}
use Rattle.std.specs.Str.{str_eq_ignore_ascii_case}
use Rattle.cql_value.specs.Name.{is_reserved}
use Rattle.cql_syntax.specs.Lex.{Bytes, Table, lookup, reserved, reserved_words}

found : (rows : Table) (s : Bytes) → is_some (lookup rows s) ≡ list_any (λ w. str_eq_ignore_ascii_case s w) (map (λ r. r.0) rows)
found [] s = refl
found (r ∷ rows) s = at (found rows s) (str_eq_ignore_ascii_case s r.0)
  where
    at : is_some (lookup rows s) ≡ list_any (λ w. str_eq_ignore_ascii_case s w) (map (λ r. r.0) rows) → (b : Bool) →
        is_some (if b then Some r.1 else lookup rows s) ≡ (b || list_any (λ w. str_eq_ignore_ascii_case s w) (map (λ r. r.0) rows))
    at ih true = refl
    at ih false = ih

pub reserved_as_name : (s : Bytes) → is_some (reserved s) ≡ is_reserved s
unfolding is_reserved reserved
reserved_as_name s = found reserved_words s
