-- What single tokens mean, and what is made of the parts of a production.
use Rattle.std.specs.Prelude.{ℕ, zero, suc, ◌*◌, ◌^◌, nat_lt, nat_le, ℤ, pos, negsuc, Bool, ◌||◌, ◌&&◌, if◌then◌else◌, List, [], ◌∷◌, Option, Some, None, codes}
use Rattle.std.specs.Str.{str_eq_ignore_ascii_case}
use Rattle.cql_value.specs.Name.{is_name}
use Rattle.cql_syntax.specs.declared.token.Fixed.TheVariants as k
use Rattle.cql_syntax.specs.declared.token.Token.{Token}
use Rattle.cql_syntax.specs.declared.token.Token.TheVariants as t
use Rattle.cql_syntax.specs.declared.syntax.QualifiedName.{QualifiedName}
use Rattle.cql_syntax.specs.declared.syntax.Constant.{Constant}
use Rattle.cql_syntax.specs.declared.syntax.Constant.TheVariants as constant
use Rattle.cql_syntax.specs.declared.syntax.WrittenWindow.{WrittenWindow}
use Rattle.cql_syntax.specs.declared.syntax.WrittenWindow.TheVariants as window
use Rattle.cql_syntax.specs.Tokens.{is, is_word, knows}
use Rattle.cql_syntax.specs.Operators.{function_of}

-- ---- names

-- a word that isn't reserved is a name if it has at most 32 bytes
abbrev pub name_of : Token → Option (List ℕ)
name_of (t.Word s) = if is_name s then Some s else None
name_of (t.Fixed j) = None
name_of (t.Number n) = None
name_of (t.Text s) = None

abbrev pub starts_alias : Token → Bool
starts_alias x = is k.As x || is_word x

abbrev pub qualified : List ℕ → Option (List ℕ) → QualifiedName
qualified first None = record { qualifier = None; name = first }
qualified first (Some second) = record { qualifier = Some first; name = second }

-- ---- constants

abbrev pub constant_of : Token → Option Constant
constant_of (t.Number n) = if nat_lt n (2 ^ 63) then Some (constant.Number (pos n)) else None
constant_of (t.Text s) = Some (constant.Text s)
constant_of (t.Fixed j) = None
constant_of (t.Word s) = None

abbrev pub minus : ℕ → ℤ
minus zero = pos 0
minus (suc n) = negsuc n

-- the number behind a constant's own `-`
abbrev pub negative_of : Token → Option Constant
negative_of (t.Number n) = if nat_le n (2 ^ 63) then Some (constant.Number (minus n)) else None
negative_of (t.Fixed j) = None
negative_of (t.Word s) = None
negative_of (t.Text s) = None

-- ---- aggregates

abbrev pub starts_aggregate : Token → Bool
starts_aggregate x = is k.Count x || knows function_of x

-- ---- windows

-- a number from the least to 2^62 - 1
abbrev pub number_from : ℕ → Token → Option ℕ
number_from least (t.Number n) = if nat_le least n && nat_lt n (2 ^ 62) then Some n else None
number_from least (t.Fixed j) = None
number_from least (t.Word s) = None
number_from least (t.Text s) = None

-- one of two words, in any case of their letters
abbrev pub is_either : List ℕ → List ℕ → List ℕ → Bool
is_either w one several = str_eq_ignore_ascii_case w one || str_eq_ignore_ascii_case w several

-- the ticks of a unit
unfoldable pub unit_named : List ℕ → Option ℕ
unit_named w =
    if is_either w (codes "second") (codes "seconds") then Some 1
    else (if is_either w (codes "minute") (codes "minutes") then Some 60
    else (if is_either w (codes "hour") (codes "hours") then Some 3600
    else (if is_either w (codes "day") (codes "days") then Some 86400 else None)))

-- a name that is a unit
unfoldable pub unit_of : Token → Option ℕ
unit_of (t.Word w) = if is_name w then unit_named w else None
unit_of (t.Fixed j) = None
unit_of (t.Number n) = None
unit_of (t.Text s) = None

abbrev pub times : ℕ → Option ℕ → Option ℕ
times n None = None
times n (Some u) = if nat_lt (n * u) (2 ^ 62) then Some (n * u) else None

-- so many of a unit, in ticks: at most 2^62 - 1
abbrev pub ticks_of : ℕ → Token → Option ℕ
ticks_of n x = times n (unit_of x)

abbrev pub or_else : ℕ → Option ℕ → ℕ
or_else n None = n
or_else n (Some m) = m

-- no window is the unbounded one
abbrev pub or_unbounded : Option WrittenWindow → WrittenWindow
or_unbounded None = window.Unbounded
or_unbounded (Some w) = w

-- ---- lists

abbrev pub or_empty : {A : Type 0} → Option (List A) → List A
or_empty None = []
or_empty (Some xs) = xs

abbrev pub to_list : {A : Type 0} → Option A → List A
to_list None = []
to_list (Some x) = x ∷ []
