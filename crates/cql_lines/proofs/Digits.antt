-- Lemmas on a number of digits alone.
use Rattle.std.proofs.Common.{◌≡◌, ◌<◌, ◌^◌, ◌==◌, ℕ, false, List, [], Some, length, get_or, append-nil, lt-ltb, refl, sym, ap, ◌∙◌, subst}
use Rattle.std.specs.Str.Parse.{AllDigits, IsNumeral, digits_value, without_leading_plus}
use Rattle.fast_float.specs.Text.{Parts, scan, text_of}
use Rattle.fast_float.proofs.Writing.{scan-text_of}
use Rattle.serde_json.specs.Data.{unsigned}
use Rattle.serde_json.specs.Read.{number_of}

abbrev parts_of : List ℕ → Parts
parts_of s = record { whole = s; point = false; fraction = []; exponent_negative = false; exponent = []; len = length s }

scanned : (s : List ℕ) → AllDigits 10 s → scan s ≡ parts_of s
scanned s digits =
    let text : text_of (parts_of s) ≡ s = append-nil s in
    ap scan (sym text) ∙ scan-text_of (parts_of s) (record {
      whole_digits = digits;
      fraction_digits = tt;
      exponent_digits = tt;
      no_point = λ e. refl;
      no_exponent = λ e. refl;
      len_is = ap length (sym text);
    })

number_of-digits : (s : List ℕ) → (get_or s 0 0 == 45) ≡ false → 0 < length s → AllDigits 10 s → digits_value 10 s < 2 ^ 64 → number_of s ≡ Some (unsigned (digits_value 10 s))
unfolding number_of
number_of-digits s sign some digits fits =
    rw (sign, scanned s digits, append-nil s, lt-ltb 0 (length s) some, lt-ltb (digits_value 10 s) (2 ^ 64) fits)

no_plus : (s : List ℕ) → (get_or s 0 0 == 43) ≡ false → without_leading_plus s ≡ s
no_plus s plus = rw plus

-- what is parsed as digits
pub of_parsed : (s : List ℕ) (n : ℕ) → (get_or s 0 0 == 45) ≡ false → (get_or s 0 0 == 43) ≡ false
    → (IsNumeral 10 (without_leading_plus s) × (digits_value 10 (without_leading_plus s) < 2 ^ 64)) × (n ≡ digits_value 10 (without_leading_plus s)) → number_of s ≡ Some (unsigned n)
of_parsed s n minus plus h =
    let g = subst (λ t. (IsNumeral 10 t × (digits_value 10 t < 2 ^ 64)) × (n ≡ digits_value 10 t)) (no_plus s plus) h in
    number_of-digits s minus g.0.0.0 g.0.0.1 g.0.1 ∙ ap (λ m. Some (unsigned m)) (sym g.1)
