-- What stands at an offset of a text without escapes.
use Rattle.std.proofs.Common.{◌≡◌, ℕ, suc, ◌+◌, ◌-◌, ◌<◌, Bool, true, false, ◌||◌, cond, ◌==◌, List, [], ◌∷◌, ◌++◌, length, take, drop, get_or, Option, Some, None, option_and_then, ◌⊎◌, inl, inr, refl, sym, ap, ap₂, ◌∙◌, subst, add-zero, arith}
use Rattle.std.specs.Prelude.{IfSome}
use Rattle.std.proofs.lemmas.Bool.{or_parts, or_cases, not-true, eqb-true, ne_eqb}
use Rattle.std.proofs.lemmas.List.{drop_more, drop-drop, get_or-drop, get_or_default, take-append-drop}
use Rattle.std.specs.List.{prefix_len}
use Rattle.json.specs.Text.{content, plain, prepend}
use Rattle.json.specs.Word.{is_operator, is_space, head, after_digits, after_minus, after_sign, after_whole, after_fraction, after_exponent, after_number}
use Rattle.json.specs.Token.{string, number}
use Rattle.json.specs.Lex.{Lexeme, token, string_token, operator, space, other, Mode, in_string, between, lex, lex_byte}
use Rattle.json.specs.Run.{is_plain}
use Rattle.json.proofs.Printed.Numbers.{number_alone, lex-number}
use Rattle.cql_lines.specs.Plain.{is_mark}

-- ---- the plain text of a string, up to its closing quote

abbrev IsQuoted : List ℕ → ℕ → List ℕ → Type 0
IsQuoted xs n ys = (content plain xs ≡ Some (take n xs)) × (lex in_string xs ≡ lex between ys)

stays_inside : (o s : Bool) (x : ℕ) (r : List ℕ) (k : Mode → List Lexeme) → lex_byte in_string (cond o operator (cond s space other)) x r k ≡ k in_string
stays_inside true s x r k = refl
stays_inside false true x r k = refl
stays_inside false false x r k = refl

step : (p : Bool) (x n : ℕ) (xs ys : List ℕ) → p ≡ is_plain x → (drop n xs ≡ 34 ∷ ys → IsQuoted xs n ys) → drop (cond p (1 + n) 0) (x ∷ xs) ≡ 34 ∷ ys → IsQuoted (x ∷ xs) (cond p (1 + n) 0) ys
unfolding content lex
step false x n xs ys e ih h = subst (λ t. IsQuoted t 0 ys) (sym h) (refl, refl)
step true x n xs ys e ih h =
    let next : suc n ≡ 1 + n = omega arith in
    let none = or_parts ((x == 34) || (x == 92)) _ (not-true _ (sym e)) in
    let tests = or_parts (x == 34) _ none.0 in
    let inner = ih (ap (λ k. drop k (x ∷ xs)) next ∙ h) in
    subst (λ k. IsQuoted (x ∷ xs) k ys) next
    (rw (tests.0, tests.1, none.1) (ap (prepend (x ∷ [])) inner.0), rw (tests.0, tests.1) (stays_inside (is_operator x) (is_space x) x xs (λ m. lex m xs) ∙ inner.1))

pub quoted : (xs ys : List ℕ) → drop (prefix_len is_plain xs) xs ≡ 34 ∷ ys → IsQuoted xs (prefix_len is_plain xs) ys
quoted [] ys h = absurd (cc)
quoted (x ∷ xs) ys h = step (is_plain x) x (prefix_len is_plain xs) xs ys refl (quoted xs ys) h

pub string_at : (d : List ℕ) (i stop : ℕ) → i < length d → get_or d i 0 ≡ 34 → stop ≡ i + 1 + prefix_len is_plain (drop (i + 1) d) → stop < length d → get_or d stop 0 ≡ 34
    → lex between (drop i d) ≡ token (string (take (stop - (i + 1)) (drop (i + 1) d))) ∷ lex between (drop (stop + 1) d)
unfolding lex
string_at d i stop some first is within last =
    let xs = drop (i + 1) d in
    let n = prefix_len is_plain xs in
    let size : n ≡ stop - (i + 1) = omega arith in
    let closing : drop n xs ≡ 34 ∷ drop (stop + 1) d = drop-drop n (i + 1) d ∙ ap (λ k. drop k d) (sym is) ∙ drop_more d stop 0 within ∙ ap (λ x. x ∷ drop (stop + 1) d) last in
    let q = quoted xs (drop (stop + 1) d) closing in
    ap (lex between) (drop_more d i 0 some ∙ ap (λ x. x ∷ xs) first)
    ∙ ap₂ (λ o ls. token (string_token o) ∷ ls) (q.0 ∙ ap (λ k. Some (take k xs)) size) q.1

-- ---- a whole number before a mark

pub mark_is : (P : ℕ → Type 0) → P 44 → P 93 → P 125 → (x : ℕ) → is_mark x ≡ true → P x
mark_is P a b c x h = first (or_cases (x == 44) _ h)
  where
    second : ((x == 93) ≡ true) ⊎ ((x == 125) ≡ true) → P x
    second (inl e) = subst P (sym (eqb-true x 93 e)) b
    second (inr e) = subst P (sym (eqb-true x 125 e)) c

    first : ((x == 44) ≡ true) ⊎ (((x == 93) || (x == 125)) ≡ true) → P x
    first (inl e) = subst P (sym (eqb-true x 44 e)) a
    first (inr e) = second (or_cases (x == 93) _ e)

record Facts (x : ℕ) : Type 0 where
  dot : (x == 46) ≡ false
  lower : (x == 101) ≡ false
  upper : (x == 69) ≡ false
  ends : (is_operator x || is_space x) ≡ true

facts : (x : ℕ) → is_mark x ≡ true → Facts x
facts = mark_is Facts (record { dot = refl; lower = refl; upper = refl; ends = refl }) (record { dot = refl; lower = refl; upper = refl; ends = refl }) (record { dot = refl; lower = refl; upper = refl; ends = refl })

whole_number : (t rest : List ℕ) → after_whole (after_minus t) ≡ Some rest → is_mark (head rest) ≡ true → after_number t ≡ Some rest
unfolding after_number
whole_number t rest whole mark =
    let f = facts (head rest) mark in
    ap (λ o. option_and_then after_exponent (option_and_then after_fraction o)) whole
    ∙ ap (λ b. option_and_then after_exponent (cond b (after_digits (drop 1 rest)) (Some rest))) f.dot
    ∙ ap₂ (λ a b. cond (a || b) (after_digits (after_sign (drop 1 rest))) (Some rest)) f.lower f.upper

head_at : (d : List ℕ) (i : ℕ) → i < length d → head (drop i d) ≡ get_or d i 0
head_at d i h = get_or-drop i d 0 32 ∙ ap (λ k. get_or d k 32) (add-zero i) ∙ get_or_default d i 32 0 h

pub minus_there : (d : List ℕ) (i : ℕ) → head (drop i d) ≡ 45 → after_minus (drop i d) ≡ drop (i + 1) d
minus_there d i e = ap (λ x. cond (x == 45) (drop 1 (drop i d)) (drop i d)) e ∙ drop-drop 1 i d

pub no_minus : (t : List ℕ) → (head t ≡ 45 → ⊥) → after_minus t ≡ t
no_minus t none = ap (λ b. cond b (drop 1 t) t) (ne_eqb (head t) 45 none)

pub number_found : (d : List ℕ) (i start : ℕ) (r : Option ℕ) → after_minus (drop i d) ≡ drop start d → IfSome r (λ stop. after_whole (drop start d) ≡ Some (drop stop d))
    → IfSome r (λ stop. (start < stop) × (stop < length d) × (get_or d start 0 < 58)) → IfSome r (λ stop. is_mark (get_or d stop 0) ≡ true) → IfSome r (λ stop. after_number (drop i d) ≡ Some (drop stop d))
number_found d i start None minus whole bounds mark = tt
number_found d i start (Some stop) minus whole bounds mark = whole_number (drop i d) (drop stop d) (ap after_whole minus ∙ whole) (ap is_mark (head_at d stop bounds.1) ∙ mark)

read_number : (t s rest : List ℕ) → s ++ rest ≡ t → after_number t ≡ Some rest → is_mark (head rest) ≡ true → lex between t ≡ token (number s) ∷ lex between rest
read_number t s rest joined number_is mark =
    let ended = (facts (head rest) mark).ends in
    subst (λ u. lex between u ≡ token (number s) ∷ lex between rest) joined (lex-number s rest (number_alone s rest ended (ap after_number joined ∙ number_is)) ended)

pub number_at : (d : List ℕ) (i stop : ℕ) → i < stop → stop < length d → is_mark (get_or d stop 0) ≡ true → after_number (drop i d) ≡ Some (drop stop d)
    → lex between (drop i d) ≡ token (number (take (stop - i) (drop i d))) ∷ lex between (drop stop d)
number_at d i stop some within mark number_is =
    let t = drop i d in
    let sum : i + (stop - i) ≡ stop = omega arith in
    let joined : take (stop - i) t ++ drop stop d ≡ t = ap (λ r. take (stop - i) t ++ r) (sym (drop-drop (stop - i) i d ∙ ap (λ k. drop k d) sum)) ∙ take-append-drop (stop - i) t in
    read_number t (take (stop - i) t) (drop stop d) joined number_is (ap is_mark (head_at d stop within) ∙ mark)
