-- Steps of the definitions in `specs/Lex.antt`.
use Rattle.std.proofs.Common.{◌≡◌, ◌≢◌, ◌≤◌, ◌<◌, ◌+◌, ◌-◌, ℕ, zero, suc, true, false, ◌==◌, List, [], ◌∷◌, ◌++◌, length, drop, slice_index, get_or, Option, Some, None, refl, sym, ap, ◌∙◌, append_assoc, append-nil, length-append, arith, subst, add-one, drop-cons, nat_lt}
use Rattle.std.proofs.lemmas.Bool.Decides.{nat_tests}
use Rattle.std.proofs.lemmas.Str.{lead_after_ascii}
use Rattle.std.specs.Str.{IsUtf8}
use Rattle.cql_value.specs.Name.{is_word_start, is_word_byte}
use Rattle.std.proofs.Math.Seq.{drop-nil}
use Rattle.std.proofs.Math.ListN.{drop_of_length-le}
use Rattle.cql_syntax.specs.declared.token.Token.{Token}
use Rattle.cql_syntax.specs.declared.token.Lexeme.{Lexeme}
use Rattle.cql_syntax.specs.declared.lex.Scanned.{Scanned}
use Rattle.cql_syntax.specs.Lex.{Bytes, quoted, longer, behind, scan, token, is_blank, after_lexeme, with_front, until}

pub word_starts : (b : ℕ) → is_word_start b ≡ true → is_word_byte b ≡ true
word_starts b h = grind (arith, nat_tests)

pub word_is_ascii : (b : ℕ) → is_word_byte b ≡ true → b < 128
word_is_ascii b h = grind (arith, nat_tests)

-- ---- what is quoted

eq_true : (b : ℕ) → b ≡ 39 → (b == 39) ≡ true
eq_true b h = grind (arith, nat_tests)

eq_false : (b : ℕ) → b ≢ 39 → (b == 39) ≡ false
eq_false b h = grind (arith, nat_tests)

abbrev pub NoQuote : Bytes → Type 0
NoQuote z = (i : ℕ) → i < length z → get_or z i 0 ≢ 39

first_no : (b : ℕ) (z : Bytes) → NoQuote (b ∷ z) → b ≢ 39
first_no b z h = h 0 (omega arith)

rest_no : (b : ℕ) (z : Bytes) → NoQuote (b ∷ z) → NoQuote z
rest_no b z h i k = h (suc i) (omega arith)

behind_again : (a : ℕ) (b : Bytes) (n : ℕ) (o : Option (Bytes × ℕ)) → longer (a ∷ []) (behind b n o) ≡ behind (a ∷ b) (n + 1) o
behind_again a b n None = refl
behind_again a b n (Some p) = let e : n + p.1 + 1 ≡ n + 1 + p.1 = omega arith in rw e refl

longer_none : (o : Option (Bytes × ℕ)) → longer [] o ≡ behind [] 1 o
longer_none None = refl
longer_none (Some p) = let e : p.1 + 1 ≡ 1 + p.1 = omega arith in rw e refl

pub quoted_here : (before after : Bytes) → NoQuote before → quoted false (before ++ 39 ∷ after) ≡ behind before (length before + 1) (quoted true after)
quoted_here [] after h = longer_none (quoted true after)
quoted_here (b ∷ z) after h =
    let e = quoted_here z after (rest_no b z h) in
    let f : length z + 1 + 1 ≡ length (b ∷ z) + 1 = omega arith in
    rw (eq_false b (first_no b z h), e) (behind_again b z (length z + 1) (quoted true after) ∙ ap (λ n. behind (b ∷ z) n (quoted true after)) f)

pub quoted_none : (z : Bytes) → NoQuote z → quoted false z ≡ None
quoted_none [] h = refl
quoted_none (b ∷ z) h = rw (eq_false b (first_no b z h), quoted_none z (rest_no b z h)) refl

pub quoted_twice : (z : Bytes) → quoted true (39 ∷ z) ≡ longer (39 ∷ []) (quoted false z)
quoted_twice z = refl

pub quoted_close : (z : Bytes) → ((more : Bytes) → z ≢ 39 ∷ more) → quoted true z ≡ Some ([], 0)
quoted_close [] h = refl
quoted_close (b ∷ z) h = rw (eq_false b (λ e. h z (ap (λ x. x ∷ z) e))) refl

pub behind_behind : (a b : Bytes) (m n : ℕ) (o : Option (Bytes × ℕ)) → behind a m (behind b n o) ≡ behind (a ++ b) (m + n) o
behind_behind a b m n None = refl
behind_behind a b m n (Some p) = let e : m + (n + p.1) ≡ m + n + p.1 = omega arith in rw (append_assoc a b p.0, e) refl

longer_behind : (o : Option (Bytes × ℕ)) → longer (39 ∷ []) o ≡ behind (39 ∷ []) 1 o
longer_behind None = refl
longer_behind (Some p) = let e : p.1 + 1 ≡ 1 + p.1 = omega arith in rw e refl

-- the turns of the loop that reads a text in quotes: what was read of it, and what is left
pub turn_more : (front before after more rest all now : Bytes) (m n : ℕ) → rest ≡ before ++ 39 ∷ after → NoQuote before → after ≡ 39 ∷ more → now ≡ front ++ before ++ 39 ∷ [] → n ≡ m + (length before + 1) + 1 →
    behind front m (quoted false rest) ≡ quoted false all → behind now n (quoted false more) ≡ quoted false all
turn_more front before after more rest all now m n e clean f g k h =
    let one : quoted false rest ≡ behind (before ++ 39 ∷ []) (length before + 1 + 1) (quoted false more) =
    ap (quoted false) e ∙ quoted_here before after clean ∙ ap (λ z. behind before (length before + 1) (quoted true z)) f
    ∙ ap (behind before (length before + 1)) (longer_behind (quoted false more)) ∙ behind_behind before (39 ∷ []) (length before + 1) 1 (quoted false more) in
    let two : m + (length before + 1 + 1) ≡ n = omega arith in
    let three : front ++ (before ++ 39 ∷ []) ≡ now = sym (append_assoc front before (39 ∷ [])) ∙ sym g in
    ap (λ z. behind z n (quoted false more)) (sym three) ∙ ap (λ i. behind (front ++ (before ++ 39 ∷ [])) i (quoted false more)) (sym two)
    ∙ sym (behind_behind front (before ++ 39 ∷ []) m (length before + 1 + 1) (quoted false more)) ∙ ap (behind front m) (sym one) ∙ h

pub turn_close : (front before after rest all now : Bytes) (m n : ℕ) → rest ≡ before ++ 39 ∷ after → NoQuote before → ((more : Bytes) → after ≢ 39 ∷ more) → now ≡ front ++ before → n ≡ m + (length before + 1) →
    behind front m (quoted false rest) ≡ quoted false all → Some (now, n) ≡ quoted false all
turn_close front before after rest all now m n e clean f g k h =
    let one : quoted false rest ≡ Some (before, length before + 1) =
    ap (quoted false) e ∙ quoted_here before after clean ∙ ap (behind before (length before + 1)) (quoted_close after f) ∙ rw (append-nil before, ended (length before + 1)) refl in
    rw (g, k) (sym (ap (behind front m) one) ∙ h)
  where
    ended : (i : ℕ) → i + 0 ≡ i
    ended i = omega arith

pub turn_none : (front rest all : Bytes) (m : ℕ) → NoQuote rest → behind front m (quoted false rest) ≡ quoted false all → None ≡ quoted false all
turn_none front rest all m clean h = sym (ap (behind front m) (quoted_none rest clean)) ∙ h

-- ---- where a token ends, a char ends

pub boundary : (z b : Bytes) (n : ℕ) → b ≡ z → IsUtf8 b → 0 < n → n ≤ length b → slice_index b (n - 1) < 128 → (n ≤ length z) × (n < length z → 128 ≤ slice_index z n → 192 ≤ slice_index z n)
boundary z b n e u p w h =
    let i : n - 1 + 1 ≡ n = omega arith in
    subst (λ y. (n ≤ length y) × (n < length y → 128 ≤ slice_index y n → 192 ≤ slice_index y n)) e
    (w, λ l k. subst (λ j. 192 ≤ slice_index b j) i (lead_after_ascii b (n - 1) u h (subst (λ j. j < length b) (sym i) l) (subst (λ j. 128 ≤ slice_index b j) (sym i) k)))

-- the same for the offset behind an ASCII byte
pub boundary_at : (z b : Bytes) (n : ℕ) → b ≡ z → IsUtf8 b → n < length b → slice_index b n < 128 → (n ≤ length z) × (n < length z → 128 ≤ slice_index z n → 192 ≤ slice_index z n)
boundary_at z b n e u w h = subst (λ y. (n ≤ length y) × (n < length y → 128 ≤ slice_index y n → 192 ≤ slice_index y n)) e (omega arith, λ l k. absurd (omega arith))

pub boundary_behind : (z b : Bytes) (n : ℕ) → b ≡ z → IsUtf8 b → 0 < length z → is_word_byte (slice_index z 0) ≡ true → n ≤ length b →
    (0 < length b → is_word_byte (slice_index b 0) ≡ true → 0 < n) → (0 < n → slice_index b (n - 1) < 128) → (n ≤ length z) × (n < length z → 128 ≤ slice_index z n → 192 ≤ slice_index z n)
boundary_behind z b n e u p w l m a =
    let pos : 0 < n = m (subst (λ y. 0 < length y) (sym e) p) (subst (λ y. is_word_byte (slice_index y 0) ≡ true) (sym e) w) in
    boundary z b n e u pos l (a pos)

pub turn_left : (before after more rest all : Bytes) (m : ℕ) → rest ≡ before ++ 39 ∷ after → after ≡ 39 ∷ more → m + length rest ≡ length all → m + (length before + 1) + 1 + length more ≡ length all
turn_left before after more rest all m e f h = omega (arith, ap length e, ap length f, length-append before (39 ∷ after), h)

-- ---- steps of the scan

pub scan_skip : (n at : ℕ) (z : Bytes) → n ≤ length z → scan n at z ≡ scan 0 (at + n) (drop n z)
unfolding scan
scan_skip zero at z h = let e : at + 0 ≡ at = omega arith in rw e refl
scan_skip (suc n) at [] h = absurd (omega arith)
scan_skip (suc n) at (b ∷ z) h = let e : at + suc n ≡ at + 1 + n = omega arith in rw e (scan_skip n (at + 1) z (omega arith))

pub scan_end : (at : ℕ) → scan 0 at [] ≡ record { lexemes = []; fault = None }
unfolding scan
scan_end at = refl

pub scan_blank : (at b : ℕ) (z : Bytes) → is_blank b ≡ true → scan 0 at (b ∷ z) ≡ scan 0 (at + 1) z
unfolding scan
scan_blank at b z h = rw h refl

pub scan_none : (at b : ℕ) (z : Bytes) → is_blank b ≡ false → token (b ∷ z) ≡ None → scan 0 at (b ∷ z) ≡ record { lexemes = []; fault = Some at }
unfolding scan
scan_none at b z h e = rw (h, e) refl

pub scan_token : (at b : ℕ) (z : Bytes) (t : Token) (n : ℕ) → is_blank b ≡ false → token (b ∷ z) ≡ Some (t, n) → 1 ≤ n → n ≤ length (b ∷ z) →
    scan 0 at (b ∷ z) ≡ after_lexeme (record { at = at; token = t }) (scan 0 (at + n) (drop n (b ∷ z)))
unfolding scan
scan_token at b z t zero h e l m = absurd (omega arith)
scan_token at b z t (suc n) h e l m =
    let f : suc n - 1 ≡ n = omega arith in
    let g : at + suc n ≡ at + 1 + n = omega arith in
    rw (h, e, f, g) (ap (λ s. after_lexeme (record { at = at; token = t }) s) (scan_skip n (at + 1) z (omega arith)))

drop-drop : (z : Bytes) (at n : ℕ) → drop n (drop at z) ≡ drop (at + n) z
drop-drop z zero n = let e : 0 + n ≡ n = omega arith in rw e refl
drop-drop [] (suc at) n = let e : suc at + n ≡ suc (at + n) = omega arith in rw (drop-nil n, drop-nil (suc at + n)) refl
drop-drop (b ∷ z) (suc at) n = let e : suc at + n ≡ suc (at + n) = omega arith in rw e (drop-drop z at n)

cut : (z : Bytes) (at : ℕ) → at < length z → drop at z ≡ slice_index z at ∷ drop (at + 1) z
cut z at h = rw (add-one, drop-cons z at 0) refl

pub at_end : (z : Bytes) (at : ℕ) → length z ≤ at → scan 0 at (drop at z) ≡ record { lexemes = []; fault = None }
at_end z at h = rw (drop_of_length-le z h) (scan_end at)

pub at_blank : (z : Bytes) (at : ℕ) → at < length z → is_blank (slice_index z at) ≡ true → scan 0 at (drop at z) ≡ scan 0 (at + 1) (drop (at + 1) z)
at_blank z at h e = rw (cut z at h) (scan_blank at (slice_index z at) (drop (at + 1) z) e)

pub at_none : (z : Bytes) (at : ℕ) → at < length z → is_blank (slice_index z at) ≡ false → token (drop at z) ≡ None → scan 0 at (drop at z) ≡ record { lexemes = []; fault = Some at }
at_none z at h e f = rw (cut z at h) (scan_none at (slice_index z at) (drop (at + 1) z) e (rw (← cut z at h) f))

pub at_token : (z : Bytes) (at : ℕ) (t : Token) (n : ℕ) → at < length z → is_blank (slice_index z at) ≡ false → token (drop at z) ≡ Some (t, n) → 1 ≤ n → n ≤ length (drop at z) →
    scan 0 at (drop at z) ≡ after_lexeme (record { at = at; token = t }) (scan 0 (at + n) (drop (at + n) z))
at_token z at t n h e f l m =
    ap (scan 0 at) (cut z at h) ∙ scan_token at (slice_index z at) (drop (at + 1) z) t n e (ap token (sym (cut z at h)) ∙ f) l (subst (λ us. n ≤ length us) (cut z at h) m)
    ∙ ap (λ us. after_lexeme (record { at = at; token = t }) (scan 0 (at + n) us)) (ap (drop n) (sym (cut z at h)) ∙ drop-drop z at n)

pub ruleset scan_steps = (at_end, at_blank, at_none, at_token)

pub until_more : (most : ℕ) (l : Lexeme) (s : Scanned) → l.at < most → until most (after_lexeme l s) ≡ after_lexeme l (until most s)
until_more most l s h = let e : nat_lt l.at most ≡ true = grind (arith, nat_tests) in rw e refl

pub until_last : (most : ℕ) (l : Lexeme) (s : Scanned) → most ≤ l.at → until most (after_lexeme l s) ≡ after_lexeme l (record { lexemes = []; fault = None })
until_last most l s h = let e : nat_lt l.at most ≡ false = grind (arith, nat_tests) in rw e refl

pub front_end : (ls : List Lexeme) (f : Option ℕ) (s t : Scanned) → s ≡ record { lexemes = []; fault = f } → with_front ls s ≡ t → record { lexemes = ls; fault = f } ≡ t
front_end ls f s t e h =
    let g : with_front ls (record { lexemes = []; fault = f }) ≡ record { lexemes = ls; fault = f } = rw (append-nil ls) refl in
    sym g ∙ ap (with_front ls) (sym e) ∙ h

pub front_more : (ls ms : List Lexeme) (l : Lexeme) (s u t : Scanned) → s ≡ after_lexeme l u → with_front ls s ≡ t → ms ≡ ls ++ l ∷ [] → with_front ms u ≡ t
front_more ls ms l s u t e h f =
    let g : with_front (ls ++ l ∷ []) u ≡ with_front ls (after_lexeme l u) = rw (append_assoc ls (l ∷ []) u.lexemes) refl in
    ap (λ xs. with_front xs u) f ∙ g ∙ ap (with_front ls) (sym e) ∙ h

pub boundary_quote : (z : Bytes) → IsUtf8 z → 0 < length z → slice_index z 0 ≡ 39 → (1 ≤ length z) × (1 < length z → 128 ≤ slice_index z 1 → 192 ≤ slice_index z 1)
boundary_quote z u p h = boundary z z 1 refl u (omega arith) (omega arith) (omega (arith, h))
