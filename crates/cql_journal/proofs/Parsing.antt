-- What lines and batches a text begins with is one.
use Rattle.std.proofs.Common.{◌≡◌, ◌≢◌, ℕ, zero, suc, ◌+◌, ◌*◌, ◌<◌, ◌≤◌, List, [], ◌∷◌, ◌++◌, length, refl, sym, ap, subst, ◌∙◌, arith, append_assoc, length-append, min}
use Rattle.std.specs.Prelude.{slice_index}
use Rattle.std.specs.List.{AllByRecursion}
use Rattle.hex.specs.Hex.{encode_lower, encode_with, lower_digits}
use Rattle.md5.specs.Md5.{md5}
use Rattle.md5.proofs.StandardFacts.{length-md5}
use Rattle.std.proofs.lemmas.List.{length-take}
use Rattle.cql_journal.specs.Record.{IsChain, Entry, Lacks, Fits, body, first_chain, chain_after, record_line, record_lines}

-- ---- lists

pub cancel : (c x y : List ℕ) → c ++ x ≡ c ++ y → x ≡ y
cancel [] x y e = e
cancel (b ∷ c) x y e = cancel c x y cc

pub line_same : (b : ℕ) (l m x y : List ℕ) → Lacks b l → Lacks b m → l ++ b ∷ x ≡ m ++ b ∷ y → (l ≡ m) × (x ≡ y)
line_same b [] [] x y p q e = (refl, cc)
line_same b [] (n ∷ m) x y p q e = absurd (q.0 cc)
line_same b (n ∷ l) [] x y p q e = absurd (p.0 cc)
line_same b (n ∷ l) (k ∷ m) x y p q e =
    let rest = line_same b l m x y p.1 q.1 cc in
    let head : n ≡ k = cc in
    (ap (λ t. n ∷ t) rest.0 ∙ ap (λ t. t ∷ m) head, rest.1)

pub lacks_append : (b : ℕ) (l m : List ℕ) → Lacks b l → Lacks b m → Lacks b (l ++ m)
lacks_append b [] m p q = q
lacks_append b (n ∷ l) m p q = (p.0, lacks_append b l m p.1 q)

pub lacks_before : (b : ℕ) (l m : List ℕ) → Lacks b (l ++ m) → Lacks b l
lacks_before b [] m p = tt
lacks_before b (n ∷ l) m p = (p.0, lacks_before b l m p.1)

pub lacks_behind : (b : ℕ) (l m : List ℕ) → Lacks b (l ++ m) → Lacks b m
lacks_behind b [] m p = p
lacks_behind b (n ∷ l) m p = lacks_behind b l m p.1

-- what has no such byte ends before the first one
pub short : (b : ℕ) (l m x y : List ℕ) → Lacks b l → l ++ x ≡ m ++ b ∷ y → length l ≤ length m
short b [] m x y p e = omega arith
short b (n ∷ l) [] x y p e = absurd (p.0 cc)
short b (n ∷ l) (k ∷ m) x y p e = let rest = short b l m x y p.1 cc in omega arith

-- ---- lines

pub no_space : (line chain bytes : List ℕ) (e : Entry) → line ≡ chain ++ 32 ∷ bytes → Lacks 32 bytes → line ≡ record_line chain e → ⊥
no_space line chain bytes e is none that =
    let same : 32 ∷ bytes ≡ 32 ∷ body e = cancel chain _ _ (sym is ∙ that) in
    let rest : bytes ≡ e.tenant ++ 32 ∷ e.line = cc in
    (lacks_behind 32 e.tenant (32 ∷ e.line) (subst (Lacks 32) rest none)).0 refl

pub fits : (line chain bytes tenant rest : List ℕ) → line ≡ chain ++ 32 ∷ bytes → bytes ≡ tenant ++ 32 ∷ rest → Lacks 32 tenant → Lacks 10 line → Fits (record { tenant = tenant; line = rest })
fits line chain bytes tenant rest is cut space feed =
    let whole : Lacks 10 bytes = (lacks_behind 10 chain (32 ∷ bytes) (subst (Lacks 10) is feed)).1 in
    let parts : Lacks 10 (tenant ++ 32 ∷ rest) = subst (Lacks 10) cut whole in
    record { spaceless = space; feedless = lacks_before 10 tenant _ parts; whole = (lacks_behind 10 tenant _ parts).1 }

lacks_at : (b : ℕ) (xs : List ℕ) (n : ℕ) → 0 ≢ b → Lacks b xs → slice_index xs n ≢ b
lacks_at b [] n z p = z
lacks_at b (x ∷ xs) zero z p = p.0
lacks_at b (x ∷ xs) (suc n) z p = lacks_at b xs n z p.1

-- a number from 11 on isn't 10
pub apart : (n : ℕ) → 10 < n → n ≢ 10
apart n h e = absurd (omega (arith, h, e))

pub first_is_chain : IsChain first_chain
first_is_chain = record { size = refl; feedless = (apart 48 (omega arith), (apart 48 (omega arith), (apart 48 (omega arith), (apart 48 (omega arith), (apart 48 (omega arith), (apart 48 (omega arith), (apart 48 (omega arith), (apart 48 (omega arith), (apart 48 (omega arith), (apart 48 (omega arith), (apart 48 (omega arith), (apart 48 (omega arith), (apart 48 (omega arith), (apart 48 (omega arith), (apart 48 (omega arith), (apart 49 (omega arith), tt)))))))))))))))) }

digit : (n : ℕ) → slice_index lower_digits n ≢ 10
digit n = lacks_at 10 lower_digits n (λ (e : 0 ≡ 10). absurd (omega (arith, e))) (apart 48 (omega arith), (apart 49 (omega arith), (apart 50 (omega arith), (apart 51 (omega arith), (apart 52 (omega arith), (apart 53 (omega arith), (apart 54 (omega arith), (apart 55 (omega arith), (apart 56 (omega arith), (apart 57 (omega arith), (apart 97 (omega arith), (apart 98 (omega arith), (apart 99 (omega arith), (apart 100 (omega arith), (apart 101 (omega arith), (apart 102 (omega arith), tt))))))))))))))))

digits : (bytes : List ℕ) → Lacks 10 (encode_lower bytes)
unfolding encode_with
digits [] = tt
digits (b ∷ bytes) = (digit _, (digit _, digits bytes))

twice : (bytes : List ℕ) → length (encode_lower bytes) ≡ 2 * length bytes
unfolding encode_with
twice [] = refl
twice (b ∷ bytes) = omega (arith, twice bytes)

pub after_is_chain : (chain bytes : List ℕ) → IsChain (chain_after chain bytes)
unfolding chain_after
after_is_chain chain bytes = record { size = twice _ ∙ ap (λ n. 2 * n) (length-take 8 (md5 (chain ++ bytes)) ∙ ap (min 8) (length-md5 (chain ++ bytes))); feedless = digits _ }

pub record_feedless : (chain : List ℕ) (e : Entry) → IsChain chain → Fits e → Lacks 10 (record_line chain e)
record_feedless chain e c f =
    lacks_append 10 chain _ c.feedless (apart 32 (omega arith), lacks_append 10 e.tenant _ f.feedless (apart 32 (omega arith), f.whole))

-- a record is longer than a chain
pub no_chain : (chain k : List ℕ) (e : Entry) → IsChain chain → IsChain k → record_line chain e ≢ k
no_chain chain k e c d is =
    let len : length (record_line chain e) ≡ length chain + suc (length (body e)) = length-append chain (32 ∷ body e) in
    let same : length (record_line chain e) ≡ length k = ap length is in
    let c16 : length chain ≡ 16 = c.size in let k16 : length k ≡ 16 = d.size in
    omega arith

pub one_record : (chain : List ℕ) (e f : Entry) → Fits e → Fits f → record_line chain e ≡ record_line chain f → e ≡ f
one_record chain e f p q is =
    let same : 32 ∷ body e ≡ 32 ∷ body f = cancel chain _ _ is in
    let parts = line_same 32 e.tenant f.tenant e.line f.line p.spaceless q.spaceless cc in
    let tenants : e.tenant ≡ f.tenant = parts.0 in let lines : e.line ≡ f.line = parts.1 in
    ap (λ t. record { tenant = t; line = e.line }) tenants ∙ ap (λ l. record { tenant = f.tenant; line = l }) lines

-- ---- the records of a batch, and what is behind them

abbrev pub lines_then : List ℕ → List Entry → List ℕ → List ℕ
lines_then chain [] rest = rest
lines_then chain (e ∷ es) rest = record_line chain e ++ 10 ∷ lines_then chain es rest

pub lines_are : (chain : List ℕ) (es : List Entry) (rest : List ℕ) → record_lines chain es ++ rest ≡ lines_then chain es rest
lines_are chain [] rest = refl
lines_are chain (e ∷ es) rest = append_assoc (record_line chain e) (10 ∷ record_lines chain es) rest ∙ ap (λ t. record_line chain e ++ 10 ∷ t) (lines_are chain es rest)

pub size_more : (chain : List ℕ) (e : Entry) (es : List Entry) → length (record_lines chain (e ∷ es)) ≡ length (record_line chain e) + suc (length (record_lines chain es))
size_more chain e es = length-append (record_line chain e) (10 ∷ record_lines chain es)

pub one_lines : (chain : List ℕ) (es fs : List Entry) → IsChain chain → AllByRecursion Fits es → AllByRecursion Fits fs → record_lines chain es ≡ record_lines chain fs → es ≡ fs
one_lines chain [] [] c p q is = refl
one_lines chain [] (f ∷ fs) c p q is = let len : 0 ≡ length (record_lines chain (f ∷ fs)) = ap length is in absurd (omega (arith, len, size_more chain f fs))
one_lines chain (e ∷ es) [] c p q is = let len : length (record_lines chain (e ∷ es)) ≡ 0 = ap length is in absurd (omega (arith, len, size_more chain e es))
one_lines chain (e ∷ es) (f ∷ fs) c p q is =
    let parts = line_same 10 (record_line chain e) (record_line chain f) (record_lines chain es) (record_lines chain fs) (record_feedless chain e c p.0) (record_feedless chain f c q.0) is in
    ap (λ x. x ∷ es) (one_record chain e f p.0 q.0 parts.0) ∙ ap (λ t. f ∷ t) (one_lines chain es fs c p.1 q.1 parts.1)

module _ (chain k : List ℕ) (c : IsChain chain) (d : IsChain k) where
  -- a line behind records that is no record itself is the commit line, or there is no batch
  pub line_behind : (es fs : List Entry) (line behind more : List ℕ) → AllByRecursion Fits es → AllByRecursion Fits fs → Lacks 10 line → ((e : Entry) → Fits e → line ≢ record_line chain e)
      → lines_then chain es (line ++ 10 ∷ behind) ≡ lines_then chain fs (k ++ 10 ∷ more) → (es ≡ fs) × ((line ≡ k) × (behind ≡ more))
  line_behind [] [] line behind more p q lacks other is = (refl, line_same 10 line k behind more lacks d.feedless is)
  line_behind [] (f ∷ fs) line behind more p q lacks other is = absurd (other f q.0 (line_same 10 line (record_line chain f) behind _ lacks (record_feedless chain f c q.0) is).0)
  line_behind (e ∷ es) [] line behind more p q lacks other is = absurd (no_chain chain k e c d (line_same 10 (record_line chain e) k _ more (record_feedless chain e c p.0) d.feedless is).0)
  line_behind (e ∷ es) (f ∷ fs) line behind more p q lacks other is =
      let parts = line_same 10 (record_line chain e) (record_line chain f) _ _ (record_feedless chain e c p.0) (record_feedless chain f c q.0) is in
      let rest = line_behind es fs line behind more p.1 q.1 lacks other parts.1 in
      (ap (λ x. x ∷ es) (one_record chain e f p.0 q.0 parts.0) ∙ ap (λ t. f ∷ t) rest.0, rest.1)

  -- where records and a part of a line stand in front, a batch is longer than those
  pub is_longer : (es fs : List Entry) (part behind more : List ℕ) → AllByRecursion Fits es → AllByRecursion Fits fs → Lacks 10 part
      → lines_then chain es (part ++ behind) ≡ lines_then chain fs (k ++ 10 ∷ more) → length (record_lines chain es) + length part ≤ length (record_lines chain fs) + 16
  is_longer [] [] part behind more p q lacks is = let h : length part ≤ length k = short 10 part k behind more lacks is in let k16 : length k ≡ 16 = d.size in omega arith
  is_longer [] (f ∷ fs) part behind more p q lacks is =
      let h : length part ≤ length (record_line chain f) = short 10 part (record_line chain f) behind _ lacks is in
      omega (arith, size_more chain f fs)
  is_longer (e ∷ es) [] part behind more p q lacks is = absurd (no_chain chain k e c d (line_same 10 (record_line chain e) k _ more (record_feedless chain e c p.0) d.feedless is).0)
  is_longer (e ∷ es) (f ∷ fs) part behind more p q lacks is =
      let parts = line_same 10 (record_line chain e) (record_line chain f) _ _ (record_feedless chain e c p.0) (record_feedless chain f c q.0) is in
      let rest = is_longer es fs part behind more p.1 q.1 lacks parts.1 in
      let same : length (record_line chain e) ≡ length (record_line chain f) = ap length parts.0 in
      omega (arith, size_more chain e es, size_more chain f fs)

pub has_it : (b : ℕ) (text p q : List ℕ) → text ≡ p ++ b ∷ q → Lacks b text → ⊥
has_it b text p q is lacks = (lacks_behind b p (b ∷ q) (subst (Lacks b) is lacks)).0 refl
