-- What batches a text begins with is one.
use Rattle.std.proofs.Common.{◌≡◌, ◌≢◌, ℕ, ◌+◌, ◌<◌, ◌≤◌, inl, inr, List, [], ◌∷◌, ◌++◌, length, drop, refl, sym, ap, subst, ◌∙◌, arith, append_assoc, append-nil, length-append}
use Rattle.std.specs.List.{AllByRecursion}
use Rattle.std.proofs.lemmas.Bool.{cases_lt}
use Rattle.cql_journal.specs.Record.{IsChain, Entry, Lacks, Fits, first_chain, heading, chain_after, record_line, record_lines, batch, batch_chain, written, chain_behind, IsBatch, AreBatches, NoBatch}
use Rattle.cql_journal.specs.Splits.{IsOneReadingLaw, IsRoundTripLaw, IsAppendLaw, IsFrontLaw, EndsBefore}
use Rattle.cql_journal.proofs.Parsing.{first_is_chain, after_is_chain, no_chain, lines_then, lines_are, line_behind, is_longer, cancel}

then_more : (l k more : List ℕ) → (l ++ (k ++ 10 ∷ [])) ++ more ≡ l ++ (k ++ 10 ∷ more)
then_more l k more = append_assoc l (k ++ 10 ∷ []) more ∙ ap (λ t. l ++ t) (append_assoc k (10 ∷ []) more)

batch_then : (chain : List ℕ) (es : List Entry) (more : List ℕ) → batch chain es ++ more ≡ lines_then chain es (batch_chain chain es ++ 10 ∷ more)
batch_then chain es more = then_more (record_lines chain es) (batch_chain chain es) more ∙ lines_are chain es (batch_chain chain es ++ 10 ∷ more)

pub batch_size : (chain : List ℕ) (es : List Entry) → length (batch chain es) ≡ length (record_lines chain es) + 17
batch_size chain es =
    let k : length (batch_chain chain es) ≡ 16 = (after_is_chain chain (record_lines chain es)).size in
    omega (arith, length-append (record_lines chain es) (batch_chain chain es ++ 10 ∷ []), length-append (batch_chain chain es) (10 ∷ []))

pub batch_rest : (chain : List ℕ) (es : List Entry) (more : List ℕ) → batch chain es ++ more ≡ record_lines chain es ++ (batch_chain chain es ++ 10 ∷ more)
batch_rest chain es more = then_more (record_lines chain es) (batch_chain chain es) more

-- a line that is neither a record nor the commit line, or one behind too many records
pub no_commit : (chain text : List ℕ) (es : List Entry) (line behind : List ℕ) → IsChain chain → AllByRecursion Fits es → text ≡ record_lines chain es ++ (line ++ 10 ∷ behind)
    → Lacks 10 line → ((e : Entry) → Fits e → line ≢ record_line chain e) → (line ≡ chain_after chain (record_lines chain es) → 16777216 < length (record_lines chain es) + 17) → NoBatch chain text
no_commit chain text es line behind c fits is lacks other wrong = λ fs more b that.
    let same = sym (lines_are chain es _) ∙ sym is ∙ that ∙ batch_then chain fs more in
    let found = line_behind chain (batch_chain chain fs) c (after_is_chain chain (record_lines chain fs)) es fs line behind more fits b.fit lacks other same in
    let long = wrong (found.1.0 ∙ ap (λ x. chain_after chain (record_lines chain x)) (sym found.0)) in
    let len : length (record_lines chain es) ≡ length (record_lines chain fs) = ap (λ x. length (record_lines chain x)) found.0 in
    let s : length (batch chain fs) ≤ 16777216 = b.short in
    absurd (omega (arith, long, len, s, batch_size chain fs))

-- no line feed comes, or none for so long that the batch would be too long
pub no_room : (chain text : List ℕ) (es : List Entry) (part behind : List ℕ) → IsChain chain → AllByRecursion Fits es → text ≡ record_lines chain es ++ (part ++ behind)
    → Lacks 10 part → 16777216 ≤ length (record_lines chain es) + length part → NoBatch chain text
no_room chain text es part behind c fits is lacks long = λ fs more b that.
    let same = sym (lines_are chain es _) ∙ sym is ∙ that ∙ batch_then chain fs more in
    let h = is_longer chain (batch_chain chain fs) c (after_is_chain chain (record_lines chain fs)) es fs part behind more fits b.fit lacks same in
    let s : length (batch chain fs) ≤ 16777216 = b.short in
    absurd (omega (arith, h, s, batch_size chain fs))

pub no_end : (chain text : List ℕ) (es : List Entry) (part : List ℕ) → IsChain chain → AllByRecursion Fits es → text ≡ record_lines chain es ++ part → Lacks 10 part → NoBatch chain text
no_end chain text es part c fits is lacks = λ fs more b that.
    let same = sym (lines_are chain es _) ∙ ap (λ t. record_lines chain es ++ t) (append-nil part) ∙ sym is ∙ that ∙ batch_then chain fs more in
    let h = is_longer chain (batch_chain chain fs) c (after_is_chain chain (record_lines chain fs)) es fs part [] more fits b.fit lacks same in
    let len : length text ≡ length (record_lines chain es) + length part = ap length is ∙ length-append (record_lines chain es) part in
    let other : length text ≡ length (batch chain fs) + length more = ap length that ∙ length-append (batch chain fs) more in
    absurd (omega (arith, h, len, other, batch_size chain fs))

pub one_batch : (chain : List ℕ) (es fs : List Entry) (x y : List ℕ) → IsChain chain → AllByRecursion Fits es → AllByRecursion Fits fs → batch chain es ++ x ≡ batch chain fs ++ y → (es ≡ fs) × (x ≡ y)
one_batch chain es fs x y c p q is =
    let k = after_is_chain chain (record_lines chain es) in
    let found = line_behind chain (batch_chain chain fs) c (after_is_chain chain (record_lines chain fs)) es fs (batch_chain chain es) x y p q k.feedless
    (λ e f same. no_chain chain (batch_chain chain es) e c k (sym same)) (sym (batch_then chain es x) ∙ is ∙ batch_then chain fs y) in
    (found.0, found.1.1)

pub none_in_nothing : (chain : List ℕ) → NoBatch chain []
none_in_nothing chain = λ fs more b that.
    let len : 0 ≡ length (batch chain fs) + length more = ap length that ∙ length-append (batch chain fs) more in
    absurd (omega (arith, len, batch_size chain fs))

-- a front that is no longer than a list in front of which it stands
pub within : (b rest more behind : List ℕ) → length b ≤ length rest → b ++ more ≡ rest ++ behind → rest ≡ b ++ drop (length b) rest
within [] rest more behind h is = refl
within (x ∷ b) [] more behind h is = absurd (omega (arith, h))
within (x ∷ b) (y ∷ rest) more behind h is =
    let tail = within b rest more behind (omega (arith, h)) cc in
    let head : y ≡ x = cc in
    ap (λ t. y ∷ t) tail ∙ ap (λ z. z ∷ (b ++ drop (length b) rest)) head

one_reading : (chain text rest other_rest : List ℕ) (batches others : List (List Entry)) → IsChain chain → AreBatches chain batches → AreBatches chain others
    → NoBatch (chain_behind chain batches) rest → NoBatch (chain_behind chain others) other_rest → written chain batches ++ rest ≡ written chain others ++ other_rest → (batches ≡ others) × (rest ≡ other_rest)
one_reading chain text rest other_rest [] [] c p q n m is = (refl, is)
one_reading chain text rest other_rest [] (fs ∷ others) c p q n m is = absurd (n fs _ q.0 (is ∙ append_assoc (batch chain fs) (written (batch_chain chain fs) others) other_rest))
one_reading chain text rest other_rest (es ∷ batches) [] c p q n m is = absurd (m es _ p.0 (sym is ∙ append_assoc (batch chain es) (written (batch_chain chain es) batches) rest))
one_reading chain text rest other_rest (es ∷ batches) (fs ∷ others) c p q n m is =
    let first = one_batch chain es fs (written (batch_chain chain es) batches ++ rest) (written (batch_chain chain fs) others ++ other_rest) c p.0.fit q.0.fit
    (sym (append_assoc (batch chain es) (written (batch_chain chain es) batches) rest) ∙ is ∙ append_assoc (batch chain fs) (written (batch_chain chain fs) others) other_rest) in
    let h : fs ≡ es = sym first.0 in
    let k : batch_chain chain fs ≡ batch_chain chain es = ap (batch_chain chain) h in
    let rests = one_reading (batch_chain chain es) text rest other_rest batches others (after_is_chain chain _) p.1 (subst (λ x. AreBatches x others) k q.1) n (subst (λ x. NoBatch (chain_behind x others) other_rest) k m)
    (first.1 ∙ ap (λ x. written x others ++ other_rest) k) in
    (ap (λ x. x ∷ batches) first.0 ∙ ap (λ t. fs ∷ t) rests.0, rests.1)

pub one_reading_law : IsOneReadingLaw
one_reading_law text rest other_rest batches others p q =
    let same : p.0 ≡ q.0 = cancel heading p.0 q.0 (sym p.1 ∙ q.1) in
    one_reading first_chain text rest other_rest batches others first_is_chain p.2.are q.2.are p.2.none q.2.none (sym p.2.text_is ∙ same ∙ q.2.text_is)

pub round_trip_law : IsRoundTripLaw
round_trip_law batches are = (written first_chain batches, refl, record { text_is = sym (append-nil (written first_chain batches)); are = are; none = none_in_nothing _ })

front : (chain text behind rest : List ℕ) (batches found : List (List Entry)) → IsChain chain → AreBatches chain batches → AreBatches chain found → NoBatch (chain_behind chain found) rest
    → written chain batches ≡ written chain found ++ (rest ++ behind) → (lost : List (List Entry)) × (batches ≡ found ++ lost) × EndsBefore (chain_behind chain found) lost rest
front chain text behind rest [] [] c p q n is = ([], refl, tt)
front chain text behind rest (es ∷ batches) [] c p q n is = (
  es ∷ batches,
  refl,
  elim (cases_lt (length rest) (length (batch chain es))) [
    | inl less ↦ less
    | inr more ↦ absurd (n es (drop (length (batch chain es)) rest) p.0 (within (batch chain es) rest (written (batch_chain chain es) batches) behind more is))
  ],
)
front chain text behind rest [] (fs ∷ found) c p q n is =
    let len : 0 ≡ length (batch chain fs) + length (written (batch_chain chain fs) found ++ (rest ++ behind)) = ap length (is ∙ append_assoc (batch chain fs) (written (batch_chain chain fs) found) (rest ++ behind)) ∙ length-append (batch chain fs) _ in
    absurd (omega (arith, len, batch_size chain fs))
front chain text behind rest (es ∷ batches) (fs ∷ found) c p q n is =
    let first = one_batch chain es fs (written (batch_chain chain es) batches) (written (batch_chain chain fs) found ++ (rest ++ behind)) c p.0.fit q.0.fit
    (is ∙ append_assoc (batch chain fs) (written (batch_chain chain fs) found) (rest ++ behind)) in
    let k : batch_chain chain fs ≡ batch_chain chain es = ap (batch_chain chain) (sym first.0) in
    let k2 : batch_chain chain es ≡ batch_chain chain fs = sym k in
    let rests = front (batch_chain chain fs) text behind rest batches found (after_is_chain chain _) (subst (λ x. AreBatches x batches) k2 p.1) q.1 n
    (ap (λ x. written x batches) k ∙ first.1) in
    (rests.0, ap (λ x. x ∷ batches) first.0 ∙ ap (λ t. fs ∷ t) rests.1, rests.2)

pub front_law : IsFrontLaw
front_law text behind rest batches found are is f =
    let same : written first_chain batches ≡ f.0 ++ behind = cancel heading _ _ (is ∙ ap (λ t. t ++ behind) f.1 ∙ append_assoc heading f.0 behind) in
    front first_chain text behind rest batches found first_is_chain are f.2.are f.2.none (same ∙ ap (λ t. t ++ behind) f.2.text_is ∙ append_assoc (written first_chain found) rest behind)

-- ---- a batch behind others

pub written_more : (chain : List ℕ) (batches : List (List Entry)) (es : List Entry) → written chain (batches ++ es ∷ []) ≡ written chain batches ++ batch (chain_behind chain batches) es
written_more chain [] es = append-nil (batch chain es)
written_more chain (x ∷ batches) es = ap (λ t. batch chain x ++ t) (written_more (batch_chain chain x) batches es) ∙ sym (append_assoc (batch chain x) (written (batch_chain chain x) batches) _)

pub behind_more : (chain : List ℕ) (batches : List (List Entry)) (es : List Entry) → chain_behind chain (batches ++ es ∷ []) ≡ batch_chain (chain_behind chain batches) es
behind_more chain [] es = refl
behind_more chain (x ∷ batches) es = behind_more (batch_chain chain x) batches es

pub are_more : (chain : List ℕ) (batches : List (List Entry)) (es : List Entry) → AreBatches chain batches → IsBatch (chain_behind chain batches) es → AreBatches chain (batches ++ es ∷ [])
are_more chain [] es p q = (q, tt)
are_more chain (x ∷ batches) es p q = (p.0, are_more (batch_chain chain x) batches es p.1 q)

pub behind_is_chain : (chain : List ℕ) (batches : List (List Entry)) → IsChain chain → IsChain (chain_behind chain batches)
behind_is_chain chain [] c = c
behind_is_chain chain (x ∷ batches) c = behind_is_chain (batch_chain chain x) batches (after_is_chain chain (record_lines chain x))

pub append_law : IsAppendLaw
append_law batches es are is =
    let one = batch (chain_behind first_chain batches) es in
    let more : (heading ++ written first_chain batches) ++ one ≡ heading ++ written first_chain (batches ++ es ∷ []) = append_assoc heading (written first_chain batches) one ∙ ap (λ t. heading ++ t) (sym (written_more first_chain batches es)) in (
      (written first_chain (batches ++ es ∷ []), more, record { text_is = sym (append-nil (written first_chain (batches ++ es ∷ []))); are = are_more first_chain batches es are is; none = none_in_nothing _ }),
      behind_more first_chain batches es,
    )
