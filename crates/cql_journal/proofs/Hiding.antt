-- Where a whole batch can begin.
use Rattle.std.proofs.Common.{◌≡◌, ◌≢◌, ℕ, zero, suc, ◌+◌, ◌-◌, ◌<◌, ◌≤◌, ◌^◌, inl, inr, Bool, true, false, Option, Some, None, Result, Ok, Err, List, [], ◌∷◌, ◌++◌, length, take, drop, refl, sym, ap, subst, ◌∙◌, arith, append_assoc, append-nil, length-append, take-append-drop}
use Rattle.std.specs.Prelude.{◌⊎◌, IfSome, MatchResult}
use Rattle.std.specs.List.{AllByRecursion}
use Rattle.std.specs.Io.KnownBytes.{Consumes, Keeps, prepend_known}
use Rattle.std.proofs.KnownBytes.{Consumes-trans, Consumes-nil, Consumes-kept}
use Rattle.std.proofs.lemmas.List.{length-take, take-append-le}
use Rattle.cql_journal.specs.Record.{Entry, Lacks, Fits, IsChain, body, record_line, record_lines, batch, batch_chain, IsBatch, NoBatch}
use Rattle.cql_journal.specs.Reading.{StartsRecords, StartsBatch, Fills, Fronts, Reaches, Stops}
use Rattle.cql_journal.specs.declared.reading.Front.{Front}
use Rattle.cql_journal.specs.declared.recovery.RecoveryFault.{RecoveryFault}
use Rattle.cql_journal.specs.declared.recovery.RecoveryFault.TheVariants.{OtherFormat, Record as unfit, Damaged, Failed, NoMemory, TooMany}
use Rattle.cql_journal.specs.declared.searching.Searched.{Searched}
use Rattle.cql_journal.specs.declared.searching.Searched.TheVariants.{Found, On, Over}
use Rattle.cql_journal.specs.Hidden.{GivesUp, TooLong, Finds, Skips, Sees, Tells, EndsLine, Hides, Parts, HidesNone, Clears, Searches, SkipsLine, SkipsPart, Searching, NoFirst, NoneStarts, ChainAt}
use Rattle.cql_journal.proofs.Parsing.{cancel, line_same, lacks_append, lacks_behind, record_feedless, after_is_chain, no_chain, size_more}
use Rattle.cql_journal.proofs.Batches.{batch_rest, batch_size, within}
use Rattle.cql_journal.proofs.Finding.{take_front, drop_front, keeps_more, come_stays, front_is, within as fits_in}

-- ---- the first line of a batch

-- the chain of a record is the front of its line
its_chain : (chain : List ℕ) (e : Entry) (behind : List ℕ) → IsChain chain → take 16 (record_line chain e ++ behind) ≡ chain
its_chain chain e behind c =
    ap (λ n. take n (record_line chain e ++ behind)) (sym c.size) ∙ ap (take (length chain)) (append_assoc chain (32 ∷ body e) behind) ∙ take_front chain ((32 ∷ body e) ++ behind)

first_line : (chain : List ℕ) (first : Entry) (others : List Entry) (behind : List ℕ)
    → batch chain (first ∷ others) ++ behind ≡ record_line chain first ++ 10 ∷ (record_lines chain others ++ (batch_chain chain (first ∷ others) ++ 10 ∷ behind))
first_line chain first others behind = batch_rest chain (first ∷ others) behind ∙ append_assoc (record_line chain first) (10 ∷ record_lines chain others) (batch_chain chain (first ∷ others) ++ 10 ∷ behind)

one_chain : (c d : List ℕ) (e f : Entry) → IsChain c → IsChain d → record_line c e ≡ record_line d f → c ≡ d
one_chain c d e f p q is = sym (its_chain c e [] p) ∙ ap (λ l. take 16 (l ++ [])) is ∙ its_chain d f [] q

-- ---- lines of a text

ends_more : (x : ℕ) (a : List ℕ) → EndsLine (x ∷ a) → EndsLine a
ends_more x a (inl e) = absurd (let h : suc (length a) ≡ 0 = ap length e in omega (arith, h))
ends_more x a (inr ([], e)) = inl cc
ends_more x a (inr (y ∷ w, e)) = inr (w, cc)

pub ends_behind : (a more : List ℕ) → EndsLine (a ++ more) → EndsLine more
ends_behind [] more e = e
ends_behind (x ∷ a) more e = ends_behind a more (ends_more x (a ++ more) e)

pub ends_joined : (a b : List ℕ) → EndsLine a → EndsLine b → EndsLine (a ++ b)
ends_joined a b p (inl e) = subst EndsLine (sym (ap (λ t. a ++ t) e ∙ append-nil a)) p
ends_joined a b p (inr q) = inr (a ++ q.0, ap (λ t. a ++ t) q.1 ∙ sym (append_assoc a q.0 (10 ∷ [])))

pub line_ends : (line : List ℕ) → EndsLine (line ++ 10 ∷ [])
line_ends line = inr (line, refl)

-- the first line of a text is the first of a front that ends a line
first_of : (line rest a b w : List ℕ) → Lacks 10 line → a ≡ w ++ 10 ∷ [] → line ++ 10 ∷ rest ≡ a ++ b → (more : List ℕ) × (a ≡ line ++ 10 ∷ more) × (rest ≡ more ++ b) × EndsLine more
first_of line rest [] b w p e is = absurd (let h : 0 ≡ length w + 1 = ap length e ∙ length-append w (10 ∷ []) in omega (arith, h))
first_of [] rest (x ∷ a) b w p e is = (a, let h : x ≡ 10 = cc in ap (λ y. y ∷ a) h, cc, ends_more x a (inr (w, e)))
first_of (n ∷ line) rest (x ∷ a) b [] p e is = absurd (p.0 cc)
first_of (n ∷ line) rest (x ∷ a) b (y ∷ w) p e is =
    let ends : a ≡ w ++ 10 ∷ [] = cc in
    let tail : line ++ 10 ∷ rest ≡ a ++ b = cc in
    let found = first_of line rest a b w p.1 ends tail in
    (found.0, let h : x ≡ n = cc in ap (λ z. z ∷ a) h ∙ ap (λ t. n ∷ t) found.1, found.2, found.3)

-- ---- where no batch starts

pub none_of_others : (text : List ℕ) → NoFirst text → NoneStarts text
none_of_others text free = λ chain first others behind c b is. free chain first _ c (is ∙ first_line chain first others behind)

pub no_first : (held front line behind more : List ℕ) → 16 ≤ length held → front ≡ take 16 held → front ≡ line ++ 10 ∷ behind → NoFirst (held ++ more)
no_first held front line behind more h f cut = λ chain e rest c is.
    let same : chain ≡ line ++ 10 ∷ behind = sym (its_chain chain e (10 ∷ rest) c) ∙ ap (take 16) (sym is) ∙ take-append-le 16 held more h ∙ sym f ∙ cut in
    absurd ((lacks_behind 10 line (10 ∷ behind) (subst (Lacks 10) same c.feedless)).0 refl)

-- no batch of its own chain starts there
pub none_of_its : (text held left chain : List ℕ) → text ≡ held ++ left → 16 ≤ length held → chain ≡ take 16 held → NoBatch chain text → NoneStarts text
none_of_its text held left chain t h k free = λ d first others behind c b is.
    let same : d ≡ chain = sym (its_chain d first _ c) ∙ ap (take 16) (sym (is ∙ first_line d first others behind) ∙ t) ∙ take-append-le 16 held left h ∙ sym k in
    free (first ∷ others) behind (subst (λ x. IsBatch x (first ∷ others)) same b) (is ∙ ap (λ x. batch x (first ∷ others) ++ behind) same)

-- a batch of no records stands there
pub none_behind_empty : (text chain behind : List ℕ) → text ≡ batch chain [] ++ behind → NoneStarts text
none_behind_empty text chain behind t = λ d first others more c b is.
    let k = after_is_chain chain [] in
    let lines = line_same 10 (batch_chain chain []) (record_line d first) behind _ k.feedless (record_feedless d first c b.fit.0) (sym (batch_rest chain [] behind) ∙ sym t ∙ is ∙ first_line d first others more) in
    no_chain d (batch_chain chain []) first c k (sym lines.0)

-- ---- fronts in which no batch begins

pub clears_line : (text line rest : List ℕ) → NoneStarts text → text ≡ line ++ 10 ∷ rest → Lacks 10 line → Clears (line ++ 10 ∷ []) text
clears_line text line rest free t p = λ h parts.
    elim h.at_line [
      | inl e ↦ absurd (free h.chain h.first h.others h.behind h.is_chain h.is (h.text_is ∙ ap (λ a. a ++ (batch h.chain (h.first ∷ h.others) ++ h.behind)) e))
      | inr w ↦ let found = first_of line rest h.above _ w.0 p w.1 (sym t ∙ h.text_is) in omega (arith, ap length found.1 ∙ length-append line (10 ∷ found.0), length-append line (10 ∷ []))
    ]

-- a front that ends a line, at records: it is nothing, or it is longer, or the last of it is one of them and the batch behind it is of their chain
in_run : (c d : List ℕ) (es : List Entry) (first : Entry) (others : List Entry) (rest above behind : List ℕ) → IsChain c → IsChain d → AllByRecursion Fits es → Fits first → EndsLine above
    → record_lines c es ++ rest ≡ above ++ (batch d (first ∷ others) ++ behind)
    → (length (record_lines c es) ≤ length above) ⊎ (((above ≡ []) × (c ≡ d)) ⊎ ((before : List ℕ) × (e : Entry) × EndsLine before × Fits e × (above ≡ before ++ (record_line d e ++ 10 ∷ []))))
in_run c d [] first others rest above behind p q fits f ends is = inl (omega arith)
in_run c d (e ∷ es) first others rest above behind p q fits f (inl none) is =
    let text : record_line c e ++ 10 ∷ (record_lines c es ++ rest) ≡ record_line d first ++ 10 ∷ _ =
    sym (append_assoc (record_line c e) (10 ∷ record_lines c es) rest) ∙ is ∙ ap (λ a. a ++ (batch d (first ∷ others) ++ behind)) none ∙ first_line d first others behind in
    let lines = line_same 10 (record_line c e) (record_line d first) _ _ (record_feedless c e p fits.0) (record_feedless d first q f) text in
    inr (inl (none, one_chain c d e first p q lines.0))
in_run c d (e ∷ es) first others rest above behind p q fits f (inr w) is =
    let line = record_line c e in
    let found = first_of line (record_lines c es ++ rest) above (batch d (first ∷ others) ++ behind) w.0 (record_feedless c e p fits.0) w.1 (sym (append_assoc line (10 ∷ record_lines c es) rest) ∙ is) in
    let more = found.0 in
    elim (in_run c d es first others rest more behind p q fits.1 f found.3 found.2) [
      | inl long ↦ inl (omega (arith, long, ap length found.1 ∙ length-append line (10 ∷ more), length-append line (10 ∷ record_lines c es)))
      | inr (inl here) ↦ inr (inr ([], e, inl refl, fits.0, found.1 ∙ ap (λ m. line ++ 10 ∷ m) here.0 ∙ ap (λ x. record_line x e ++ 10 ∷ []) here.1))
      | inr (inr (before, last, ends, g, is_last)) ↦ inr (inr (line ++ 10 ∷ before, last, subst EndsLine (append_assoc line (10 ∷ []) before) (ends_joined (line ++ 10 ∷ []) before (line_ends line) ends), g, found.1 ∙ ap (λ m. line ++ 10 ∷ m) is_last ∙ sym (append_assoc line (10 ∷ before) (record_line d last ++ 10 ∷ []))))
    ]

pub clears_records : (text chain rest : List ℕ) (es : List Entry) → IsChain chain → AllByRecursion Fits es → NoneStarts text → text ≡ record_lines chain es ++ rest → Clears (record_lines chain es) text
clears_records text chain rest es c fits free t = λ h parts.
    elim (in_run chain h.chain es h.first h.others rest h.above h.behind c h.is_chain fits h.is.fit.0 h.at_line (sym t ∙ h.text_is)) [
      | inl long ↦ long
      | inr (inl here) ↦ absurd (free h.chain h.first h.others h.behind h.is_chain h.is (h.text_is ∙ ap (λ a. a ++ (batch h.chain (h.first ∷ h.others) ++ h.behind)) here.0))
      | inr (inr (before, last, ends, g, is_last)) ↦ absurd (parts before last ends g is_last)
    ]

lines_end : (chain : List ℕ) (es : List Entry) → EndsLine (record_lines chain es)
lines_end chain [] = inl refl
lines_end chain (e ∷ es) = subst EndsLine (append_assoc (record_line chain e) (10 ∷ []) (record_lines chain es)) (ends_joined (record_line chain e ++ 10 ∷ []) (record_lines chain es) (line_ends (record_line chain e)) (lines_end chain es))

-- ---- a text behind a front

-- what a text hides behind a front that ends a line is hidden in the rest
behind_front : (x y a : List ℕ) → x ≡ a ++ y → EndsLine a → (h : Hides x) → Parts h.chain h.above → length a ≤ length h.above → (k : Hides y) × Parts k.chain k.above × (length h.above ≡ length a + length k.above)
behind_front x y a split ends h parts long =
    let b = batch h.chain (h.first ∷ h.others) ++ h.behind in
    let above : h.above ≡ a ++ drop (length a) h.above = within a h.above y b long (sym split ∙ h.text_is) in
    let more = drop (length a) h.above in
    let rest : y ≡ more ++ b = cancel a y (more ++ b) (sym split ∙ h.text_is ∙ ap (λ t. t ++ b) above ∙ append_assoc a more b) in (
      record { above = more; chain = h.chain; first = h.first; others = h.others; behind = h.behind; text_is = rest; at_line = ends_behind a more (subst EndsLine above h.at_line); is_chain = h.is_chain; is = h.is },
      (λ before e begins fits is. parts (a ++ before) e (ends_joined a before ends begins) fits (above ∙ ap (λ t. a ++ t) is ∙ sym (append_assoc a before (record_line h.chain e ++ 10 ∷ [])))),
      ap length above ∙ length-append a more,
    )

clears_more : (x y a b : List ℕ) → x ≡ a ++ y → EndsLine a → Clears a x → Clears b y → Clears (a ++ b) x
clears_more x y a b split ends first second = λ h parts.
    let rest = behind_front x y a split ends h parts (first h parts) in
    let len : length b ≤ length rest.0.above = second rest.0 rest.1 in
    omega (arith, len, rest.2, length-append a b)

pub hides_none_behind : (x y a : List ℕ) → x ≡ a ++ y → EndsLine a → Clears a x → HidesNone y → HidesNone x
hides_none_behind x y a split ends first none = λ h parts. let rest = behind_front x y a split ends h parts (first h parts) in none rest.0 rest.1

pub hides_behind : (x y a : List ℕ) → x ≡ a ++ y → EndsLine a → Hides y → Hides x
hides_behind x y a split ends h = record {
  above = a ++ h.above;
  chain = h.chain;
  first = h.first;
  others = h.others;
  behind = h.behind;
  text_is = split ∙ ap (λ t. a ++ t) h.text_is ∙ sym (append_assoc a h.above (batch h.chain (h.first ∷ h.others) ++ h.behind));
  at_line = ends_joined a h.above ends h.at_line;
  is_chain = h.is_chain;
  is = h.is;
}

-- ---- texts that hide none

its_size : (text : List ℕ) (h : Hides text) → 17 ≤ length text
its_size text h = omega (arith, ap length h.text_is ∙ length-append h.above (batch h.chain (h.first ∷ h.others) ++ h.behind), length-append (batch h.chain (h.first ∷ h.others)) h.behind, batch_size h.chain (h.first ∷ h.others))

pub none_in_short : (text : List ℕ) → length text < 16 → HidesNone text
none_in_short text s = λ h parts. absurd (omega (arith, s, its_size text h))

pub none_in_feedless : (text : List ℕ) → Lacks 10 text → HidesNone text
none_in_feedless text p = λ h parts.
    let b = lacks_behind 10 h.above (batch h.chain (h.first ∷ h.others) ++ h.behind) (subst (Lacks 10) h.text_is p) in
    absurd ((lacks_behind 10 (record_line h.chain h.first) _ (subst (Lacks 10) (first_line h.chain h.first h.others h.behind) b)).0 refl)

-- ---- what is to come

-- what stays has what it had
pub if_kept : (P : List ℕ → Type 0) (come left : Option (List ℕ)) → Keeps come left → IfSome left P → IfSome come P
if_kept P None left k h = tt
if_kept P (Some x) None k h = absurd k
if_kept P (Some x) (Some y) k h = subst P k h

pub kept_then : (come mid left : Option (List ℕ)) (front : List ℕ) → Keeps come mid → Consumes mid left front → Consumes come left front
kept_then None mid left front k c = tt
kept_then (Some x) None left front k c = absurd k
kept_then (Some x) (Some y) None front k c = absurd c
kept_then (Some x) (Some y) (Some z) front k c = sym k ∙ c

-- bytes that are held are taken
pub held_taken : (known : Option (List ℕ)) (held front left : List ℕ) → held ≡ front ++ left → Consumes (prepend_known held known) (prepend_known left known) front
held_taken None held front left is = tt
held_taken (Some ys) held front left is = ap (λ t. t ++ ys) is ∙ append_assoc front left ys

at_end : (old new : List ℕ) (before after : Option (List ℕ)) (more : Bool) → more ≡ false → Fills old new before after more → IfSome (prepend_known old before) (λ text. text ≡ old)
at_end old new None after more over f = tt
at_end old new (Some xs) None more over f = absurd f.consumed
at_end old new (Some xs) (Some ys) more over f =
    let end = f.at_end over in
    ap (λ t. old ++ t) (f.consumed ∙ ap (λ t. t ++ ys) end.0 ∙ end.1) ∙ append-nil old

-- ---- a line that is skipped

pub skip_none : (come : Option (List ℕ)) (held : List ℕ) → SkipsPart come come held 0
skip_none come held = record { part = []; lacks = tt; consumed = Consumes-nil come; many = omega arith }

pub skip_more : (come before after : Option (List ℕ)) (held left new shown : List ℕ) (n : ℕ) (more : Bool) → SkipsPart come (prepend_known held before) held n → shown ≡ held → Lacks 10 shown → left ≡ drop (length shown) held
    → more ≡ true → Fills left new before after more → SkipsPart come (prepend_known new after) new (n + 1)
skip_more come before after held left new shown n more s is lacks d e f =
    let none : left ≡ [] = d ∙ ap (λ x. drop (length x) held) is ∙ ap (drop (length held)) (sym (append-nil held)) ∙ drop_front held [] in
    let g : Fills [] new before after more = subst (λ l. Fills l new before after more) none f in
    let came : 0 < length g.piece = g.came e in
    record {
      part = s.part ++ held;
      lacks = lacks_append 10 s.part held s.lacks (subst (Lacks 10) is lacks);
      consumed = Consumes-kept come (prepend_known [] before) (prepend_known new after) (s.part ++ held) (Consumes-trans come (prepend_known held before) (prepend_known [] before) s.part held s.consumed (held_taken before held held [] (sym (append-nil held)))) (come_stays [] new before after more g);
      many = omega (arith, s.many, came, ap length g.grown, length-append s.part held);
    }

pub skip_found : (come known : Option (List ℕ)) (held shown line behind left : List ℕ) (n : ℕ) → SkipsPart come (prepend_known held known) held n → shown ≡ held → shown ≡ line ++ 10 ∷ behind → Lacks 10 line → left ≡ drop (length line + 1) held
    → SkipsLine come (prepend_known left known)
skip_found come known held shown line behind left n s is cut lacks d =
    let split : held ≡ (line ++ 10 ∷ []) ++ behind = sym is ∙ cut ∙ sym (append_assoc line (10 ∷ []) behind) in
    let size : length line + 1 ≡ length (line ++ 10 ∷ []) = sym (length-append line (10 ∷ [])) in
    let rest : left ≡ behind = d ∙ ap (λ k. drop k held) size ∙ ap (drop (length (line ++ 10 ∷ []))) split ∙ drop_front (line ++ 10 ∷ []) behind in
    record {
      line = s.part ++ line;
      lacks = lacks_append 10 s.part line s.lacks lacks;
      consumed = subst (Consumes come (prepend_known left known)) (sym (append_assoc s.part line (10 ∷ [])))
          (Consumes-trans come (prepend_known held known) (prepend_known left known) s.part (line ++ 10 ∷ []) s.consumed (held_taken known held (line ++ 10 ∷ []) left (split ∙ ap (λ t. (line ++ 10 ∷ []) ++ t) (sym rest))));
    }

-- a property of what was taken and of what is to come
taken_then : (P : List ℕ → Type 0) (Q : List ℕ → Type 0) (come mid : Option (List ℕ)) (front : List ℕ) → Consumes come mid front → IfSome mid Q → ((x y : List ℕ) → x ≡ front ++ y → Q y → P x) → IfSome come P
taken_then P Q None mid front c h f = tt
taken_then P Q (Some x) None front c h f = absurd c
taken_then P Q (Some x) (Some y) front c h f = f x y c h

pub skip_over : (come before after : Option (List ℕ)) (held left new shown : List ℕ) (n : ℕ) (more : Bool) → SkipsPart come (prepend_known held before) held n → shown ≡ held → Lacks 10 shown → left ≡ drop (length shown) held
    → more ≡ false → Fills left new before after more → IfSome come (Lacks 10)
skip_over come before after held left new shown n more s is lacks d e f =
    let none : left ≡ [] = d ∙ ap (λ x. drop (length x) held) is ∙ ap (drop (length held)) (sym (append-nil held)) ∙ drop_front held [] in
    let g : Fills [] new before after more = subst (λ l. Fills l new before after more) none f in
    let over = at_end [] new before after more e g in
    taken_then (Lacks 10) (λ t. t ≡ []) come (prepend_known [] before) (s.part ++ held) (Consumes-trans come (prepend_known held before) (prepend_known [] before) s.part held s.consumed (held_taken before held held [] (sym (append-nil held)))) over
    (λ x y split gone. subst (Lacks 10) (sym (split ∙ ap (λ t. (s.part ++ held) ++ t) gone ∙ append-nil (s.part ++ held))) (lacks_append 10 s.part held s.lacks (subst (Lacks 10) is lacks)))

pub skip_many : (come known : Option (List ℕ)) (held : List ℕ) (n m : ℕ) → n ≡ m → SkipsPart come (prepend_known held known) held n → IfSome come (λ text. m ≤ length text)
skip_many None known held n m is s = tt
skip_many (Some x) None held n m is s = absurd s.consumed
skip_many (Some x) (Some ys) held n m is s = omega (arith, is, s.many, ap length s.consumed ∙ length-append s.part (held ++ ys), length-append held ys)

-- ---- what a front is

no_entries : (chain : List ℕ) (es : List Entry) → length (record_lines chain es) ≡ 0 → es ≡ []
no_entries chain [] e = refl
no_entries chain (x ∷ es) e = absurd (omega (arith, e, size_more chain x es))

starts_hides : (x chain behind : List ℕ) (es : List Entry) → IsChain chain → IsBatch chain es → 0 < length (record_lines chain es) → x ≡ batch chain es ++ behind → Hides x
starts_hides x chain behind [] c b some is = absurd (omega (arith, some))
starts_hides x chain behind (e ∷ es) c b some is = record { above = []; chain = chain; first = e; others = es; behind = behind; text_is = is; at_line = inl refl; is_chain = c; is = b }

-- no batch starts where none of the chain there does
starts_none : (before after : Option (List ℕ)) (ahead shown chain new : List ℕ) → shown ≡ ahead → 16 ≤ length ahead → ChainAt shown chain → Keeps (prepend_known ahead before) (prepend_known new after)
    → IfSome (prepend_known new after) (λ text. NoBatch chain text) → IfSome (prepend_known ahead before) NoneStarts
starts_none None after ahead shown chain new is h at k free = tt
starts_none (Some xs) None ahead shown chain new is h at k free = absurd k
starts_none (Some xs) (Some ys) ahead shown chain new is h at k free = none_of_its (ahead ++ xs) ahead xs chain refl h (at.0 ∙ ap (take 16) is) (subst (NoBatch chain) k free)

empty_starts_none : (before after : Option (List ℕ)) (ahead new chain : List ℕ) (size : ℕ) → size ≡ 0 → Keeps (prepend_known ahead before) (prepend_known new after) → StartsBatch chain size new → IfSome (prepend_known ahead before) NoneStarts
empty_starts_none None after ahead new chain size z k b = tt
empty_starts_none (Some xs) None ahead new chain size z k b = absurd k
empty_starts_none (Some xs) (Some ys) ahead new chain size z k b =
    let none : b.entries ≡ [] = no_entries chain b.entries (sym b.size_is ∙ z) in
    none_behind_empty (ahead ++ xs) chain (b.behind ++ ys) (sym k ∙ ap (λ t. t ++ ys) b.held_is ∙ append_assoc (batch chain b.entries) b.behind ys ∙ ap (λ es. batch chain es ++ (b.behind ++ ys)) none)

sees_batch : (before after : Option (List ℕ)) (ahead chain new : List ℕ) (size : ℕ) → IsChain chain → 0 < size → Keeps (prepend_known ahead before) (prepend_known new after) → StartsBatch chain size new → IfSome (prepend_known ahead before) Hides
sees_batch None after ahead chain new size c some k b = tt
sees_batch (Some xs) None ahead chain new size c some k b = absurd k
sees_batch (Some xs) (Some ys) ahead chain new size c some k b =
    starts_hides (ahead ++ xs) chain (b.behind ++ ys) b.entries c b.is (omega (arith, some, b.size_is)) (sym k ∙ ap (λ t. t ++ ys) b.held_is ∙ append_assoc (batch chain b.entries) b.behind ys)

clear_run : (before after : Option (List ℕ)) (ahead chain new : List ℕ) (size : ℕ) → IsChain chain → Keeps (prepend_known ahead before) (prepend_known new after) → StartsRecords chain size new → IfSome (prepend_known ahead before) NoneStarts → IfSome (prepend_known ahead before) (Clears (take size new))
clear_run None after ahead chain new size c k r free = tt
clear_run (Some xs) None ahead chain new size c k r free = absurd k
clear_run (Some xs) (Some ys) ahead chain new size c k r free =
    subst (λ f. Clears f (ahead ++ xs)) (sym (front_is chain new size r))
    (clears_records (ahead ++ xs) chain (r.rest ++ ys) r.entries c r.fit free (sym k ∙ ap (λ t. t ++ ys) r.held_is ∙ append_assoc (record_lines chain r.entries) r.rest ys))

clear_nothing : (come : Option (List ℕ)) → IfSome come (Clears [])
clear_nothing None = tt
clear_nothing (Some x) = λ h parts. omega arith

-- what is seen of records behind the chain there
sees_of : (before after : Option (List ℕ)) (ahead shown chain new : List ℕ) (size : ℕ) (is_batch : Bool) → shown ≡ ahead → 16 ≤ length ahead → ChainAt shown chain → Fronts chain (prepend_known ahead before) new after (record { size = size; is_batch = is_batch })
    → Sees (prepend_known ahead before) new after (record { size = size; is_batch = is_batch })
sees_of before after ahead shown chain new size true is h at f = record {
  kept = f.kept;
  other = λ z. empty_starts_none before after ahead new chain size z f.kept (f.batch refl);
  found = λ some b. sees_batch before after ahead chain new size at.1 some f.kept (f.batch refl);
  within = fits_in chain new size f.records;
  ends = subst EndsLine (sym (front_is chain new size f.records)) (lines_end chain f.records.entries);
  clear = λ b. let no : true ≡ false = b in absurd cc;
}
sees_of before after ahead shown chain new size false is h at f = record {
  kept = f.kept;
  other = λ z. starts_none before after ahead shown chain new is h at f.kept (f.none refl);
  found = λ some b. let no : false ≡ true = b in absurd cc;
  within = fits_in chain new size f.records;
  ends = subst EndsLine (sym (front_is chain new size f.records)) (lines_end chain f.records.entries);
  clear = λ b. clear_run before after ahead chain new size at.1 f.kept f.records (starts_none before after ahead shown chain new is h at f.kept (f.none refl));
}

sees : (before after : Option (List ℕ)) (ahead shown chain new : List ℕ) (front : Front) → shown ≡ ahead → 16 ≤ length ahead → ChainAt shown chain → Fronts chain (prepend_known ahead before) new after front → Sees (prepend_known ahead before) new after front
sees before after ahead shown chain new front is h at f = sees_of before after ahead shown chain new front.size front.is_batch is h at f

pub seen : (before after : Option (List ℕ)) (ahead shown chain new : List ℕ) (over : Bool) (result : Result Front RecoveryFault) → shown ≡ ahead → 16 ≤ length ahead → ChainAt shown chain
    → MatchResult result (Fronts chain (prepend_known ahead before) new after) (Stops over) → MatchResult result (Sees (prepend_known ahead before) new after) (Stops over)
seen before after ahead shown chain new over (Ok front) is h at r = sees before after ahead shown chain new front is h at r
seen before after ahead shown chain new over (Err fault) is h at r = r

-- ---- one step more

line_clear : (come left : Option (List ℕ)) (line : List ℕ) → Consumes come left (line ++ 10 ∷ []) → IfSome come NoneStarts → Lacks 10 line → IfSome come (Clears (line ++ 10 ∷ []))
line_clear None left line c free p = tt
line_clear (Some x) None line c free p = absurd c
line_clear (Some x) (Some y) line c free p = clears_line x line y free (c ∙ append_assoc line (10 ∷ []) y) p

both_clear : (come mid : Option (List ℕ)) (a b : List ℕ) → Consumes come mid a → EndsLine a → IfSome come (Clears a) → IfSome mid (Clears b) → IfSome come (Clears (a ++ b))
both_clear None mid a b c ends p q = tt
both_clear (Some x) None a b c ends p q = absurd c
both_clear (Some x) (Some y) a b c ends p q = clears_more x y a b c ends p q

-- the bytes of a line are taken where no batch starts
pub searches_line : (come mid now left : Option (List ℕ)) (found : Bool) → Keeps come mid → IfSome mid NoneStarts → Keeps mid now → found ≡ true → Skips now left found → Searches come left
searches_line come mid now left found k free l e skips =
    let t : SkipsLine now left = subst (Skips now left) e skips in
    let all = kept_then come mid left (t.line ++ 10 ∷ []) k (kept_then mid now left (t.line ++ 10 ∷ []) l t.consumed) in
    record {
      front = t.line ++ 10 ∷ [];
      consumed = all;
      ends = line_ends t.line;
      some = omega (arith, length-append t.line (10 ∷ []));
      clear = line_clear come left t.line all (if_kept NoneStarts come mid k free) t.lacks;
    }

pub searches_records : (come mid known : Option (List ℕ)) (held left : List ℕ) (front : Front) → Keeps come mid → Sees mid held known front → 0 < front.size → front.is_batch ≡ false → left ≡ drop front.size held → Searches come (prepend_known left known)
searches_records come mid known held left front k s some b d =
    record {
      front = take front.size held;
      consumed = kept_then come mid (prepend_known left known) (take front.size held) k
          (kept_then mid (prepend_known held known) (prepend_known left known) (take front.size held) s.kept (held_taken known held (take front.size held) left (sym (take-append-drop front.size held) ∙ ap (λ t. take front.size held ++ t) (sym d))));
      ends = s.ends;
      some = omega (arith, some, s.within, length-take front.size held);
      clear = if_kept (Clears (take front.size held)) come mid k (s.clear b);
    }

pub found_there : (come mid known : Option (List ℕ)) (held : List ℕ) (front : Front) → Keeps come mid → Sees mid held known front → 0 < front.size → front.is_batch ≡ true → IfSome come Hides
found_there come mid known held front k s some b = if_kept Hides come mid k (s.found some b)

is_short : (come : Option (List ℕ)) (held : List ℕ) → IfSome come (λ text. (text ≡ held) × (length text < 16)) → IfSome come HidesNone
is_short None held s = tt
is_short (Some y) held s = none_in_short y s.1

pub over_short : (old new : List ℕ) (before after : Option (List ℕ)) (reached : Bool) → reached ≡ false → Reaches old before new after 16 reached → IfSome (prepend_known old before) HidesNone
over_short old new before after reached e r = if_kept HidesNone (prepend_known old before) (prepend_known new after) r.kept (is_short (prepend_known new after) new (r.none e))

over_lacking : (come mid now : Option (List ℕ)) → Keeps come mid → Keeps mid now → IfSome now (Lacks 10) → IfSome come HidesNone
over_lacking come mid None k l s = if_kept HidesNone come mid k (if_kept HidesNone mid None l tt)
over_lacking come mid (Some y) k l s = if_kept HidesNone come mid k (if_kept HidesNone mid (Some y) l (none_in_feedless y s))

pub over_feedless : (come mid now left : Option (List ℕ)) (found : Bool) → Keeps come mid → Keeps mid now → found ≡ false → Skips now left found → IfSome come HidesNone
over_feedless come mid now left found k l e skips = over_lacking come mid now k l (subst (Skips now left) e skips)

pub search_none : (come : Option (List ℕ)) → Searching come come 0
search_none come = record { front = []; consumed = Consumes-nil come; ends = inl refl; clear = clear_nothing come; many = omega arith }

pub search_more : (come mid left : Option (List ℕ)) (n : ℕ) (told : Searched) → Searching come mid n → told ≡ On → Tells mid left told → Searching come left (n + 1)
search_more come mid left n told s e f =
    let t : Searches mid left = subst (Tells mid left) e f in
    record {
      front = s.front ++ t.front;
      consumed = Consumes-trans come mid left s.front t.front s.consumed t.consumed;
      ends = ends_joined s.front t.front s.ends t.ends;
      clear = both_clear come mid s.front t.front s.consumed s.ends s.clear t.clear;
      many = omega (arith, s.many, t.some, length-append s.front t.front);
    }

pub search_found : (come mid left : Option (List ℕ)) (n : ℕ) (told : Searched) → Searching come mid n → told ≡ Found → Tells mid left told → Finds come true
search_found come mid left n told s e f =
    let h : IfSome mid Hides = subst (Tells mid left) e f in
    taken_then Hides Hides come mid s.front s.consumed h (λ x y split k. hides_behind x y s.front split s.ends k)

none_left : (come mid : Option (List ℕ)) (n : ℕ) → Searching come mid n → IfSome mid HidesNone → IfSome come HidesNone
none_left None mid n s h = tt
none_left (Some x) None n s h = absurd s.consumed
none_left (Some x) (Some y) n s h = hides_none_behind x y s.front s.consumed s.ends s.clear h

pub search_over : (come mid left : Option (List ℕ)) (n : ℕ) (told : Searched) → Searching come mid n → told ≡ Over → Tells mid left told → Finds come false
search_over come mid left n told s e f = none_left come mid n s (subst (Tells mid left) e f)

-- so many steps were made
pub search_long : (come mid : Option (List ℕ)) (n m : ℕ) → m ≤ n → Searching come mid n → IfSome come (λ text. m ≤ length text)
search_long None mid n m l s = tt
search_long (Some x) None n m l s = absurd s.consumed
search_long (Some x) (Some y) n m l s = omega (arith, l, s.many, ap length s.consumed ∙ length-append s.front y)

-- ---- why no more is searched

pub gives_up : (come : Option (List ℕ)) (over : Bool) (fault : RecoveryFault) → Stops over fault → GivesUp come over fault
gives_up come over OtherFormat s = s
gives_up come over (unfit stop) s = s
gives_up come over (Damaged bytes) s = s
gives_up come over Failed s = s
gives_up come over NoMemory s = s
gives_up come over TooMany s = absurd s

-- the same where some was taken before, or nothing
pub gives_up_behind : (come mid : Option (List ℕ)) (front : List ℕ) (over : Bool) (fault : RecoveryFault) → Consumes come mid front → GivesUp mid over fault → GivesUp come over fault
gives_up_behind come mid front over OtherFormat c g = g
gives_up_behind come mid front over (unfit stop) c g = g
gives_up_behind come mid front over (Damaged bytes) c g = g
gives_up_behind come mid front over Failed c g = g
gives_up_behind come mid front over NoMemory c g = g
gives_up_behind come mid front over TooMany c g = taken_then (λ text. 2 ^ 64 - 1 ≤ length text) (λ text. 2 ^ 64 - 1 ≤ length text) come mid front c g (λ x y split k. omega (arith, k, ap length split ∙ length-append front y))

pub gives_up_kept : (come mid : Option (List ℕ)) (over : Bool) (fault : RecoveryFault) → Keeps come mid → GivesUp mid over fault → GivesUp come over fault
gives_up_kept come mid over fault k g = gives_up_behind come mid [] over fault (kept_then come mid mid [] k (Consumes-nil mid)) g
