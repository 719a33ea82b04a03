-- Records and batches at the front of what is read.
use Rattle.std.proofs.Common.{◌≡◌, ℕ, ◌+◌, ◌<◌, ◌≤◌, Bool, true, false, Option, Some, None, List, [], ◌∷◌, ◌++◌, length, take, drop, refl, sym, ap, subst, ◌∙◌, arith, append_assoc, append-nil, length-append}
use Rattle.std.specs.Prelude.{IfSome}
use Rattle.std.specs.List.{AllByRecursion}
use Rattle.std.specs.Io.KnownBytes.{Keeps, prepend_known}
use Rattle.cql_journal.specs.Record.{IsChain, Entry, Lacks, Fits, chain_after, record_line, record_lines, batch, batch_chain, NoBatch}
use Rattle.cql_journal.specs.Reading.{StartsRecords, StartsBatch, Follows, Fills, Fronts}
use Rattle.cql_journal.specs.declared.reading.Front.{Front}
use Rattle.cql_journal.specs.declared.reading.Next.{Next}
use Rattle.cql_journal.specs.declared.reading.Next.TheVariants.{Record, Commit, Wrong, Part}
use Rattle.cql_journal.proofs.Batches.{no_commit, no_room, no_end, batch_size, batch_rest}

-- ---- one record more

pub lines_more : (chain : List ℕ) (es : List Entry) (e : Entry) (rest : List ℕ) → record_lines chain es ++ (record_line chain e ++ 10 ∷ rest) ≡ record_lines chain (es ++ e ∷ []) ++ rest
lines_more chain [] e rest = sym (append_assoc (record_line chain e) (10 ∷ []) rest)
lines_more chain (x ∷ es) e rest =
    append_assoc (record_line chain x) (10 ∷ record_lines chain es) (record_line chain e ++ 10 ∷ rest)
    ∙ ap (λ t. record_line chain x ++ 10 ∷ t) (lines_more chain es e rest)
    ∙ sym (append_assoc (record_line chain x) (10 ∷ record_lines chain (es ++ e ∷ [])) rest)

pub fit_more : (es : List Entry) (e : Entry) → AllByRecursion Fits es → Fits e → AllByRecursion Fits (es ++ e ∷ [])
fit_more [] e p f = (f, tt)
fit_more (x ∷ es) e p f = (p.0, fit_more es e p.1 f)

-- ---- the front and what is behind it

pub drop_front : (a b : List ℕ) → drop (length a) (a ++ b) ≡ b
drop_front [] b = refl
drop_front (x ∷ a) b = drop_front a b

pub take_front : (a b : List ℕ) → take (length a) (a ++ b) ≡ a
take_front [] b = refl
take_front (x ∷ a) b = ap (λ t. x ∷ t) (take_front a b)

-- what follows, at the parts that a slice was split into
pub follows : (chain before rest shown held : List ℕ) (at : ℕ) (next : Next) → before ≡ take at shown → rest ≡ drop at shown → shown ≡ held → Follows chain before rest next → Follows chain (take at held) (drop at held) next
follows chain before rest shown held at next b r s f =
    subst (λ t. Follows chain (take at t) (drop at t) next) s (subst (λ t. Follows chain (take at shown) t next) r (subst (λ t. Follows chain t rest next) b f))

pub no_records : (chain held : List ℕ) → StartsRecords chain 0 held
no_records chain held = record { entries = []; fit = tt; rest = held; held_is = refl; size_is = refl }

module _ (chain held : List ℕ) (size : ℕ) (h : StartsRecords chain size held) where
  behind_is : drop size held ≡ h.rest
  behind_is = ap (λ n. drop n held) h.size_is ∙ ap (drop (length (record_lines chain h.entries))) h.held_is ∙ drop_front (record_lines chain h.entries) h.rest

  pub front_is : take size held ≡ record_lines chain h.entries
  front_is = ap (λ n. take n held) h.size_is ∙ ap (take (length (record_lines chain h.entries))) h.held_is ∙ take_front (record_lines chain h.entries) h.rest

  pub within : size ≤ length held
  within = omega (arith, h.size_is, ap length h.held_is ∙ length-append (record_lines chain h.entries) h.rest)

  pub record_more : (n : ℕ) → Follows chain (take size held) (drop size held) (Record n) → StartsRecords chain (size + n) held
  record_more n f =
      let e = f.0 in
      let rest : h.rest ≡ record_line chain e ++ 10 ∷ f.1 = sym behind_is ∙ f.3 in
      let whole : held ≡ record_lines chain (h.entries ++ e ∷ []) ++ f.1 = h.held_is ∙ ap (λ t. record_lines chain h.entries ++ t) rest ∙ lines_more chain h.entries e f.1 in
      let one : record_lines chain h.entries ++ (record_line chain e ++ 10 ∷ []) ≡ record_lines chain (h.entries ++ e ∷ []) ++ [] = lines_more chain h.entries e [] in
      let all : length (record_lines chain (h.entries ++ e ∷ [])) ≡ length (record_lines chain h.entries) + (length (record_line chain e) + 1) =
      ap length (sym (append-nil (record_lines chain (h.entries ++ e ∷ []))) ∙ sym one) ∙ length-append (record_lines chain h.entries) (record_line chain e ++ 10 ∷ []) ∙ ap (λ n. length (record_lines chain h.entries) + n) (length-append (record_line chain e) (10 ∷ [])) in
      record { entries = h.entries ++ e ∷ []; fit = fit_more h.entries e h.fit f.2; rest = f.1; held_is = whole; size_is = omega (arith, all, h.size_is, f.4) }

  pub batch_there : Follows chain (take size held) (drop size held) Commit → StartsBatch chain size held
  batch_there f =
      let rest : h.rest ≡ batch_chain chain h.entries ++ 10 ∷ f.0 = sym behind_is ∙ f.1 ∙ ap (λ t. chain_after chain t ++ 10 ∷ f.0) front_is in
      let len : length (take size held) ≡ length (record_lines chain h.entries) = ap length front_is in
      record {
        entries = h.entries;
        is = record { fit = h.fit; short = omega (arith, batch_size chain h.entries, len, f.2) };
        behind = f.0;
        held_is = h.held_is ∙ ap (λ t. record_lines chain h.entries ++ t) rest ∙ sym (batch_rest chain h.entries f.0);
        size_is = h.size_is;
      }

  pub none_if_wrong : (c : IsChain chain) (known : Option (List ℕ)) → Follows chain (take size held) (drop size held) Wrong → IfSome (prepend_known held known) (λ text. NoBatch chain text)
  none_if_wrong c None f = tt
  none_if_wrong c (Some left) f =
      let rest : h.rest ≡ f.0 ++ 10 ∷ f.1 = sym behind_is ∙ f.2 in
      let whole : held ++ left ≡ record_lines chain h.entries ++ (f.0 ++ 10 ∷ (f.1 ++ left)) =
      ap (λ t. t ++ left) h.held_is ∙ append_assoc (record_lines chain h.entries) h.rest left ∙ ap (λ t. record_lines chain h.entries ++ t) (ap (λ t. t ++ left) rest ∙ append_assoc f.0 (10 ∷ f.1) left) in
      let len : length (take size held) ≡ length (record_lines chain h.entries) = ap length front_is in
      no_commit chain (held ++ left) h.entries f.0 (f.1 ++ left) c h.fit whole f.3 f.4
      (λ is. let long : 16777216 < length (take size held) + 17 = f.5 (is ∙ ap (chain_after chain) (sym front_is)) in omega (arith, len, long))

  pub none_if_long : (c : IsChain chain) (known : Option (List ℕ)) → Follows chain (take size held) (drop size held) Part → 16777216 ≤ length held → IfSome (prepend_known held known) (λ text. NoBatch chain text)
  none_if_long c None f long = tt
  none_if_long c (Some left) f long =
      let part : Lacks 10 h.rest = subst (Lacks 10) behind_is f in
      let len : length held ≡ length (record_lines chain h.entries) + length h.rest = ap length h.held_is ∙ length-append (record_lines chain h.entries) h.rest in
      no_room chain (held ++ left) h.entries h.rest left c h.fit (ap (λ t. t ++ left) h.held_is ∙ append_assoc (record_lines chain h.entries) h.rest left) part (omega (arith, len, long))

  pub none_at_end : (c : IsChain chain) (new : List ℕ) (before after : Option (List ℕ)) (came : Bool) → came ≡ false → Follows chain (take size held) (drop size held) Part → Fills held new before after came → IfSome (prepend_known new after) (λ text. NoBatch chain text)
  none_at_end c new before None came over f fill = tt
  none_at_end c new before (Some left) came over f fill =
      let part : Lacks 10 h.rest = subst (Lacks 10) behind_is f in
      let end = fill.at_end over in
      let same : new ++ left ≡ held = ap (λ t. t ++ left) (fill.grown ∙ ap (λ t. held ++ t) end.0 ∙ append-nil held) ∙ ap (λ t. held ++ t) end.1 ∙ append-nil held in
      no_end chain (new ++ left) h.entries h.rest c h.fit (same ∙ h.held_is) part

  pub records_stay : (new : List ℕ) (before after : Option (List ℕ)) (more : Bool) → Fills held new before after more → StartsRecords chain size new
  records_stay new before after more fill = record {
    entries = h.entries;
    fit = h.fit;
    rest = h.rest ++ fill.piece;
    held_is = fill.grown ∙ ap (λ t. t ++ fill.piece) h.held_is ∙ append_assoc (record_lines chain h.entries) h.rest fill.piece;
    size_is = h.size_is;
  }

-- what is to come stays, when a piece of it is held
pub come_stays : (held new : List ℕ) (before after : Option (List ℕ)) (more : Bool) → Fills held new before after more → Keeps (prepend_known held before) (prepend_known new after)
come_stays held new None after more fill = tt
come_stays held new (Some xs) None more fill = fill.consumed
come_stays held new (Some xs) (Some ys) more fill = ap (λ t. t ++ ys) fill.grown ∙ append_assoc held fill.piece ys ∙ ap (λ t. held ++ t) (sym fill.consumed)

pub batch_within : (chain held : List ℕ) (size : ℕ) → StartsBatch chain size held → size + 17 ≤ length held
batch_within chain held size b = omega (arith, b.size_is, batch_size chain b.entries, ap length b.held_is ∙ length-append (batch chain b.entries) b.behind)

pub keeps_more : (come mid left : Option (List ℕ)) → Keeps come mid → Keeps mid left → Keeps come left
keeps_more None mid left k l = tt
keeps_more (Some xs) None left k l = absurd k
keeps_more (Some xs) (Some ys) None k l = absurd l
keeps_more (Some xs) (Some ys) (Some zs) k l = l ∙ k

pub still_kept : (come : Option (List ℕ)) (held new : List ℕ) (before after : Option (List ℕ)) (more : Bool) → Keeps come (prepend_known held before) → Fills held new before after more → Keeps come (prepend_known new after)
still_kept come held new before after more k f = keeps_more come (prepend_known held before) (prepend_known new after) k (come_stays held new before after more f)

-- all that is to come is there, and that is less
pub short_there : (old new : List ℕ) (before after : Option (List ℕ)) (count : ℕ) (more : Bool) → more ≡ false → Fills old new before after more → length old < count → IfSome (prepend_known new after) (λ text. (text ≡ new) × (length text < count))
short_there old new before None count more e f l = tt
short_there old new before (Some left) count more e f l =
    let end = f.at_end e in
    let same : new ++ left ≡ new = ap (λ t. new ++ t) end.1 ∙ append-nil new in
    let grown : new ≡ old = f.grown ∙ ap (λ t. old ++ t) end.0 ∙ append-nil old in
    (same, omega (arith, l, ap length (same ∙ grown)))

-- ---- what stands at a front

pub is_batch_there : (chain held : List ℕ) (size : ℕ) (come known : Option (List ℕ)) → StartsRecords chain size held → Keeps come (prepend_known held known) → Follows chain (take size held) (drop size held) Commit → Fronts chain come held known (record { size = size; is_batch = true })
is_batch_there chain held size come known r k f = record {
  kept = k;
  records = r;
  batch = λ b. batch_there chain held size r f;
  none = λ b. let no : true ≡ false = b in absurd cc;
}

pub no_batch_there : (chain held : List ℕ) (size : ℕ) (come known : Option (List ℕ)) (front : Front) → front ≡ record { size = size; is_batch = false } → StartsRecords chain size held → Keeps come (prepend_known held known)
    → IfSome (prepend_known held known) (λ text. NoBatch chain text) → Fronts chain come held known front
no_batch_there chain held size come known front is r k free = subst (Fronts chain come held known) (sym is) (record {
  kept = k;
  records = r;
  batch = λ b. let no : false ≡ true = b in absurd cc;
  none = λ b. free;
})
