-- One batch more, and all of them.
use Rattle.std.proofs.Common.{◌≡◌, ℕ, ◌+◌, ◌-◌, ◌≤◌, Bool, List, [], ◌∷◌, ◌++◌, length, take, drop, Option, Some, None, refl, ap, subst, sym, ◌∙◌, arith, append_assoc, append-nil, length-append, true, false, inl, Result, Ok, Err}
use Rattle.std.specs.Prelude.{map, ◌^◌, ◌⊎◌, IfSome, IfOk, IfErr, MatchResult}
use Rattle.std.specs.Io.KnownBytes.{Consumes, Keeps, prepend_known}
use Rattle.std.proofs.KnownBytes.{Consumes-trans, Consumes-nil}
use Rattle.cql_tenants.specs.declared.tenants.Tenant.{Tenant}
use Rattle.cql_core.specs.declared.command.Command.{Command}
use Rattle.cql_core.specs.Machine.{State, opening, state_after}
use Rattle.cql_core.specs.Law.{state_from}
use Rattle.cql_core.specs.Cql.{cql}
use Rattle.cql_journal.specs.Record.{Entry, IsChain, first_chain, heading, chain_after, record_lines, batch, batch_chain, written, chain_behind, IsBatch, AreBatches, NoBatch}
use Rattle.cql_journal.specs.Splits.{file_of}
use Rattle.cql_journal.specs.Hidden.{TooLong, GivesUp, Finds, Hides, HidesNone}
use Rattle.cql_journal.specs.Reading.{StartsBatch, Fronts, Stops}
use Rattle.cql_journal.specs.declared.reading.Front.{Front}
use Rattle.cql_journal.specs.Recovery.{call_of, AllChange, Replayed, counted, AreLines, ReplaysLines, StopsInLines}
use Rattle.cql_journal.specs.Recovered.{all_entries, Opens, IsFirst, TakesBatch, Takes, NothingLeft, StopsInBatch, StopsIn, Recovering, IsWhole, Recovers, IsDamaged, Fails}
use Rattle.cql_journal.specs.Starting.{IsNew, Begins, IsNoFile}
use Rattle.cql_journal.specs.declared.replaying.Unfit.{Unfit}
use Rattle.cql_journal.specs.declared.recovery.RecoveryFault.{RecoveryFault}
use Rattle.cql_journal.specs.declared.recovery.RecoveryFault.TheVariants.{OtherFormat, Record, Damaged, Failed, NoMemory, TooMany}
use Rattle.cql_journal.specs.declared.recovery.Place.{Place}
use Rattle.cql_journal.specs.declared.recovery.Recovered.{Recovered}
use Rattle.cql_journal.proofs.Parsing.{first_is_chain, after_is_chain, one_lines}
use Rattle.cql_journal.proofs.Batches.{batch_size, batch_rest, written_more, behind_more, are_more, behind_is_chain}
use Rattle.cql_journal.proofs.Finding.{drop_front, take_front}
use Rattle.cql_journal.proofs.Stepping.{replayed_none}

-- ---- records behind others

map_joined : {A B : Type 0} (f : A → B) (xs ys : List A) → map f (xs ++ ys) ≡ map f xs ++ map f ys
map_joined f [] ys = refl
map_joined f (x ∷ xs) ys = ap (λ t. f x ∷ t) (map_joined f xs ys)

change_joined : (s : State) (calls more : List (ℕ × Command)) → AllChange s calls → AllChange (state_from cql s calls) more → AllChange s (calls ++ more)
change_joined s [] more p q = q
change_joined s (c ∷ calls) more p q = (p.0, change_joined (state_after cql s c.0 c.1) calls more p.1 q)

from_joined : (s : State) (calls more : List (ℕ × Command)) → state_from cql s (calls ++ more) ≡ state_from cql (state_from cql s calls) more
from_joined s [] more = refl
from_joined s (c ∷ calls) more = from_joined (state_after cql s c.0 c.1) calls more

pub replayed_joined : (table : List Tenant) (es fs : List Entry) (old mid new : State) → Replayed table es old mid → Replayed table fs mid new → Replayed table (es ++ fs) old new
replayed_joined table es fs old mid new p q = record {
  calls = p.calls ++ q.calls;
  calls_are = map_joined (call_of table) es fs ∙ ap (λ t. t ++ map (call_of table) fs) p.calls_are ∙ ap (λ t. map (λ c. Some c) p.calls ++ t) q.calls_are ∙ sym (map_joined (λ c. Some c) p.calls q.calls);
  change = change_joined old p.calls q.calls p.change (subst (λ s. AllChange s q.calls) p.state_is q.change);
  state_is = q.state_is ∙ ap (λ s. state_from cql s q.calls) p.state_is ∙ sym (from_joined old p.calls q.calls);
}

-- ---- one batch

-- what is held in front of known bytes loses its front
held_less : (known : Option (List ℕ)) (come : Option (List ℕ)) (held front left : List ℕ) → Keeps come (prepend_known held known) → held ≡ front ++ left → Consumes come (prepend_known left known) front
held_less known None held front left k is = tt
held_less None (Some xs) held front left k is = absurd k
held_less (Some ys) (Some xs) held front left k is = sym k ∙ ap (λ t. t ++ ys) is ∙ append_assoc front left ys

far_text : (come known : Option (List ℕ)) (held front left : List ℕ) (bytes size limit : ℕ) → Keeps come (prepend_known held known) → held ≡ front ++ left → size ≡ length front → limit ≤ bytes + size → IfSome come (λ text. limit ≤ bytes + length text)
far_text None known held front left bytes size limit k is n h = tt
far_text (Some xs) None held front left bytes size limit k is n h = absurd k
far_text (Some xs) (Some ys) held front left bytes size limit k is n h = omega (arith, h, n, ap length k, length-append held ys, ap length is, length-append front left)

-- the parts that a slice was split into, at a batch
lines_of_batch : (chain shown lines held : List ℕ) (size : ℕ) → StartsBatch chain size held → lines ≡ take size shown → shown ≡ held → (b : StartsBatch chain size held) → lines ≡ record_lines chain b.entries
lines_of_batch chain shown lines held size h l s b =
    l ∙ ap (take size) s ∙ ap (λ n. take n held) b.size_is ∙ ap (take (length (record_lines chain b.entries))) (b.held_is ∙ batch_rest chain b.entries b.behind) ∙ take_front (record_lines chain b.entries) _

pub are_lines : (chain shown lines held : List ℕ) (size : ℕ) → lines ≡ take size shown → shown ≡ held → StartsBatch chain size held → AreLines chain lines
are_lines chain shown lines held size l s b = record { entries = b.entries; fit = b.is.fit; lines_are = lines_of_batch chain shown lines held size b l s b }

left_of_batch : (chain held : List ℕ) (size : ℕ) (b : StartsBatch chain size held) → drop (size + 17) held ≡ b.behind
left_of_batch chain held size b =
    let n : size + 17 ≡ length (batch chain b.entries) = omega (arith, b.size_is, batch_size chain b.entries) in
    ap (λ k. drop k held) n ∙ ap (drop (length (batch chain b.entries))) b.held_is ∙ drop_front (batch chain b.entries) b.behind

-- what stands behind the records is the chain behind the batch
rest_of_batch : (chain shown rest held : List ℕ) (size : ℕ) → rest ≡ drop size shown → shown ≡ held → (b : StartsBatch chain size held) → rest ≡ batch_chain chain b.entries ++ 10 ∷ b.behind
rest_of_batch chain shown rest held size r s b =
    r ∙ ap (drop size) s ∙ ap (λ n. drop n held) b.size_is ∙ ap (drop (length (record_lines chain b.entries))) (b.held_is ∙ batch_rest chain b.entries b.behind) ∙ drop_front (record_lines chain b.entries) _

chain_there : (chain shown rest held : List ℕ) (size : ℕ) → rest ≡ drop size shown → shown ≡ held → (b : StartsBatch chain size held) → take 16 rest ≡ batch_chain chain b.entries
chain_there chain shown rest held size r s b =
    let k : length (batch_chain chain b.entries) ≡ 16 = (after_is_chain chain (record_lines chain b.entries)).size in
    ap (take 16) (rest_of_batch chain shown rest held size r s b) ∙ ap (λ n. take n (batch_chain chain b.entries ++ 10 ∷ b.behind)) (sym k) ∙ take_front (batch_chain chain b.entries) (10 ∷ b.behind)

module _ (table : List Tenant) (come known : Option (List ℕ)) (from : Place) (shown lines held : List ℕ) (size : ℕ) (old : State) (l : lines ≡ take size shown) (s : shown ≡ held) (b : StartsBatch from.chain size held) (k : Keeps come (prepend_known held known)) where
  pub took : (c : IsChain from.chain) (rest left : List ℕ) (new : State) (counts : ℕ) (to : Place) → rest ≡ drop size shown → left ≡ drop (size + 17) held → ReplaysLines table from.chain lines old new from.count counts
      → to.chain ≡ take 16 rest → to.count ≡ counts → to.bytes ≡ from.bytes + (size + 17) → TakesBatch table come (prepend_known left known) old new from to
  took c rest left new counts to rs d r ch n y =
      let same : r.entries ≡ b.entries = one_lines from.chain r.entries b.entries c r.fit b.is.fit (sym r.lines_are ∙ lines_of_batch from.chain shown lines held size b l s b) in
      record {
        entries = b.entries;
        is = b.is;
        consumed = held_less known come held (batch from.chain b.entries) left k (b.held_is ∙ ap (λ t. batch from.chain b.entries ++ t) (sym (d ∙ left_of_batch from.chain held size b)));
        chain_is = ch ∙ chain_there from.chain shown rest held size rs s b;
        replayed = subst (λ es. Replayed table es old new) same r.replayed;
        count_is = n ∙ r.count_is ∙ ap (λ es. counted (from.count + length es)) same;
        bytes_are = omega (arith, y, b.size_is, batch_size from.chain b.entries);
      }

  pub stopped : (c : IsChain from.chain) (at : ℕ) (unfit : Unfit) → StopsInLines table from.chain lines old from.count at unfit → StopsInBatch table come from.chain old from.count at unfit
  stopped c at unfit r =
      let same : b.entries ≡ r.before ++ r.entry ∷ r.after = one_lines from.chain b.entries _ c b.is.fit r.fit (sym (lines_of_batch from.chain shown lines held size b l s b) ∙ r.lines_are) in
      record {
        before = r.before;
        entry = r.entry;
        after = r.after;
        is = subst (IsBatch from.chain) same b.is;
        left = prepend_known b.behind known;
        starts = subst (λ es. Consumes come (prepend_known b.behind known) (batch from.chain es)) same (held_less known come held (batch from.chain b.entries) b.behind k b.held_is);
        state = r.state;
        replayed = r.replayed;
        misfits = r.misfits;
        at_is = r.at_is;
      }

  -- the place behind the batch would be too far
  pub too_far : 2 ^ 64 ≤ from.bytes + (size + 17) → IfSome come (λ text. 2 ^ 64 ≤ from.bytes + length text)
  too_far h = far_text come known held (batch from.chain b.entries) b.behind (from.bytes) (size + 17) (2 ^ 64) k b.held_is (omega (arith, b.size_is, batch_size from.chain b.entries)) h

-- ---- all batches

entries_more : (batches : List (List Entry)) (es : List Entry) → all_entries (batches ++ es ∷ []) ≡ all_entries batches ++ es
entries_more [] es = append-nil es
entries_more (x ∷ batches) es = ap (λ t. x ++ t) (entries_more batches es) ∙ sym (append_assoc x (all_entries batches) es)

pub recovering_none : (table : List Tenant) (come : Option (List ℕ)) (state : State) (place : Place) → IsFirst place → state ≡ opening table → Recovering table come come 0 state place
recovering_none table come state place f s = record {
  batches = [];
  are = tt;
  consumed = Consumes-nil come;
  chain_is = f.0;
  replayed = subst (λ t. Replayed table [] (opening table) t) (sym s) (replayed_none table (opening table));
  number_is = refl;
  count_is = f.1;
  bytes_are = f.2;
}

pub is_chain : (table : List Tenant) (before come : Option (List ℕ)) (number : ℕ) (state : State) (place : Place) → Recovering table before come number state place → IsChain place.chain
is_chain table before come number state place r = subst IsChain (sym r.chain_is) (behind_is_chain first_chain r.batches first_is_chain)

recovering_more : (table : List Tenant) (before come left : Option (List ℕ)) (number : ℕ) (old new : State) (from to : Place) → Recovering table before come number old from → TakesBatch table come left old new from to
    → Recovering table before left (number + 1) new to
recovering_more table before come left number old new from to r t =
    let one : batch from.chain t.entries ≡ batch (chain_behind first_chain r.batches) t.entries = ap (λ c. batch c t.entries) r.chain_is in
    let more : written first_chain (r.batches ++ t.entries ∷ []) ≡ written first_chain r.batches ++ batch from.chain t.entries = written_more first_chain r.batches t.entries ∙ ap (λ b. written first_chain r.batches ++ b) (sym one) in
    record {
      batches = r.batches ++ t.entries ∷ [];
      are = are_more first_chain r.batches t.entries r.are (subst (λ c. IsBatch c t.entries) r.chain_is t.is);
      consumed = subst (Consumes before left) (sym more) (Consumes-trans before come left _ _ r.consumed t.consumed);
      chain_is = t.chain_is ∙ ap (λ c. batch_chain c t.entries) r.chain_is ∙ sym (behind_more first_chain r.batches t.entries);
      replayed = subst (λ es. Replayed table es (opening table) new) (sym (entries_more r.batches t.entries)) (replayed_joined table (all_entries r.batches) t.entries (opening table) old new r.replayed t.replayed);
      number_is = omega (arith, r.number_is, length-append r.batches (t.entries ∷ []));
      count_is = omega (arith, r.count_is, t.count_is, ap length (entries_more r.batches t.entries) ∙ length-append (all_entries r.batches) t.entries);
      bytes_are = omega (
        arith,
        t.bytes_are,
        r.bytes_are,
        length-append heading (written first_chain r.batches),
        length-append heading (written first_chain (r.batches ++ t.entries ∷ [])),
        ap length more ∙ length-append (written first_chain r.batches) (batch from.chain t.entries),
      );
    }

pub recovering_on : (table : List Tenant) (before come left : Option (List ℕ)) (number : ℕ) (old new : State) (from to : Place) (more : Bool) → Recovering table before come number old from → more ≡ true → Takes table come left old new from to more
    → Recovering table before left (number + 1) new to
recovering_on table before come left number old new from to more r e t = recovering_more table before come left number old new from to r (subst (Takes table come left old new from to) e t)

-- ---- the whole file

whole : (file before come left : Option (List ℕ)) (chain : List ℕ) (batches : List (List Entry)) → Consumes file before heading → AreBatches first_chain batches → chain ≡ chain_behind first_chain batches → Consumes before come (written first_chain batches) → Keeps come left
    → IfSome left (λ text. NoBatch chain text) → IfSome left HidesNone → IfSome file (λ text. IsWhole text batches)
whole None before come left chain batches h a c p k n m = tt
whole (Some t) None come left chain batches h a c p k n m = absurd h
whole (Some t) (Some xs) None left chain batches h a c p k n m = absurd p
whole (Some t) (Some xs) (Some ys) None chain batches h a c p k n m = absurd k
whole (Some t) (Some xs) (Some ys) (Some zs) chain batches h a c p k n m = (ys, (xs, h, record { text_is = p; are = a; none = subst (λ x. NoBatch x ys) c (subst (NoBatch chain) k n) }), subst HidesNone k m)

recovered : (table : List Tenant) (file before come left : Option (List ℕ)) (number : ℕ) (old : State) (from : Place) (state : State) (r : Recovered) → Consumes file before heading → Recovering table before come number old from → Keeps come left
    → IfSome left (λ text. NoBatch from.chain text) → IfSome left HidesNone → state ≡ old → r.chain ≡ from.chain → r.batches ≡ number → r.count ≡ from.count → r.bytes ≡ from.bytes → Recovers table file state r
recovered table file before come left number old from state r h s k n m core chain batches count bytes = record {
  batches = s.batches;
  whole = whole file before come left from.chain s.batches h s.are s.chain_is s.consumed k n m;
  chain_is = chain ∙ s.chain_is;
  replayed = subst (λ t. Replayed table (all_entries s.batches) (opening table) t) (sym core) s.replayed;
  number_is = batches ∙ s.number_is;
  count_is = count ∙ s.count_is;
  bytes_are = bytes ∙ s.bytes_are;
}

-- so many bytes of the file are taken, and the rest has so many
far : (file before come : Option (List ℕ)) (batches : List (List Entry)) (bytes limit : ℕ) → Consumes file before heading → Consumes before come (written first_chain batches) → bytes ≡ length (file_of batches) → IfSome come (λ text. limit ≤ bytes + length text)
    → IfSome file (λ text. limit ≤ length text)
far None before come batches bytes limit h p b s = tt
far (Some t) None come batches bytes limit h p b s = absurd h
far (Some t) (Some xs) None batches bytes limit h p b s = absurd p
far (Some t) (Some xs) (Some ys) batches bytes limit h p b s =
    omega (arith, s, b, ap length h ∙ length-append heading xs, ap length p ∙ length-append (written first_chain batches) ys, length-append heading (written first_chain batches))

weaker : (come : Option (List ℕ)) (P Q : List ℕ → Type 0) → ((x : List ℕ) → P x → Q x) → IfSome come P → IfSome come Q
weaker None P Q f h = tt
weaker (Some x) P Q f h = f x h

too_long : (file : Option (List ℕ)) → IfSome file (λ text. 2 ^ 64 ≤ length text) → TooLong file
too_long file h = weaker file (λ text. 2 ^ 64 ≤ length text) (λ text. 2 ^ 64 - 1 ≤ length text) (λ x l. omega (arith, l)) h

pub failed : (table : List Tenant) (file before come : Option (List ℕ)) (number : ℕ) (state : State) (place : Place) (over : Bool) (fault : RecoveryFault) → Consumes file before heading → Recovering table before come number state place → StopsIn table come state place over fault
    → Fails table file over fault
failed table file before come number state place over OtherFormat h r s = absurd s
failed table file before come number state place over (Record stop) h r s = record {
  batches = r.batches;
  are = r.are;
  come = come;
  consumed = Consumes-trans file before come heading (written first_chain r.batches) h r.consumed;
  state = state;
  replayed = r.replayed;
  count = place.count;
  count_is = r.count_is;
  stops = subst (λ c. StopsInBatch table come c state place.count stop.at stop.unfit) r.chain_is s;
}
failed table file before come number state place over (Damaged bytes) h r s = absurd s
failed table file before come number state place over Failed h r s = s
failed table file before come number state place over NoMemory h r s = tt
failed table file before come number state place over TooMany h r s = too_long file (far file before come r.batches place.bytes (2 ^ 64) h r.consumed r.bytes_are s)

damaged : (file before come left : Option (List ℕ)) (chain : List ℕ) (batches : List (List Entry)) (bytes : ℕ) → Consumes file before heading → AreBatches first_chain batches → chain ≡ chain_behind first_chain batches → Consumes before come (written first_chain batches) → Keeps come left
    → IfSome left (λ text. NoBatch chain text) → IfSome left Hides → bytes ≡ length (file_of batches) → IfSome file (IsDamaged bytes)
damaged None before come left chain batches bytes h a c p k n m b = tt
damaged (Some t) None come left chain batches bytes h a c p k n m b = absurd h
damaged (Some t) (Some xs) None left chain batches bytes h a c p k n m b = absurd p
damaged (Some t) (Some xs) (Some ys) None chain batches bytes h a c p k n m b = absurd k
damaged (Some t) (Some xs) (Some ys) (Some zs) chain batches bytes h a c p k n m b = record {
  batches = batches;
  rest = ys;
  is = (xs, h, record { text_is = p; are = a; none = subst (λ x. NoBatch x ys) c (subst (NoBatch chain) k n) });
  hides = subst Hides k m;
  bytes_are = b;
}

kept_long : (come left : Option (List ℕ)) (limit : ℕ) (bytes : ℕ) → Keeps come left → IfSome left (λ text. limit ≤ length text) → IfSome come (λ text. limit ≤ bytes + length text)
kept_long None left limit bytes k h = tt
kept_long (Some x) None limit bytes k h = absurd k
kept_long (Some x) (Some y) limit bytes k h = omega (arith, h, ap length k)

-- no batch is left, and whether what is left hides one isn't found out, or it does, or not
module _ (table : List Tenant) (file before come left : Option (List ℕ)) (number : ℕ) (old new : State) (from to : Place) (more : Bool) (h : Consumes file before heading) (r : Recovering table before come number old from) (e : more ≡ false) (t : Takes table come left old new from to more) where
  n : NothingLeft come left old new from to
  n = subst (Takes table come left old new from to) e t

  pub ends_unknown : (over : Bool) (fault : RecoveryFault) → GivesUp left over fault → Fails table file over fault
  ends_unknown over OtherFormat s = absurd s
  ends_unknown over (Record stop) s = absurd s
  ends_unknown over (Damaged bytes) s = absurd s
  ends_unknown over Failed s = s
  ends_unknown over NoMemory s = tt
  ends_unknown over TooMany s = far file before come r.batches from.bytes (2 ^ 64 - 1) h r.consumed r.bytes_are (kept_long come left (2 ^ 64 - 1) from.bytes n.kept s)

  pub ends_damaged : (found : Bool) → found ≡ true → Finds left found → IfSome file (IsDamaged to.bytes)
  ends_damaged found f hides = damaged file before come left from.chain r.batches to.bytes h r.are r.chain_is r.consumed n.kept n.none (subst (Finds left) f hides) (ap (λ (p : Place). p.bytes) n.place_is ∙ r.bytes_are)

  pub ends_whole : (found : Bool) → found ≡ false → Finds left found → Recovers table file new (record { chain = to.chain; batches = number; count = to.count; bytes = to.bytes })
  ends_whole found f hides = recovered table file before come left number old from new (record { chain = to.chain; batches = number; count = to.count; bytes = to.bytes }) h r n.kept n.none (subst (Finds left) f hides) n.state_is (ap (λ (p : Place). p.chain) n.place_is) refl
      (ap (λ (p : Place). p.count) n.place_is) (ap (λ (p : Place). p.bytes) n.place_is)

-- there are as many bytes as batches
batches_size : (chain : List ℕ) (batches : List (List Entry)) → length batches ≤ length (written chain batches)
batches_size chain [] = omega arith
batches_size chain (es ∷ batches) = omega (arith, batches_size (batch_chain chain es) batches, length-append (batch chain es) (written (batch_chain chain es) batches), batch_size chain es)

long_file : (file before come : Option (List ℕ)) (batches : List (List Entry)) (limit : ℕ) → Consumes file before heading → Consumes before come (written first_chain batches) → limit ≤ length batches → IfSome file (λ text. limit ≤ length text)
long_file None before come batches limit h p l = tt
long_file (Some t) None come batches limit h p l = absurd h
long_file (Some t) (Some xs) None batches limit h p l = absurd p
long_file (Some t) (Some xs) (Some ys) batches limit h p l =
    omega (arith, l, batches_size first_chain batches, ap length h ∙ length-append heading xs, ap length p ∙ length-append (written first_chain batches) ys)

pub too_many : (table : List Tenant) (file before come : Option (List ℕ)) (number : ℕ) (state : State) (place : Place) → Consumes file before heading → number ≡ 2 ^ 64 - 1 → Recovering table before come number state place → TooLong file
too_many table file before come number state place h n r = long_file file before come r.batches (2 ^ 64 - 1) h r.consumed (omega (arith, n, r.number_is))

-- ---- where no more is read, and the beginning

-- nothing is held yet
nothing_held : (ahead : List ℕ) (known : Option (List ℕ)) → ahead ≡ [] → prepend_known ahead known ≡ known
nothing_held ahead None e = refl
nothing_held ahead (Some x) e = ap (λ t. Some (t ++ x)) e

pub opens_new : (table : List Tenant) (ahead : List ℕ) (file left : Option (List ℕ)) (state : State) (begun : Bool) → ahead ≡ [] → begun ≡ false → Begins (prepend_known ahead file) left begun → state ≡ opening table
    → Opens table file state (record { chain = first_chain; batches = 0; count = 0; bytes = 0 })
opens_new table ahead file left state begun e f b is =
    record { new = subst (λ t. IfSome t IsNew) (nothing_held ahead file e) (subst (Begins (prepend_known ahead file) left) f b); chain_is = refl; state_is = is; none = (refl, refl, refl) }

pub heading_first : (ahead : List ℕ) (file left : Option (List ℕ)) (begun : Bool) → ahead ≡ [] → begun ≡ true → Begins (prepend_known ahead file) left begun → Consumes file left heading
heading_first ahead file left begun e f b = subst (λ t. Consumes t left heading) (nothing_held ahead file e) (subst (Begins (prepend_known ahead file) left) f b)

pub or_opens : (table : List Tenant) (file : Option (List ℕ)) (state : State) (over : Bool) (r : Result Recovered RecoveryFault) → MatchResult r (Recovers table file state) (Fails table file over) → IfOk r (λ x. Recovers table file state x ⊎ Opens table file state x)
or_opens table file state over (Ok x) h = inl h
or_opens table file state over (Err e) h = tt

pub or_fails : (table : List Tenant) (file : Option (List ℕ)) (state : State) (over : Bool) (r : Result Recovered RecoveryFault) → MatchResult r (Recovers table file state) (Fails table file over) → IfErr r (Fails table file over)
or_fails table file state over (Ok x) h = tt
or_fails table file state over (Err e) h = h

fails_first : (table : List Tenant) (file : Option (List ℕ)) (over : Bool) (fault : RecoveryFault) → IsNoFile file over fault → Fails table file over fault
fails_first table file over OtherFormat s = s
fails_first table file over (Record stop) s = absurd s
fails_first table file over (Damaged bytes) s = absurd s
fails_first table file over Failed s = s
fails_first table file over NoMemory s = s
fails_first table file over TooMany s = absurd s

pub fails_at_first : (table : List Tenant) (ahead : List ℕ) (file : Option (List ℕ)) (over : Bool) (fault : RecoveryFault) → ahead ≡ [] → IsNoFile (prepend_known ahead file) over fault → Fails table file over fault
fails_at_first table ahead file over fault e s = fails_first table file over fault (subst (λ t. IsNoFile t over fault) (nothing_held ahead file e) s)

-- ---- where no more is read behind some batches

pub stops_in : (table : List Tenant) (come : Option (List ℕ)) (old : State) (place : Place) (over : Bool) (fault : RecoveryFault) → Stops over fault → StopsIn table come old place over fault
stops_in table come old place over OtherFormat s = s
stops_in table come old place over (Record stop) s = absurd s
stops_in table come old place over (Damaged bytes) s = s
stops_in table come old place over Failed s = s
stops_in table come old place over NoMemory s = s
stops_in table come old place over TooMany s = absurd s

pub nothing_left : (table : List Tenant) (come after : Option (List ℕ)) (held : List ℕ) (old : State) (place : Place) (front : Front) → Fronts place.chain come held after front → front.is_batch ≡ false → NothingLeft come (prepend_known held after) old old place place
nothing_left table come after held old place front f b = record { kept = f.kept; none = f.none b; place_is = refl; state_is = refl }
