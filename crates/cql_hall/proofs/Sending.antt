-- A tenant's receipts by number and by place, and the first of them that fails.
use Rattle.std.proofs.Common.{◌≡◌, ℕ, ◌+◌, ◌<◌, ◌≤◌, Bool, true, false, ◌&&◌, not, ◌==◌, List, [], ◌∷◌, ◌++◌, map, set, length, get_or, take, zero, suc, refl, ap, ◌∙◌, sym, subst, arith, append_assoc, ◌⊎◌, inl, inr}
use Rattle.std.specs.Prelude.{Option, Some, None, IfSome, IsSomeAnd, All, Contains, filter, MatchOption, is_some, slice_get, unwrap_or, if◌then◌else◌, nat_lt}
use Rattle.std.specs.Bool.{Decides}
use Rattle.std.proofs.lemmas.Bool.{cases_eq}
use Rattle.std.proofs.lemmas.Bool.Decides.{nat_tests}
use Rattle.std.proofs.lemmas.List.{append-nil, map-append, map-set, length-map, get_or-set_same, get_or-set_other}
use Rattle.std.proofs.lemmas.List.Elements.{All-nil, All-cons, All-head, All-tail, All-append, All-push, All-weaker, All-contains, Contains-push, Contains-append_left, filter-append}
use Rattle.std.proofs.lemmas.Option.{slice_get_within, get_or_from_slice_get}
use Rattle.cql_core.specs.Machine.{State, opening, Stepped}
use Rattle.cql_core.specs.Journal.{Noted}
use Rattle.cql_hall.specs.Audit.{Journal, Heard, is_want}
use Rattle.cql_hall.specs.Alone.{IsToldAlone, alone_before, HoldsAlone, AgreesAlone, FirstFailsAlone}
use Rattle.cql_hall.specs.Tells.{told_to, replayed_alone}
use Rattle.cql_hall.specs.Tracks.{is_at}
use Rattle.cql_hall.specs.Sent.{Sent, sent_of, is_sent, sent_by, IsTold, is_before, FailsFirst, IsWithin, MissesFirst, numbers_at, AreNumbers, Replies, FailsAmong}
use Rattle.cql_hall.proofs.Lookups.{get_within, get_map}
use Rattle.cql_hall.proofs.Telling.{told_here}

-- RECEIPTS THAT WERE SENT
pub sent_more : (t : ℕ) (xs ys : List Heard) → sent_by t (xs ++ ys) ≡ sent_by t xs ++ sent_by t ys
sent_more t xs ys = ap (map sent_of) (filter-append (λ h. is_sent t h.call) xs ys) ∙ map-append sent_of (filter (λ h. is_sent t h.call) xs) (filter (λ h. is_sent t h.call) ys)

is_own : (t u : ℕ) (reply : Stepped) → u ≡ t → is_want reply ≡ false → ((u == t) && not (is_want reply)) ≡ true
is_own t u reply own sent = let same : (u == t) ≡ true = grind (arith, nat_tests) in λ i. same i && not (sent i)

own_parts : (a b : Bool) → (a && not b) ≡ true → (a ≡ true) × (b ≡ false)
own_parts true true h = absurd (cc h)
own_parts true false h = (refl, refl)
own_parts false b h = absurd (cc h)

passed : (t : ℕ) (journal : Journal) (h : Heard) → is_sent t h.call ≡ false → AgreesAlone t journal h
passed t journal h unsent = λ own sent. absurd (let is = is_own t h.call.tenant h.call.reply own sent in cc (unsent, is))

asked : (t : ℕ) (journal : Journal) (h : Heard) → is_sent t h.call ≡ true → AgreesAlone t journal h → IsTold t journal (sent_of h)
asked t journal h sent agrees =
    let parts = own_parts (h.call.tenant == t) (is_want h.call.reply) sent in
    let own : h.call.tenant ≡ t = grind (arith, nat_tests, parts.0) in
    agrees own parts.1

pub sent_one : (t : ℕ) (xs : List Heard) (h : Heard) (b : Bool) → is_sent t h.call ≡ b → sent_by t (xs ++ h ∷ []) ≡ sent_by t xs ++ (if b then sent_of h ∷ [] else [])
sent_one t xs h true e = sent_more t xs (h ∷ []) ∙ ap (λ c. sent_by t xs ++ map sent_of (if c then h ∷ [] else [])) e
sent_one t xs h false e = sent_more t xs (h ∷ []) ∙ ap (λ c. sent_by t xs ++ map sent_of (if c then h ∷ [] else [])) e

-- where none fails all agree
all_by : (t : ℕ) (journal : Journal) (h : Heard) (hs : List Heard) (b : Bool) → is_sent t h.call ≡ b
    → ((j : ℕ) (s : Sent) → slice_get (map sent_of (if b then h ∷ filter (λ g. is_sent t g.call) hs else filter (λ g. is_sent t g.call) hs)) j ≡ Some s → IsTold t journal s)
    → AgreesAlone t journal h × ((j : ℕ) (s : Sent) → slice_get (sent_by t hs) j ≡ Some s → IsTold t journal s)
all_by t journal h hs true e f = (λ own sent. f zero (sent_of h) refl, λ j s at. f (suc j) s at)
all_by t journal h hs false e f = (passed t journal h e, f)

all_agree : (t : ℕ) (journal : Journal) (hs : List Heard) → ((j : ℕ) (s : Sent) → slice_get (sent_by t hs) j ≡ Some s → IsTold t journal s) → All (AgreesAlone t journal) hs
all_agree t journal [] f = All-nil (AgreesAlone t journal)
all_agree t journal (h ∷ hs) f =
    let both = all_by t journal h hs (is_sent t h.call) refl f in
    All-cons (AgreesAlone t journal) h hs both.0 (all_agree t journal hs both.1)

pub none_fails : (t : ℕ) (journal : Journal) (hs : List Heard) (sent : List Sent) (first : Option ℕ) → sent ≡ sent_by t hs → first ≡ None → FailsFirst t journal sent first → All (AgreesAlone t journal) hs
none_fails t journal hs sent first is none f =
    all_agree t journal hs (λ j s at. f.holds j s (ap (λ z. slice_get z j) is ∙ at) (ap (is_before j) none))

-- the first that fails
fails_cons : (t : ℕ) (journal : Journal) (h : Heard) (hs : List Heard) (p : ℕ) → AgreesAlone t journal h → FirstFailsAlone t journal hs p → FirstFailsAlone t journal (h ∷ hs) p
fails_cons t journal h hs p agrees f = record {
  front = h ∷ f.front;
  failing = f.failing;
  rest = f.rest;
  split = ap (λ z. h ∷ z) f.split;
  agree = All-cons (AgreesAlone t journal) h f.front agrees f.agree;
  fails = f.fails;
  at = f.at;
}

same_sent : (s u : Sent) → Some s ≡ Some u → s ≡ u
same_sent s u e = cc

first_by : (t : ℕ) (journal : Journal) (h : Heard) (hs : List Heard) (b : Bool) (k : ℕ) (s : Sent) → is_sent t h.call ≡ b
    → slice_get (map sent_of (if b then h ∷ filter (λ g. is_sent t g.call) hs else filter (λ g. is_sent t g.call) hs)) k ≡ Some s
    → ((j : ℕ) (u : Sent) → slice_get (map sent_of (if b then h ∷ filter (λ g. is_sent t g.call) hs else filter (λ g. is_sent t g.call) hs)) j ≡ Some u → j < k → IsTold t journal u)
    → ¬ IsTold t journal s
    → ((m : ℕ) → slice_get (sent_by t hs) m ≡ Some s → ((j : ℕ) (u : Sent) → slice_get (sent_by t hs) j ≡ Some u → j < m → IsTold t journal u) → FirstFailsAlone t journal hs (unwrap_or s.place 0))
    → FirstFailsAlone t journal (h ∷ hs) (unwrap_or s.place 0)
first_by t journal h hs true zero s e at f miss more = record {
  front = [];
  failing = h;
  rest = hs;
  split = refl;
  agree = All-nil (AgreesAlone t journal);
  fails = λ agrees. miss (subst (IsTold t journal) (same_sent (sent_of h) s at) (asked t journal h e agrees));
  at = ap (λ u. unwrap_or u.place 0) (sym (same_sent (sent_of h) s at));
}
first_by t journal h hs true (suc k) s e at f miss more =
    fails_cons t journal h hs (unwrap_or s.place 0) (λ own sent. f zero (sent_of h) refl (omega arith)) (more k at (λ j u is less. f (suc j) u is (omega arith)))
first_by t journal h hs false k s e at f miss more = fails_cons t journal h hs (unwrap_or s.place 0) (passed t journal h e) (more k at f)

first_fails : (t : ℕ) (journal : Journal) (hs : List Heard) (k : ℕ) (s : Sent) → slice_get (sent_by t hs) k ≡ Some s
    → ((j : ℕ) (u : Sent) → slice_get (sent_by t hs) j ≡ Some u → j < k → IsTold t journal u) → ¬ IsTold t journal s → FirstFailsAlone t journal hs (unwrap_or s.place 0)
first_fails t journal [] k s at f miss = absurd (cc at)
first_fails t journal (h ∷ hs) k s at f miss = first_by t journal h hs (is_sent t h.call) k s refl at f miss (λ m is g. first_fails t journal hs m s is g miss)

pub one_fails : (t : ℕ) (journal : Journal) (hs : List Heard) (sent : List Sent) (first : Option ℕ) (k : ℕ) (s : Sent) → sent ≡ sent_by t hs → first ≡ Some k → slice_get sent k ≡ Some s
    → FailsFirst t journal sent first → FirstFailsAlone t journal hs (unwrap_or s.place 0)
one_fails t journal hs sent first k s is some at f =
    let miss = subst (λ o. IsSomeAnd o (λ u. ¬ IsTold t journal u)) at (subst (λ o. IfSome o (λ number. IsSomeAnd (slice_get sent number) (λ u. ¬ IsTold t journal u))) some f.fails) in
    first_fails t journal hs k s (ap (λ z. slice_get z k) (sym is) ∙ at)
    (λ j u here less. let before : nat_lt j k ≡ true = grind (arith, nat_tests) in f.holds j u (ap (λ z. slice_get z j) is ∙ here) (ap (is_before j) some ∙ before))
    miss

pub fails_within : (t : ℕ) (journal : Journal) (sent : List Sent) (first : Option ℕ) (k : ℕ) → first ≡ Some k → FailsFirst t journal sent first → k < length sent
fails_within t journal sent first k some f =
    get_within sent k (λ u. ¬ IsTold t journal u) (subst (λ o. IfSome o (λ number. IsSomeAnd (slice_get sent number) (λ u. ¬ IsTold t journal u))) some f.fails)

-- THE NUMBERS OF A PLACE
pub numbers_more : (ss : List Sent) (s : Sent) (p n k : ℕ) → k ≡ n + length ss → numbers_at p n (ss ++ s ∷ []) ≡ numbers_at p n ss ++ (if is_at p s.place then k ∷ [] else [])
numbers_more [] s p n k e = append-nil (if is_at p s.place then n ∷ [] else []) ∙ ap (λ m. if is_at p s.place then m ∷ [] else []) (omega (arith, e))
numbers_more (x ∷ ss) s p n k e =
    ap (λ z. (if is_at p x.place then n ∷ [] else []) ++ z) (numbers_more ss s p (n + 1) k (omega (arith, e)))
    ∙ sym (append_assoc (if is_at p x.place then n ∷ [] else []) (numbers_at p (n + 1) ss) (if is_at p s.place then k ∷ [] else []))

one_by : (P : ℕ → Type 0) (n : ℕ) (b : Bool) → (b ≡ true → P n) → All P (if b then n ∷ [] else [])
one_by P n true h = All-cons P n [] (h refl) (All-nil P)
one_by P n false h = All-nil P

each_number : (P : ℕ → Type 0) (p : ℕ) (ss : List Sent) (n : ℕ) → ((k j : ℕ) (s : Sent) → k ≡ n + j → slice_get ss j ≡ Some s → is_at p s.place ≡ true → P k) → All P (numbers_at p n ss)
each_number P p [] n h = All-nil P
each_number P p (x ∷ ss) n h =
    All-append P (if is_at p x.place then n ∷ [] else []) (numbers_at p (n + 1) ss) (one_by P n (is_at p x.place) (λ e. h n zero x (omega arith) refl e))
    (each_number P p ss (n + 1) (λ k j s e at is. h k (suc j) s (omega (arith, e)) at is))

here_by : (P : ℕ → Type 0) (n : ℕ) (b : Bool) (ks : List ℕ) → b ≡ true → All P ((if b then n ∷ [] else []) ++ ks) → P n
here_by P n true ks e a = All-head P n ks a
here_by P n false ks e a = absurd (cc e)

rest_by : (P : ℕ → Type 0) (n : ℕ) (b : Bool) (ks : List ℕ) → All P ((if b then n ∷ [] else []) ++ ks) → All P ks
rest_by P n true ks a = All-tail P n ks a
rest_by P n false ks a = a

number_in : (P : ℕ → Type 0) (p : ℕ) (ss : List Sent) (n k j : ℕ) (s : Sent) → k ≡ n + j → slice_get ss j ≡ Some s → is_at p s.place ≡ true → All P (numbers_at p n ss) → P k
number_in P p [] n k j s e at is a = absurd (cc at)
number_in P p (x ∷ ss) n k zero s e at is a =
    subst P (let same : n ≡ k = omega (arith, e) in same) (here_by P n (is_at p x.place) (numbers_at p (n + 1) ss) (ap (λ u. is_at p u.place) (same_sent x s at) ∙ is) a)
number_in P p (x ∷ ss) n k (suc j) s e at is a = number_in P p ss (n + 1) k j s (omega (arith, e)) at is (rest_by P n (is_at p x.place) (numbers_at p (n + 1) ss) a)

place_is : (p : ℕ) (o : Option ℕ) → is_at p o ≡ true → o ≡ Some p
place_is p None h = absurd (cc h)
place_is p (Some q) h = let e : q ≡ p = grind (arith, nat_tests) in ap (λ x. Some x) e

pub numbers_below : (p : ℕ) (ss : List Sent) (count : ℕ) → length ss ≡ count → All (λ k. k < count) (numbers_at p 0 ss)
numbers_below p ss count sized = each_number (λ k. k < count) p ss 0 (λ k j s e at is. let within = slice_get_within ss j s at in omega (arith, e, within, sized))

placed : (p : ℕ) (ss : List Sent) → All (λ k. IsSomeAnd (slice_get ss k) (λ s. s.place ≡ Some p)) (numbers_at p 0 ss)
placed p ss = each_number (λ k. IsSomeAnd (slice_get ss k) (λ s. s.place ≡ Some p)) p ss 0 (λ k j s e at is.
    let same : j ≡ k = omega (arith, e) in
    subst (λ m. IsSomeAnd (slice_get ss m) (λ u. u.place ≡ Some p)) same (subst (λ o. IsSomeAnd o (λ u. u.place ≡ Some p)) (sym at) (place_is p s.place is)))

pub numbers_read : {V : Type 0} (f : V → List ℕ) (vs : List V) (count i : ℕ) (v : V) (ks : List ℕ) (ss : List Sent) → length vs ≡ count → i < count → v ≡ get_or vs i v → ks ≡ f v
    → AreNumbers count ss (map f vs) → ks ≡ numbers_at i 0 ss
numbers_read f vs count i v ks ss sized within is same are = same ∙ sym (get_or_from_slice_get (map f vs) i (f v) [] (get_map f vs i v (omega (arith, sized, within)) is)) ∙ are i within

get_by : {V : Type 0} (f : V → List ℕ) (vs : List V) (p q : ℕ) (v w : V) (k : ℕ) → q < length vs → w ≡ get_or vs q w → f v ≡ f w ++ k ∷ [] → (q ≡ p) ⊎ (q ≡ p → ⊥)
    → get_or (set (map f vs) q (f v)) p [] ≡ get_or (map f vs) p [] ++ (if q == p then k ∷ [] else [])
get_by f vs p q v w k within is grown (inl e) =
    let test : (q == p) ≡ true = grind (arith, nat_tests) in
    let here : get_or (map f vs) q [] ≡ f w = get_or_from_slice_get (map f vs) q (f w) [] (get_map f vs q w within is) in
    subst (λ n. get_or (set (map f vs) q (f v)) n [] ≡ get_or (map f vs) n [] ++ k ∷ []) e
    (get_or-set_same (map f vs) q (f v) [] (omega (arith, within, length-map vs f)) ∙ grown ∙ ap (λ ks. ks ++ k ∷ []) (sym here))
    ∙ ap (λ b. get_or (map f vs) p [] ++ (if b then k ∷ [] else [])) (sym test)
get_by f vs p q v w k within is grown (inr e) =
    let test : (q == p) ≡ false = grind (arith, nat_tests) in
    get_or-set_other (map f vs) q p (f v) [] (λ same. e (sym same)) ∙ sym (append-nil (get_or (map f vs) p [])) ∙ ap (λ b. get_or (map f vs) p [] ++ (if b then k ∷ [] else [])) (sym test)

-- one number is added to the list of its place
pub number_added : {V : Type 0} (f : V → List ℕ) (vs : List V) (o : Option ℕ) (q : ℕ) (v w : V) (k : ℕ) → o ≡ Some q → q < length vs → w ≡ get_or vs q w → f v ≡ f w ++ k ∷ [] → (p : ℕ)
    → get_or (map f (set vs q v)) p [] ≡ get_or (map f vs) p [] ++ (if is_at p o then k ∷ [] else [])
number_added f vs o q v w k at within is grown p =
    ap (λ ks. get_or ks p []) (map-set f vs q v) ∙ get_by f vs p q v w k within is grown (cases_eq q p) ∙ ap (λ z. get_or (map f vs) p [] ++ (if is_at p z then k ∷ [] else [])) (sym at)

-- THE FIRST OF SOME NUMBERS
-- one that fails and stands before the others
before_both : (k m : ℕ) (first : Option ℕ) → nat_lt k m ≡ true → is_before m first ≡ true → is_before k first ≡ true
before_both k m None less before = refl
before_both k m (Some n) less before = grind (arith, nat_tests)

not_itself : (m : ℕ) → nat_lt m m ≡ false
not_itself m = grind (arith, nat_tests)

pub among_new : (ss : List Sent) (tell : Option Stepped) (ks : List ℕ) (old first : Option ℕ) (m : ℕ) → is_before m first ≡ true → ¬ Replies ss tell m → FailsAmong ss tell ks old first
    → FailsAmong ss tell (ks ++ m ∷ []) old (Some m)
among_new ss tell ks old first m before miss f = record {
  least = λ k less. f.least k (before_both k m first less before);
  fails = inr (Contains-push ks m, miss);
  holds = All-push (λ k. nat_lt k m ≡ true → Replies ss tell k) ks m
      (All-weaker (λ k. is_before k first ≡ true → Replies ss tell k) (λ k. nat_lt k m ≡ true → Replies ss tell k) (λ k h less. h (before_both k m first less before)) ks f.holds)
      (λ less. absurd (let never = not_itself m in cc (less, never)));
}

-- one that is told, or doesn't stand before
kept_by : (ss : List Sent) (tell : Option Stepped) (ks : List ℕ) (old new : Option ℕ) (m : ℕ) → IfSome new (λ k. (old ≡ Some k) ⊎ (Contains ks k × ¬ Replies ss tell k))
    → IfSome new (λ k. (old ≡ Some k) ⊎ (Contains (ks ++ m ∷ []) k × ¬ Replies ss tell k))
kept_by ss tell ks old None m h = tt
kept_by ss tell ks old (Some k) m (inl e) = inl e
kept_by ss tell ks old (Some k) m (inr w) = inr (Contains-append_left ks (m ∷ []) k w.0, w.1)

pub among_same : (ss : List Sent) (tell : Option Stepped) (ks : List ℕ) (old first : Option ℕ) (m : ℕ) → (is_before m first ≡ true → Replies ss tell m) → FailsAmong ss tell ks old first
    → FailsAmong ss tell (ks ++ m ∷ []) old first
among_same ss tell ks old first m here f = record {
  least = f.least;
  fails = kept_by ss tell ks old first m f.fails;
  holds = All-push (λ k. is_before k first ≡ true → Replies ss tell k) ks m f.holds here;
}

pub replies_decide : (ss : List Sent) (tell : Option Stepped) (m : ℕ) (s : Sent) (b : Bool) → slice_get ss m ≡ Some s → Decides b (tell ≡ Some s.reply) → Decides b (Replies ss tell m)
replies_decide ss tell m s b at decides = subst (λ o. Decides b (IsSomeAnd o (λ u. tell ≡ Some u.reply))) (sym at) decides

-- RECEIPTS WITH A PLACE
pub within_of : (count : ℕ) (o r : Option ℕ) → MatchOption r (¬ IsWithin count o) (λ p. (o ≡ Some p) × (p < count)) → is_some r ≡ true → IsWithin count o
within_of count o None h some = absurd (cc some)
within_of count o (Some p) h some = subst (IsWithin count) (sym h.0) h.1

within_by : (ss : List Sent) (count i k : ℕ) (x s : Sent) → slice_get ss i ≡ Some x → IsWithin count x.place → ((k : ℕ) (s : Sent) → k < i → slice_get ss k ≡ Some s → IsWithin count s.place)
    → k < i + 1 → slice_get ss k ≡ Some s → (k ≡ i) ⊎ (k ≡ i → ⊥) → IsWithin count s.place
within_by ss count i k x s is here before less at (inl e) = subst (λ (u : Sent). IsWithin count u.place) (same_sent x s (sym is ∙ ap (slice_get ss) (sym e) ∙ at)) here
within_by ss count i k x s is here before less at (inr e) = before k s (omega (arith, less, e)) at

pub within_more : (ss : List Sent) (count i : ℕ) (x : Sent) → slice_get ss i ≡ Some x → IsWithin count x.place → ((k : ℕ) (s : Sent) → k < i → slice_get ss k ≡ Some s → IsWithin count s.place)
    → (k : ℕ) (s : Sent) → k < i + 1 → slice_get ss k ≡ Some s → IsWithin count s.place
within_more ss count i x is here before k s less at = within_by ss count i k x s is here before less at (cases_eq k i)

-- ENTRY BY ENTRY
-- a receipt has a place among the entries, and if its entry is one of the first so many it is told its reply there
abbrev pub IsToldBelow : ℕ → Journal → ℕ → Sent → Type 0
IsToldBelow t journal i s = IsSomeAnd s.place (λ place. (place < length journal.entries) × (place < i → HoldsAlone t journal place s.reply))

-- what the first entries say of the first receipt that fails
pub record FailsSoFar (t : ℕ) (journal : Journal) (i : ℕ) (sent : List Sent) (first : Option ℕ) : Type 0 where
  pub fails : IfSome first (λ number. IsSomeAnd (slice_get sent number) (λ s. ¬ IsTold t journal s))
  pub holds : (number : ℕ) (s : Sent) → slice_get sent number ≡ Some s → is_before number first ≡ true → IsToldBelow t journal i s

some_weaker : {A : Type 0} (P Q : A → Type 0) (o : Option A) → ((x : A) → P x → Q x) → IsSomeAnd o P → IsSomeAnd o Q
some_weaker P Q None f h = h
some_weaker P Q (Some x) f h = f x h

if_weaker : {A : Type 0} (P Q : A → Type 0) (o : Option A) → ((x : A) → P x → Q x) → IfSome o P → IfSome o Q
if_weaker P Q None f h = h
if_weaker P Q (Some x) f h = f x h

told_within : (t : ℕ) (journal : Journal) (reply : Stepped) (o : Option ℕ) → IsSomeAnd o (λ p. HoldsAlone t journal p reply) → IsWithin (length journal.entries) o
told_within t journal reply o = some_weaker (λ p. HoldsAlone t journal p reply) (λ p. p < length journal.entries) o (λ p h. get_within journal.entries p (IsToldAlone t (alone_before t journal p) reply) h)

pub so_far_none : (t : ℕ) (journal : Journal) (ss : List Sent) (first : Option ℕ) (count : ℕ) → count ≡ length journal.entries → MissesFirst count ss first → FailsSoFar t journal 0 ss first
so_far_none t journal ss first count sized m = record {
  fails = if_weaker (λ k. IsSomeAnd (slice_get ss k) (λ s. ¬ IsWithin count s.place)) (λ k. IsSomeAnd (slice_get ss k) (λ s. ¬ IsTold t journal s)) first
      (λ k. some_weaker (λ (s : Sent). ¬ IsWithin count s.place) (λ s. ¬ IsTold t journal s) (slice_get ss k)
      (λ s miss w. miss (subst (λ n. IsWithin n s.place) (sym sized) (told_within t journal s.reply s.place w)))) m.fails;
  holds = λ k s at before. some_weaker (λ p. p < count) (λ p. (p < length journal.entries) × (p < 0 → HoldsAlone t journal p s.reply)) s.place
      (λ p less. (omega (arith, less, sized), λ none. absurd (omega (arith, none)))) (m.holds k s at before);
}

pub so_far_all : (t : ℕ) (journal : Journal) (i : ℕ) (ss : List Sent) (first : Option ℕ) → length journal.entries ≤ i → FailsSoFar t journal i ss first → FailsFirst t journal ss first
so_far_all t journal i ss first all f = record {
  fails = f.fails;
  holds = λ k s at before. some_weaker (λ p. (p < length journal.entries) × (p < i → HoldsAlone t journal p s.reply)) (λ p. HoldsAlone t journal p s.reply) s.place
      (λ p both. both.1 (omega (arith, all, both.0))) (f.holds k s at before);
}

-- one entry more
module _ (t : ℕ) (journal : Journal) (i : ℕ) (n : Noted) (s : State) (tell : Option Stepped) (ss : List Sent)
    (at : slice_get journal.entries i ≡ Some n) (state : s ≡ replayed_alone t (opening journal.table) (take i journal.entries)) (told : tell ≡ told_to t s n) where
  fails_there : (k : ℕ) (o : Option Sent) → IsSomeAnd o (λ u. u.place ≡ Some i) → ¬ IsSomeAnd o (λ u. tell ≡ Some u.reply) → IsSomeAnd o (λ u. ¬ IsTold t journal u)
  fails_there k None there miss = absurd there
  fails_there k (Some u) there miss = λ w.
      miss (told ∙ (told_here t journal i n s u.reply at state).1 (subst (λ o. IsSomeAnd o (λ p. HoldsAlone t journal p u.reply)) there w))

  fails_more : (old new : Option ℕ) → IfSome old (λ k. IsSomeAnd (slice_get ss k) (λ u. ¬ IsTold t journal u))
      → IfSome new (λ k. (old ≡ Some k) ⊎ (Contains (numbers_at i 0 ss) k × ¬ Replies ss tell k)) → IfSome new (λ k. IsSomeAnd (slice_get ss k) (λ u. ¬ IsTold t journal u))
  fails_more old None before now = tt
  fails_more old (Some k) before (inl same) = subst (λ o. IfSome o (λ k. IsSomeAnd (slice_get ss k) (λ u. ¬ IsTold t journal u))) same before
  fails_more old (Some k) before (inr here) =
      fails_there k (slice_get ss k) (All-contains (λ k. IsSomeAnd (slice_get ss k) (λ u. u.place ≡ Some i)) (numbers_at i 0 ss) k (placed i ss) here.0) here.1

  holds_by : (u : Sent) (p : ℕ) → u.place ≡ Some p → (p < length journal.entries) × (p < i → HoldsAlone t journal p u.reply) → (is_at i u.place ≡ true → tell ≡ Some u.reply) → p < i + 1 → (p ≡ i) ⊎ (p ≡ i → ⊥)
      → HoldsAlone t journal p u.reply
  holds_by u p is below here less (inl same) =
      let test : (p == i) ≡ true = grind (arith, nat_tests) in
      subst (λ q. HoldsAlone t journal q u.reply) (sym same) ((told_here t journal i n s u.reply at state).0 (sym told ∙ here (ap (is_at i) is ∙ test)))
  holds_by u p is below here less (inr other) = below.1 (omega (arith, less, other))

  holds_more : (u : Sent) (o : Option ℕ) → u.place ≡ o → IsSomeAnd o (λ p. (p < length journal.entries) × (p < i → HoldsAlone t journal p u.reply)) → (is_at i u.place ≡ true → tell ≡ Some u.reply)
      → IsSomeAnd o (λ p. (p < length journal.entries) × (p < i + 1 → HoldsAlone t journal p u.reply))
  holds_more u None is below here = below
  holds_more u (Some p) is below here = (below.0, λ less. holds_by u p is below here less (cases_eq p i))

  replies_there : (k : ℕ) (u : Sent) → slice_get ss k ≡ Some u → Replies ss tell k → tell ≡ Some u.reply
  replies_there k u is replies = subst (λ o. IsSomeAnd o (λ v. tell ≡ Some v.reply)) is replies

  pub so_far_more : (old new : Option ℕ) → FailsAmong ss tell (numbers_at i 0 ss) old new → FailsSoFar t journal i ss old → FailsSoFar t journal (i + 1) ss new
  so_far_more old new among f = record {
    fails = fails_more old new f.fails among.fails;
    holds = λ k u is before. holds_more u u.place refl (f.holds k u is (among.least k before))
        (λ here. replies_there k u is (number_in (λ m. is_before m new ≡ true → Replies ss tell m) i ss 0 k k u (omega arith) is here among.holds before));
  }
