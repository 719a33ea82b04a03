-- When an answer may be begun.
use Rattle.std.proofs.Common.{◌≡◌, ℕ, ◌<◌, ◌≤◌, Bool, true, false, not, length, refl, arith, slice_index_or}
use Rattle.std.specs.Prelude.{◌&&◌, ◌||◌, ◌==◌, ◌-◌, ◌/◌, if◌then◌else◌, max, nat_lt, Option, None, Some, IfNone}
use borrow.Author.Tests.{ltb-true}
use Rattle.std.specs.List.{position}
use Rattle.std.proofs.lemmas.List.Quantifiers.{position-Some}
use Rattle.cql_connections.specs.declared.run_queue.RunQueue.{RunQueue}
use Rattle.cql_connections.specs.Queues.{busy_with, is_alone, may_begin, most_for}

first : (a b : Bool) → (a && b) ≡ true → a ≡ true
first true b e = refl
first false b e = e

third : (a b c d : Bool) → (a && (b && (c && d))) ≡ true → c ≡ true
third true true true d e = refl
third true true false d e = absurd (cc)
third true false c d e = absurd (cc)
third false b c d e = absurd (cc)

parts : (a b c d e : Bool) → (a && (b && (c && (d && e)))) ≡ true → d ≡ true
parts true true true true e h = refl
parts true true true false e h = absurd (cc)
parts true true false d e h = absurd (cc)
parts true false c d e h = absurd (cc)
parts false b c d e h = absurd (cc)

all_or : (b : Bool) (m n : ℕ) → (if b then n else m) ≤ max m n
all_or true m n = grind arith
all_or false m n = grind arith

module _ {T : Type 0} (q : RunQueue T) (owner : ℕ) where
  pub is_free : may_begin q owner ≡ true → q.busy < max q.shared q.most
  unfolding may_begin
  is_free may =
      let h = ltb-true q.busy (most_for q owner) (third (nat_lt owner (length q.busy_of.items)) (not (slice_index_or q.held_up.items owner false)) (nat_lt q.busy (most_for q owner)) _ may) in
      let few = all_or ((busy_with q owner == 0) && nat_lt (slice_index_or q.spent.items owner 0) 50000000) q.shared q.most in
      omega (arith, h, few)

  pub is_known : may_begin q owner ≡ true → owner < length q.busy_of.items
  unfolding may_begin
  is_known may = ltb-true _ _ (first _ _ may)

  pub is_few : may_begin q owner ≡ true → busy_with q owner < q.shared
  unfolding may_begin
  is_few may = ltb-true (busy_with q owner) q.shared (parts (nat_lt owner (length q.busy_of.items)) (not (slice_index_or q.held_up.items owner false)) (nat_lt q.busy (most_for q owner)) (nat_lt (busy_with q owner) q.shared) (nat_lt (busy_with q owner) (q.shared - q.shared / 2) || is_alone owner q.answers.order) may)

module _ {T : Type 0} (q : RunQueue T) (at d : ℕ) where
  pub found_within : position (λ owner. may_begin q owner) q.answers.order ≡ Some at → at < length q.answers.order
  found_within e = (position-Some (λ owner. may_begin q owner) q.answers.order at 0 e).0

  pub found_may : position (λ owner. may_begin q owner) q.answers.order ≡ Some at → may_begin q (slice_index_or q.answers.order at d) ≡ true
  found_may e = (position-Some (λ owner. may_begin q owner) q.answers.order at d e).1

pub begins : (b c : Bool) → (b || not (not c)) ≡ (b || c)
begins true c = refl
begins false true = refl
begins false false = refl

-- what holds where there is nothing, by what does
pub if_none : {A P Q : Type 0} (r : Option A) → (P → Q) → IfNone r P → IfNone r Q
if_none None f p = f p
if_none (Some x) f p = tt
