-- The inputs of the live queries are read, and take nothing below the queries' cursors.
use Rattle.std.proofs.Common.{◌≡◌, ℕ, ◌≤◌, Bool, true, false, List, [], ◌∷◌, ◌++◌, map, refl, ap, subst, ◌∙◌, sym, arith}
use Rattle.std.specs.Prelude.{Option, Some, None, option_map, unwrap_or, is_some, Result, Ok, Err, if◌then◌else◌}
use Rattle.std.specs.List.{list_any}
use Rattle.cql_value.specs.Element.{Element}
use Rattle.cql_plan.specs.declared.plan.Input.{Input}
use Rattle.cql_plan.specs.declared.plan.Planned.{Planned}
use Rattle.cql_tenants.specs.declared.namespace.Namespace.{Namespace}
use Rattle.cql_tenants.specs.Named.{Named, same_name, find_named, change_named, remove_named, each}
use Rattle.cql_tenants.specs.Readable.{StreamView}
use Rattle.cql_core.specs.declared.refusal.Refusal.{Refusal}
use Rattle.cql_core.specs.StreamId.{StreamId, stream_id_of, same_stream_id}
use Rattle.cql_core.specs.Bound.{StreamLookup, visible_alone_of, schemas, owner_of, BoundInput, BoundPlan, bound_input, bound}
use Rattle.cql_core.specs.Language.{Language, IsLanguage, AreReadable, bound_or}
use Rattle.cql_core.specs.Checks.{least, limit_over}
use Rattle.cql_core.specs.Lookup.{found_by, readable_to, opened_in}
use Rattle.cql_core.specs.Solo.{Came, SoloQuery, rows_on, with_came, with_gone, moved}
use Rattle.cql_core.proofs.Keys.{stream_id_eq, or_false}
use Rattle.cql_core.proofs.Namespaces.{found_readable, opened_seen}
use Rattle.cql_core.proofs.Grows.{Reaches, Grows}
use Rattle.cql_core.proofs.Simulation.{plan_seen, stub_over, trimmed}
use Rattle.cql_core.proofs.Stubs.{put_shown, put_live_shown, feed_stub}

-- the least time that a stream as it is read still takes
abbrev pub opened_of : Option StreamView → ℕ
opened_of o = unwrap_or (option_map (λ s. s.opened) o) 0

abbrev pub InputsReach : (StreamId → Option StreamView) → ℕ → List BoundInput → Type 0
InputsReach f n [] = Unit {0}
InputsReach f n (i ∷ is) = Reaches n (f i.stream_id) × InputsReach f n is

-- those of a query that is gone are asked no more
abbrev pub AllReach : (StreamId → Option StreamView) → List (Named SoloQuery) → Type 0
AllReach f [] = Unit {0}
AllReach f (q ∷ qs) = (q.item.gone ≡ false → InputsReach f q.item.cursor q.item.plan.inputs) × AllReach f qs

pub inputs_grow : (f g : StreamId → Option StreamView) → Grows f g → (n : ℕ) (is : List BoundInput) → InputsReach f n is → InputsReach g n is
inputs_grow f g grow n [] h = h
inputs_grow f g grow n (i ∷ is) h = (grow i.stream_id n h.0, inputs_grow f g grow n is h.1)

pub all_grow : (f g : StreamId → Option StreamView) → Grows f g → (qs : List (Named SoloQuery)) → AllReach f qs → AllReach g qs
all_grow f g grow [] h = h
all_grow f g grow (q ∷ qs) h = (λ live. inputs_grow f g grow q.item.cursor q.item.plan.inputs (h.0 live), all_grow f g grow qs h.1)

pub inputs_along : (f g : StreamId → Option StreamView) → ((p : StreamId) → f p ≡ g p) → (n : ℕ) (is : List BoundInput) → InputsReach f n is → InputsReach g n is
inputs_along f g same n is h = inputs_grow f g (λ p m r. subst (Reaches m) (same p) r) n is h

-- QUERIES THAT CHANGE
pub all_push : (f : StreamId → Option StreamView) (q : Named SoloQuery) → InputsReach f q.item.cursor q.item.plan.inputs → (qs : List (Named SoloQuery)) → AllReach f qs → AllReach f (qs ++ q ∷ [])
all_push f q is [] h = (λ live. is, h)
all_push f q is (x ∷ qs) h = (h.0, all_push f q is qs h.1)

pub all_joined : (f : StreamId → Option StreamView) (p : StreamId) (x : Element) (qs : List (Named SoloQuery)) → AllReach f qs → AllReach f (each (with_came p x) qs)
all_joined f p x [] h = h
all_joined f p x (q ∷ qs) h = (h.0, all_joined f p x qs h.1)

pub all_remove : (f : StreamId → Option StreamView) (n : List ℕ) (qs : List (Named SoloQuery)) → AllReach f qs → AllReach f (remove_named qs n)
all_remove f n [] h = h
all_remove f n (q ∷ qs) h = by (all_remove f n qs h.1) (same_name n q.name)
  where
    by : AllReach f (remove_named qs n) → (b : Bool) → AllReach f (if b then qs else q ∷ remove_named qs n)
    by rest true = h.1
    by rest false = (h.0, rest)

-- a query whose cursor moves
pub all_moved : (f : StreamId → Option StreamView) (n : List ℕ) (to : ℕ) (qs : List (Named SoloQuery)) → AllReach f qs
    → ((q : SoloQuery) → find_named qs n ≡ Some q → (q.gone ≡ false → InputsReach f q.cursor q.plan.inputs) → q.gone ≡ false → InputsReach f to q.plan.inputs)
    → AllReach f (change_named (moved to) n qs)
all_moved f n to [] h reach = h
all_moved f n to (q ∷ qs) h reach = by (all_moved f n to qs h.1) (same_name n q.name) refl
  where
    by : (((a : SoloQuery) → find_named qs n ≡ Some a → (a.gone ≡ false → InputsReach f a.cursor a.plan.inputs) → a.gone ≡ false → InputsReach f to a.plan.inputs)
        → AllReach f (change_named (moved to) n qs)) → (b : Bool) → same_name n q.name ≡ b
        → AllReach f (if b then record q { item = moved to q.item } ∷ qs else q ∷ change_named (moved to) n qs)
    by rest true is = (reach q.item (λ i. if is i then Some q.item else find_named qs n) h.0, h.1)
    by rest false is = (h.0, rest (λ a found. reach a ((λ i. if is i then Some q.item else find_named qs n) ∙ found)))

some_asked : (a b : SoloQuery) → Some a ≡ Some b → a ≡ b
some_asked a b e = cc

pub find_reach : (f : StreamId → Option StreamView) (n : List ℕ) (q : SoloQuery) (qs : List (Named SoloQuery)) → AllReach f qs → find_named qs n ≡ Some q → q.gone ≡ false → InputsReach f q.cursor q.plan.inputs
find_reach f n q [] h found = absurd cc
find_reach f n q (x ∷ qs) h found = by (find_reach f n q qs h.1) (same_name n x.name) found
  where
    by : (find_named qs n ≡ Some q → q.gone ≡ false → InputsReach f q.cursor q.plan.inputs) → (b : Bool) → (if b then Some x.item else find_named qs n) ≡ Some q → q.gone ≡ false → InputsReach f q.cursor q.plan.inputs
    by rest true found = subst (λ (a : SoloQuery). a.gone ≡ false → InputsReach f a.cursor a.plan.inputs) (some_asked x.item q found) h.0
    by rest false found = rest found

-- a stream that is taken away: what reads it is gone
inputs_but : (f g : StreamId → Option StreamView) (lost : StreamId) → ((p : StreamId) (m : ℕ) → same_stream_id p lost ≡ false → Reaches m (f p) → Reaches m (g p)) → (n : ℕ) (is : List BoundInput)
    → list_any (λ i. same_stream_id i.stream_id lost) is ≡ false → InputsReach f n is → InputsReach g n is
inputs_but f g lost grow n [] far h = h
inputs_but f g lost grow n (i ∷ is) far h = let both = or_false _ _ far in (grow i.stream_id n both.0 h.0, inputs_but f g lost grow n is both.1 h.1)

pub all_gone : (f g : StreamId → Option StreamView) (lost : StreamId) → ((p : StreamId) (m : ℕ) → same_stream_id p lost ≡ false → Reaches m (f p) → Reaches m (g p)) → (qs : List (Named SoloQuery))
    → AllReach f qs → AllReach g (each (with_gone lost) qs)
all_gone f g lost grow [] h = h
all_gone f g lost grow (q ∷ qs) h = (
  λ live. let both = or_false q.item.gone (list_any (λ i. same_stream_id i.stream_id lost) q.item.plan.inputs) live in inputs_but f g lost grow q.item.cursor q.item.plan.inputs both.1 (h.0 both.0),
  all_gone f g lost grow qs h.1,
)

-- PLANS
reach_some : (n : ℕ) (o : Option StreamView) → Reaches n o → Reaches 0 o
reach_some n None h = h
reach_some n (Some s) h = omega arith

pub inputs_some : (f : StreamId → Option StreamView) (n : ℕ) (is : List BoundInput) → InputsReach f n is → InputsReach f 0 is
inputs_some f n [] h = h
inputs_some f n (i ∷ is) h = (reach_some n (f i.stream_id) h.0, inputs_some f n is h.1)

-- an input whose stream is found is read
input_reach : (d : List Namespace) (t : ℕ) (i : Input) (o : Option StreamView) → found_by d t i.owner i.stream ≡ o → is_some (option_map visible_alone_of o) ≡ true
    → Reaches 0 (readable_to d t (stream_id_of (owner_of o) i.stream))
input_reach d t i None is some = absurd cc
input_reach d t i (Some s) is some = let n : 0 ≤ s.opened = omega arith in subst (Reaches 0) (sym (found_readable d t i.owner i.stream s is)) n

pub readable_some : (d : List Namespace) (t : ℕ) (is : List Input) → AreReadable (schemas (found_by d t)) is → InputsReach (readable_to d t) 0 (map (bound_input (found_by d t)) is)
readable_some d t [] h = h
readable_some d t (i ∷ is) h = (input_reach d t i _ refl h.0, readable_some d t is h.1)

pub bound_is : (found : StreamLookup) (p : Planned) (plan : BoundPlan) → bound_or found (Ok p) ≡ Ok plan → bound found p ≡ plan
bound_is found p plan e = cc

-- the inputs of a plan over what a tenant finds are read
pub plan_reach : (language : Language) → IsLanguage language → (d : List Namespace) (t : ℕ) (text : List ℕ) (plan : BoundPlan) → plan_seen language d t text ≡ Ok plan → InputsReach (readable_to d t) 0 plan.inputs
plan_reach language is d t text plan e = by (language.plan_of (schemas (found_by d t)) text) refl e
  where
    by : (r : Result Planned Refusal) → language.plan_of (schemas (found_by d t)) text ≡ r → bound_or (found_by d t) r ≡ Ok plan → InputsReach (readable_to d t) 0 plan.inputs
    by (Err refusal) made e = absurd cc
    by (Ok p) made e =
        subst (λ (plan : BoundPlan). InputsReach (readable_to d t) 0 plan.inputs) (bound_is (found_by d t) p plan e) (readable_some d t p.inputs (is.reads (schemas (found_by d t)) text p made))

-- LIMITS
reach_up_to : (n : ℕ) (o : Option StreamView) → Reaches 0 o → n ≤ opened_of o → Reaches n o
reach_up_to n None some le = some
reach_up_to n (Some s) some le = le

-- each input reaches the limit, and what lies below it
pub least_reach : (f : StreamId → Option StreamView) (n : ℕ) (is : List BoundInput) → InputsReach f 0 is → n ≤ limit_over (λ p. opened_of (f p)) is → InputsReach f n is
least_reach f n [] some le = tt
least_reach f n (i ∷ []) some le = (reach_up_to n (f i.stream_id) some.0 le, tt)
least_reach f n (i ∷ j ∷ is) some le =
    let rest : ℕ = limit_over (λ p. opened_of (f p)) (j ∷ is) in
    let here : n ≤ opened_of (f i.stream_id) = omega (arith, le) in
    let there : n ≤ rest = omega (arith, le) in
    (reach_up_to n (f i.stream_id) some.0 here, least_reach f n (j ∷ is) some.1 there)

-- what is read takes what the directory says
at_by : (d : List Namespace) (t : ℕ) (p : StreamId) (n : ℕ) (o : Option StreamView) → readable_to d t p ≡ o → Reaches n o → opened_in d p ≡ opened_of o
at_by d t p n None is h = absurd h
at_by d t p n (Some s) is h = opened_seen d t p s is

pub at_same : (d : List Namespace) (t : ℕ) (p : StreamId) (n : ℕ) → Reaches n (readable_to d t p) → opened_in d p ≡ opened_of (readable_to d t p)
at_same d t p n h = at_by d t p n _ refl h

opened_same : (d : List Namespace) (t : ℕ) (g : StreamId → Option StreamView) → ((p : StreamId) → readable_to d t p ≡ g p) → (n : ℕ) (is : List BoundInput) → InputsReach (readable_to d t) n is
    → map (λ i. opened_in d i.stream_id) is ≡ map (λ i. opened_of (g i.stream_id)) is
opened_same d t g same n [] h = refl
opened_same d t g same n (i ∷ is) h = λ j. (at_same d t i.stream_id n h.0 ∙ ap opened_of (same i.stream_id)) j ∷ opened_same d t g same n is h.1 j

-- the limit of a query is the same by the directory and by what the tenant reads
pub limit_same : (d : List Namespace) (t : ℕ) (g : StreamId → Option StreamView) → ((p : StreamId) → readable_to d t p ≡ g p) → (n : ℕ) (is : List BoundInput) → InputsReach (readable_to d t) n is
    → limit_over (opened_in d) is ≡ limit_over (λ p. opened_of (g p)) is
limit_same d t g same n is h = ap least (opened_same d t g same n is h)

-- ROWS
module _ (f : StreamId → Option StreamView) (p : StreamId) (x : Element) (hold : ℕ) where
  -- a row of a stream that takes it comes to the stubs
  fed_inputs : ((n : ℕ) → Reaches n (f p) → n ≤ x.at) → (c : ℕ) (cs : List Came) (is : List BoundInput) → InputsReach f c is
      → map (put_shown p x) (map (λ i. stub_over hold c i (rows_on i.stream_id cs)) is) ≡ map (λ i. stub_over hold c i (rows_on i.stream_id (cs ++ record { stream_id = p; element = x } ∷ []))) is
  fed_inputs later c cs [] h = refl
  fed_inputs later c cs (i ∷ is) h =
      λ j. feed_stub hold c i cs p x (λ same. later c (subst (λ (s : StreamId). Reaches c (f s)) (stream_id_eq i.stream_id p same) h.0)) j ∷ fed_inputs later c cs is h.1 j

  fed_stubs : ((n : ℕ) → Reaches n (f p) → n ≤ x.at) → (c : ℕ) (cs : List Came) (is : List BoundInput) (gone : Bool) → (gone ≡ false → InputsReach f c is)
      → option_map (map (put_shown p x)) (if gone then None else Some (map (λ i. stub_over hold c i (rows_on i.stream_id cs)) is))
      ≡ (if gone then None else Some (map (λ i. stub_over hold c i (rows_on i.stream_id (cs ++ record { stream_id = p; element = x } ∷ []))) is))
  fed_stubs later c cs is true h = refl
  fed_stubs later c cs is false h = ap (λ l. Some l) (fed_inputs later c cs is (h refl))

  pub fed_all : ((n : ℕ) → Reaches n (f p) → n ≤ x.at) → (qs : List (Named SoloQuery)) → AllReach f qs → each (put_live_shown p x) (each (trimmed hold) qs) ≡ each (trimmed hold) (each (with_came p x) qs)
  fed_all later [] h = refl
  fed_all later (q ∷ qs) h =
      λ j. record {
        name = q.name;
        item = record {
          plan = q.item.plan;
          text = q.item.text;
          base = q.item.base;
          cursor = q.item.cursor;
          stubs =
              fed_stubs later q.item.cursor q.item.came q.item.plan.inputs q.item.gone h.0 j;
        };
      } ∷ fed_all later qs h.1 j
