-- What the machine holds in whole rows, and what is seen of it by the chosen columns.
use Rattle.std.proofs.Common.{◌≡◌, ℕ, ◌+◌, Bool, true, false, ◌||◌, List, [], ◌∷◌, ◌++◌, map, length, take, refl, ap, subst, ◌∙◌, sym}
use Rattle.std.specs.Prelude.{Option, Some, None, option_map, nat_lt, if◌then◌else◌}
use Rattle.std.specs.List.{AllByRecursion, list_any, filter}
use Rattle.cql_value.specs.Element.{Element}
use Rattle.cql_window.specs.declared.window.Window.{Window}
use Rattle.cql_window.specs.declared.window.Window.TheVariants.{Range, Rows, All as all, Parts}
use Rattle.cql_window.specs.Window.{front_len, count_before, last_of_parts, count_part, kept, content, beyond}
use Rattle.cql_eval.proofs.Resumed.{each_kept}
use Rattle.cql_store.specs.Held.{Held, fed, pinned}
use Rattle.cql_store.proofs.Next.{all_split}
use Rattle.cql_window.specs.Projection.{projected, whole_projection}
use Rattle.cql_window.specs.Through.{narrowed, narrowed_all, wide_window, narrow_pinned, HasProjection}
use Rattle.cql_window.proofs.Narrows.{map_both, map_length, map_take, before, all_front, narrow_law}
use Rattle.cql_window.proofs.Picks.{chained, at_all}
use Rattle.cql_plan.specs.declared.plan.Input.{Input}
use Rattle.cql_tenants.specs.declared.namespace.Namespace.{Namespace}
use Rattle.cql_tenants.specs.Named.{Named, same_name, change_named, remove_named, each}
use Rattle.cql_core.specs.StreamId.{StreamId, same_stream_id, projection_in}
use Rattle.cql_core.specs.Bound.{BoundInput, BoundPlan}
use Rattle.cql_core.specs.Language.{content_of, through_projections}
use Rattle.cql_core.specs.Lookup.{readable_to}
use Rattle.cql_core.specs.Machine.{is_over}
use Rattle.cql_core.specs.Solo.{SoloQuery, rows_on, with_gone}
use Rattle.cql_core.specs.Trimmed.{narrow_held}
use Rattle.cql_core.proofs.Keys.{stream_id_eq, or_false}
use Rattle.cql_core.proofs.Simulation.{SimStub, SimQuery, ProjectedStub, ProjectedLive, stub_of, projected_stub, projected_live, stub_over, trimmed, wide_inputs, new_sim_stub, put_sim_on}
use Rattle.cql_core.proofs.Simulation.{put_sim, ack_sim_stub, ack_sim, revoke_sim}
use Rattle.cql_core.proofs.Stubs.{put_shown, put_live_shown, ack_shown, ack_live_shown}
use Rattle.cql_core.proofs.Grows.{Reaches}
use Rattle.cql_core.proofs.Reach.{InputsReach}

-- a stub of a query on these inputs: its stream is read, its projection is the one that the tenant sees now, its window is over the whole row, and each row held has the columns
pub record FullStub (t : ℕ) (d : List Namespace) (inputs : List BoundInput) (s : SimStub) : Type 0 where
  pub read : Reaches 0 (readable_to d t s.stream_id)
  pub input : (p : StreamId) → list_any (λ i. same_stream_id i.stream_id p) inputs ≡ false → same_stream_id s.stream_id p ≡ false
  pub projection : s.projection ≡ projection_in d t s.stream_id
  pub window : s.held.window ≡ wide_window s.projection s.window
  pub rows : AllByRecursion (HasProjection s.projection) (s.held.content ++ s.held.unseen)

abbrev pub FullStubs : ℕ → List Namespace → List BoundInput → List SimStub → Type 0
FullStubs t d inputs [] = Unit {0}
FullStubs t d inputs (s ∷ ss) = FullStub t d inputs s × FullStubs t d inputs ss

-- of each input the plan sees all columns of those of the stub's projection, which is that of its stream
abbrev pub AreSet : (StreamId → List ℕ) → List Input → List BoundInput → List SimStub → Type 0
AreSet f [] [] [] = Unit {0}
AreSet f [] [] (s ∷ ss) = ⊥
AreSet f [] (j ∷ js) ss = ⊥
AreSet f (i ∷ is) [] ss = ⊥
AreSet f (i ∷ is) (j ∷ js) [] = ⊥
AreSet f (i ∷ is) (j ∷ js) (s ∷ ss) = ((i.projection ≡ whole_projection (length s.projection)) × (f j.stream_id ≡ s.projection)) × AreSet f is js ss

set_map : (f : StreamId → List ℕ) (g : SimStub → SimStub) → ((s : SimStub) → (g s).projection ≡ s.projection) → (is : List Input) (js : List BoundInput) (ss : List SimStub) → AreSet f is js ss → AreSet f is js (map g ss)
set_map f g same [] [] [] set = tt
set_map f g same [] [] (s ∷ ss) set = absurd set
set_map f g same [] (j ∷ js) ss set = absurd set
set_map f g same (i ∷ is) [] ss set = absurd set
set_map f g same (i ∷ is) (j ∷ js) [] set = absurd set
set_map f g same (i ∷ is) (j ∷ js) (s ∷ ss) set = ((set.0.0 ∙ ap (λ ps. whole_projection (length ps)) (sym (same s)), set.0.1 ∙ sym (same s)), set_map f g same is js ss set.1)

abbrev pub FullOr : ℕ → List Namespace → (StreamId → List ℕ) → BoundPlan → Option (List SimStub) → Type 0
FullOr t d f plan None = Unit {0}
FullOr t d f plan (Some ss) = FullStubs t d plan.inputs ss × AreSet f plan.plan.inputs plan.inputs ss

abbrev pub AllFull : ℕ → List Namespace → List (Named SimQuery) → Type 0
AllFull t d [] = Unit {0}
AllFull t d (q ∷ qs) = FullOr t d q.item.projection_of q.item.plan q.item.stubs × AllFull t d qs

-- A ROW MORE
narrow_fed : (ps : List ℕ) (w : Window) (x : Element) (h : Held) → narrow_held ps w (fed x h) ≡ fed (narrowed ps x) (narrow_held ps w h)
narrow_fed ps w x h = by h.overrun refl
  where
    room : (n : ℕ) → length (map (narrowed ps) h.content) + length (map (narrowed ps) h.unseen) ≡ n → (b : Bool)
        → narrow_held ps w (if b then record h { unseen = h.unseen ++ x ∷ [] } else record h { content = []; unseen = []; overrun = true })
        ≡ (if b then record (narrow_held ps w h) { unseen = map (narrowed ps) h.unseen ++ narrowed ps x ∷ [] } else record (narrow_held ps w h) { content = []; unseen = []; overrun = true })
    room n e true = λ i. record { window = w; cursor = h.cursor; hold = h.hold; content = map (narrowed ps) h.content; unseen = map_both (narrowed ps) h.unseen (x ∷ []) i; overrun = h.overrun }
    room n e false = refl

    by : (b : Bool) → h.overrun ≡ b
        → narrow_held ps w (if b then h else if nat_lt (length h.content + length h.unseen) h.hold then record h { unseen = h.unseen ++ x ∷ [] } else record h { content = []; unseen = []; overrun = true })
        ≡ (if b then narrow_held ps w h else if nat_lt (length (map (narrowed ps) h.content) + length (map (narrowed ps) h.unseen)) h.hold
        then record (narrow_held ps w h) { unseen = map (narrowed ps) h.unseen ++ narrowed ps x ∷ [] } else record (narrow_held ps w h) { content = []; unseen = []; overrun = true })
    by true is = refl
    by false is =
        room _ refl (nat_lt (length h.content + length h.unseen) h.hold)
        ∙ (λ i. if nat_lt (sym (map_length (narrowed ps) h.content) i + sym (map_length (narrowed ps) h.unseen) i) h.hold
        then record (narrow_held ps w h) { unseen = map (narrowed ps) h.unseen ++ narrowed ps x ∷ [] } else record (narrow_held ps w h) { content = []; unseen = []; overrun = true })

all_push : {A : Type 0} (P : A → Type 0) (xs : List A) (x : A) → AllByRecursion P xs → P x → AllByRecursion P (xs ++ x ∷ [])
all_push P [] x h px = (px, tt)
all_push P (y ∷ xs) x h px = (h.0, all_push P xs x h.1 px)

join_assoc : (xs ys zs : List Element) → (xs ++ ys) ++ zs ≡ xs ++ (ys ++ zs)
join_assoc [] ys zs = refl
join_assoc (x ∷ xs) ys zs = ap (λ l. x ∷ l) (join_assoc xs ys zs)

fed_rows : (P : Element → Type 0) (x : Element) (h : Held) → P x → AllByRecursion P (h.content ++ h.unseen) → AllByRecursion P ((fed x h).content ++ (fed x h).unseen)
fed_rows P x h px ok = by h.overrun (nat_lt (length h.content + length h.unseen) h.hold)
  where
    by : (b c : Bool) → AllByRecursion P ((if b then h else if c then record h { unseen = h.unseen ++ x ∷ [] } else record h { content = []; unseen = []; overrun = true }).content
        ++ (if b then h else if c then record h { unseen = h.unseen ++ x ∷ [] } else record h { content = []; unseen = []; overrun = true }).unseen)
    by true c = ok
    by false true = subst (AllByRecursion P) (join_assoc h.content h.unseen (x ∷ [])) (all_push P (h.content ++ h.unseen) x ok px)
    by false false = tt

fed_window : (x : Element) (h : Held) → (fed x h).window ≡ h.window
fed_window x h = by h.overrun (nat_lt (length h.content + length h.unseen) h.hold)
  where
    by : (b c : Bool) → (if b then h else if c then record h { unseen = h.unseen ++ x ∷ [] } else record h { content = []; unseen = []; overrun = true }).window ≡ h.window
    by true c = refl
    by false true = refl
    by false false = refl

module _ (t : ℕ) (d : List Namespace) (p : StreamId) (x : Element) (has : Reaches 0 (readable_to d t p) → HasProjection (projection_in d t p) x) where
  put_projected_by : (inputs : List BoundInput) (s : SimStub) → FullStub t d inputs s → (b : Bool) → same_stream_id s.stream_id p ≡ b
      → projected_stub (if b then record s { held = fed x s.held } else s)
      ≡ (if b then record (projected_stub s) { held = fed (narrowed (projection_in d t p) x) (narrow_held s.projection s.window s.held) } else projected_stub s)
  put_projected_by inputs s full true is =
      let same : s.projection ≡ projection_in d t p = full.projection ∙ ap (projection_in d t) (stream_id_eq s.stream_id p is) in
      λ i. record { stream_id = s.stream_id; held = (narrow_fed s.projection s.window x s.held ∙ (λ i. fed (narrowed (same i) x) (narrow_held s.projection s.window s.held))) i }
  put_projected_by inputs s full false is = refl

  put_full_by : (inputs : List BoundInput) (s : SimStub) → FullStub t d inputs s → (b : Bool) → same_stream_id s.stream_id p ≡ b → FullStub t d inputs (if b then record s { held = fed x s.held } else s)
  put_full_by inputs s full true is =
      let at : s.stream_id ≡ p = stream_id_eq s.stream_id p is in
      let same : s.projection ≡ projection_in d t p = full.projection ∙ ap (projection_in d t) at in
      let here : HasProjection s.projection x = subst (λ ps. HasProjection ps x) (sym same) (has (subst (λ (s : StreamId). Reaches 0 (readable_to d t s)) at full.read)) in
      record { read = full.read; input = full.input; projection = full.projection; window = fed_window x s.held ∙ full.window; rows = fed_rows (HasProjection s.projection) x s.held here full.rows }
  put_full_by inputs s full false is = full

  put_projected_all : (inputs : List BoundInput) (ss : List SimStub) → FullStubs t d inputs ss → map projected_stub (map (put_sim_on p x) ss) ≡ map (put_shown p (narrowed (projection_in d t p) x)) (map projected_stub ss)
  put_projected_all inputs [] full = refl
  put_projected_all inputs (s ∷ ss) full = λ i. put_projected_by inputs s full.0 _ refl i ∷ put_projected_all inputs ss full.1 i

  put_full_all : (inputs : List BoundInput) (ss : List SimStub) → FullStubs t d inputs ss → FullStubs t d inputs (map (put_sim_on p x) ss)
  put_full_all inputs [] full = full
  put_full_all inputs (s ∷ ss) full = (put_full_by inputs s full.0 _ refl, put_full_all inputs ss full.1)

  put_projected_or : (f : StreamId → List ℕ) (plan : BoundPlan) (o : Option (List SimStub)) → FullOr t d f plan o
      → option_map (map projected_stub) (option_map (map (put_sim_on p x)) o) ≡ option_map (map (put_shown p (narrowed (projection_in d t p) x))) (option_map (map projected_stub) o)
  put_projected_or f plan None full = refl
  put_projected_or f plan (Some ss) full = ap (λ l. Some l) (put_projected_all plan.inputs ss full.0)

  put_set : (s : SimStub) → (put_sim_on p x s).projection ≡ s.projection
  put_set s = by (same_stream_id s.stream_id p)
    where
      by : (b : Bool) → (if b then record s { held = fed x s.held } else s).projection ≡ s.projection
      by true = refl
      by false = refl

  put_full_or : (f : StreamId → List ℕ) (plan : BoundPlan) (o : Option (List SimStub)) → FullOr t d f plan o → FullOr t d f plan (option_map (map (put_sim_on p x)) o)
  put_full_or f plan None full = full
  put_full_or f plan (Some ss) full = (put_full_all plan.inputs ss full.0, set_map f (put_sim_on p x) put_set plan.plan.inputs plan.inputs ss full.1)

  -- a row comes to the stubs as they are seen
  pub put_projected_queries : (qs : List (Named SimQuery)) → AllFull t d qs → each projected_live (each (put_sim p x) qs) ≡ each (put_live_shown p (narrowed (projection_in d t p) x)) (each projected_live qs)
  put_projected_queries [] full = refl
  put_projected_queries (q ∷ qs) full =
      λ i. record {
        name = q.name;
        item = record {
          plan = q.item.plan;
          text = q.item.text;
          base = q.item.base;
          cursor = q.item.cursor;
          stubs =
              put_projected_or q.item.projection_of q.item.plan q.item.stubs full.0 i;
        };
      } ∷ put_projected_queries qs full.1 i

  pub put_full_queries : (qs : List (Named SimQuery)) → AllFull t d qs → AllFull t d (each (put_sim p x) qs)
  put_full_queries [] full = full
  put_full_queries (q ∷ qs) full = (put_full_or q.item.projection_of q.item.plan q.item.stubs full.0, put_full_queries qs full.1)

module _ (t : ℕ) (d : List Namespace) (to : ℕ) where
  ack_projected_one : (inputs : List BoundInput) (s : SimStub) → FullStub t d inputs s → projected_stub (ack_sim_stub to s) ≡ ack_shown to (projected_stub s)
  ack_projected_one inputs s full =
      let law = narrow_law s.projection s.window to s.held.content s.held.unseen full.rows in
      λ i. record {
        stream_id = s.stream_id;
        held = record {
          window = s.window;
          cursor = to;
          hold = s.held.hold;
          content = (ap (λ w. map (narrowed s.projection) (content w to s.held.content s.held.unseen)) full.window ∙ sym law.content) i;
          unseen = (ap (λ w. map (narrowed s.projection) (beyond w to s.held.unseen)) full.window ∙ sym law.beyond) i;
          overrun = s.held.overrun;
        };
      }

  ack_full_one : (inputs : List BoundInput) (s : SimStub) → FullStub t d inputs s → FullStub t d inputs (ack_sim_stub to s)
  ack_full_one inputs s full =
      record { read = full.read; input = full.input; projection = full.projection; window = full.window; rows = all_split (HasProjection s.projection) s.held.window to s.held.content s.held.unseen full.rows }

  ack_projected_all : (inputs : List BoundInput) (ss : List SimStub) → FullStubs t d inputs ss → map projected_stub (map (ack_sim_stub to) ss) ≡ map (ack_shown to) (map projected_stub ss)
  ack_projected_all inputs [] full = refl
  ack_projected_all inputs (s ∷ ss) full = λ i. ack_projected_one inputs s full.0 i ∷ ack_projected_all inputs ss full.1 i

  ack_full_all : (inputs : List BoundInput) (ss : List SimStub) → FullStubs t d inputs ss → FullStubs t d inputs (map (ack_sim_stub to) ss)
  ack_full_all inputs [] full = full
  ack_full_all inputs (s ∷ ss) full = (ack_full_one inputs s full.0, ack_full_all inputs ss full.1)

  ack_projected_or : (f : StreamId → List ℕ) (plan : BoundPlan) (o : Option (List SimStub)) → FullOr t d f plan o
      → option_map (map projected_stub) (option_map (map (ack_sim_stub to)) o) ≡ option_map (map (ack_shown to)) (option_map (map projected_stub) o)
  ack_projected_or f plan None full = refl
  ack_projected_or f plan (Some ss) full = ap (λ l. Some l) (ack_projected_all plan.inputs ss full.0)

  ack_full_or : (f : StreamId → List ℕ) (plan : BoundPlan) (o : Option (List SimStub)) → FullOr t d f plan o → FullOr t d f plan (option_map (map (ack_sim_stub to)) o)
  ack_full_or f plan None full = full
  ack_full_or f plan (Some ss) full = (ack_full_all plan.inputs ss full.0, set_map f (ack_sim_stub to) (λ s. refl) plan.plan.inputs plan.inputs ss full.1)

  ack_projected_query : (q : SimQuery) → FullOr t d q.projection_of q.plan q.stubs → projected_live (ack_sim to q) ≡ ack_live_shown to (projected_live q)
  ack_projected_query q full = λ i. record { plan = q.plan; text = q.text; base = q.base; cursor = to; stubs = ack_projected_or q.projection_of q.plan q.stubs full i }

  -- an ack moves the stubs as they are seen
  pub ack_projected_queries : (n : List ℕ) (qs : List (Named SimQuery)) → AllFull t d qs → each projected_live (change_named (ack_sim to) n qs) ≡ change_named (ack_live_shown to) n (each projected_live qs)
  ack_projected_queries n [] full = refl
  ack_projected_queries n (q ∷ qs) full = by (ack_projected_queries n qs full.1) (same_name n q.name)
    where
      by : each projected_live (change_named (ack_sim to) n qs) ≡ change_named (ack_live_shown to) n (each projected_live qs) → (b : Bool)
          → each projected_live (if b then record q { item = ack_sim to q.item } ∷ qs else q ∷ change_named (ack_sim to) n qs)
          ≡ (if b then record { name = q.name; item = ack_live_shown to (projected_live q.item) } ∷ each projected_live
          qs else record { name = q.name; item = projected_live q.item } ∷ change_named (ack_live_shown to) n (each projected_live qs))
      by rest true = λ i. record { name = q.name; item = ack_projected_query q.item full.0 i } ∷ each projected_live qs
      by rest false = ap (λ l. record { name = q.name; item = projected_live q.item } ∷ l) rest

  pub ack_full_queries : (n : List ℕ) (qs : List (Named SimQuery)) → AllFull t d qs → AllFull t d (change_named (ack_sim to) n qs)
  ack_full_queries n [] full = full
  ack_full_queries n (q ∷ qs) full = by (ack_full_queries n qs full.1) (same_name n q.name)
    where
      by : AllFull t d (change_named (ack_sim to) n qs) → (b : Bool) → AllFull t d (if b then record q { item = ack_sim to q.item } ∷ qs else q ∷ change_named (ack_sim to) n qs)
      by rest true = (ack_full_or q.item.projection_of q.item.plan q.item.stubs full.0, full.1)
      by rest false = (full.0, rest)

-- A REVOKE
abbrev pub revoke_shown : StreamId → ProjectedLive → ProjectedLive
revoke_shown p q = if is_over p q.plan then record q { stubs = None } else q

revoke_projected : (p : StreamId) (q : SimQuery) (b : Bool) → projected_live (if b then record q { stubs = None } else q) ≡ (if b then record (projected_live q) { stubs = None } else projected_live q)
revoke_projected p q true = refl
revoke_projected p q false = refl

pub revoke_projected_queries : (p : StreamId) (qs : List (Named SimQuery)) → each projected_live (each (revoke_sim p) qs) ≡ each (revoke_shown p) (each projected_live qs)
revoke_projected_queries p [] = refl
revoke_projected_queries p (q ∷ qs) = λ i. record { name = q.name; item = revoke_projected p q.item (is_over p q.item.plan) i } ∷ revoke_projected_queries p qs i

-- what is over the stream is gone
abbrev as_projected : SoloQuery → Option (List ProjectedStub) → ProjectedLive
as_projected q stubs = record { plan = q.plan; text = q.text; base = q.base; cursor = q.cursor; stubs = stubs }

gone_by : (q : SoloQuery) (over gone : Bool) (ss : List ProjectedStub) → (if over then as_projected q None else as_projected q (if gone then None else Some ss)) ≡ as_projected q (if gone || over then None else Some ss)
gone_by q true true ss = refl
gone_by q true false ss = refl
gone_by q false true ss = refl
gone_by q false false ss = refl

pub gone_queries : (hold : ℕ) (p : StreamId) (qs : List (Named SoloQuery)) → each (revoke_shown p) (each (trimmed hold) qs) ≡ each (trimmed hold) (each (with_gone p) qs)
gone_queries hold p [] = refl
gone_queries hold p (q ∷ qs) = λ i. record {
  name = q.name;
  item = gone_by q.item (is_over p q.item.plan) q.item.gone
      (map (λ i. stub_over hold q.item.cursor i (rows_on i.stream_id q.item.came)) q.item.plan.inputs) i;
} ∷ gone_queries hold p qs i

-- ANOTHER DIRECTORY
-- what is read, but for these streams, stays read with its projection
pub record Keeps (t : ℕ) (d d' : List Namespace) (lost : StreamId → Bool) : Type 0 where
  pub read : (p : StreamId) → lost p ≡ false → Reaches 0 (readable_to d t p) → Reaches 0 (readable_to d' t p)
  pub projection : (p : StreamId) → lost p ≡ false → Reaches 0 (readable_to d t p) → projection_in d' t p ≡ projection_in d t p

full_keep : (t : ℕ) (d d' : List Namespace) (lost : StreamId → Bool) → Keeps t d d' lost → (inputs : List BoundInput)
    → ((s : SimStub) → FullStub t d inputs s → lost s.stream_id ≡ false) → (ss : List SimStub) → FullStubs t d inputs ss → FullStubs t d' inputs ss
full_keep t d d' lost keeps inputs far [] full = full
full_keep t d d' lost keeps inputs far (s ∷ ss) full =
    let away = far s full.0 in (
      record {
        read = keeps.read s.stream_id away full.0.read;
        input = full.0.input;
        projection = full.0.projection ∙ sym (keeps.projection s.stream_id away full.0.read);
        window = full.0.window;
        rows = full.0.rows;
      },
      full_keep t d d' lost keeps inputs far ss full.1,
    )

full_or : (t : ℕ) (d d' : List Namespace) (lost : StreamId → Bool) → Keeps t d d' lost → (f : StreamId → List ℕ) (plan : BoundPlan)
    → ((s : SimStub) → FullStub t d plan.inputs s → lost s.stream_id ≡ false) → (o : Option (List SimStub)) → FullOr t d f plan o → FullOr t d' f plan o
full_or t d d' lost keeps f plan far None full = full
full_or t d d' lost keeps f plan far (Some ss) full = (full_keep t d d' lost keeps plan.inputs far ss full.0, full.1)

pub full_along : (t : ℕ) (d d' : List Namespace) → Keeps t d d' (λ p. false) → (qs : List (Named SimQuery)) → AllFull t d qs → AllFull t d' qs
full_along t d d' keeps [] full = full
full_along t d d' keeps (q ∷ qs) full = (full_or t d d' (λ p. false) keeps q.item.projection_of q.item.plan (λ s h. refl) q.item.stubs full.0, full_along t d d' keeps qs full.1)

pub full_revoked : (t : ℕ) (d d' : List Namespace) (lost : StreamId) → Keeps t d d' (λ p. same_stream_id p lost) → (qs : List (Named SimQuery)) → AllFull t d qs → AllFull t d' (each (revoke_sim lost) qs)
full_revoked t d d' lost keeps [] full = full
full_revoked t d d' lost keeps (q ∷ qs) full = (by (is_over lost q.item.plan) refl, full_revoked t d d' lost keeps qs full.1)
  where
    by : (b : Bool) → is_over lost q.item.plan ≡ b → FullOr t d' (if b then record (q.item) { stubs = None } else q.item).projection_of
        (if b then record (q.item) { stubs = None } else q.item).plan (if b then record (q.item) { stubs = None } else q.item).stubs
    by true is = tt
    by false is = full_or t d d' (λ p. same_stream_id p lost) keeps q.item.projection_of q.item.plan (λ s h. h.input lost is) q.item.stubs full.0

-- A NEW QUERY
new_full : (t : ℕ) (d : List Namespace) (hold base : ℕ) (all_inputs : List BoundInput) (is : List BoundInput)
    → ((p : StreamId) → list_any (λ i. same_stream_id i.stream_id p) all_inputs ≡ false → list_any (λ i. same_stream_id i.stream_id p) is ≡ false)
    → InputsReach (readable_to d t) 0 is → FullStubs t d all_inputs (map (new_sim_stub hold base (projection_in d t)) is)
new_full t d hold base all_inputs [] within h = tt
new_full t d hold base all_inputs (i ∷ is) within h = (
  record { read = h.0; input = λ p e. (or_false _ _ (within p e)).0; projection = refl; window = refl; rows = tt },
  new_full t d hold base all_inputs is (λ p e. (or_false _ _ (within p e)).1) h.1,
)

pub new_full_inputs : (t : ℕ) (d : List Namespace) (hold base : ℕ) (is : List BoundInput) → InputsReach (readable_to d t) 0 is → FullStubs t d is (map (new_sim_stub hold base (projection_in d t)) is)
new_full_inputs t d hold base is h = new_full t d hold base is is (λ p e. e) h

pub full_push : (t : ℕ) (d : List Namespace) (q : Named SimQuery) (qs : List (Named SimQuery)) → AllFull t d qs → FullOr t d q.item.projection_of q.item.plan q.item.stubs → AllFull t d (qs ++ q ∷ [])
full_push t d q [] full one = (one, tt)
full_push t d q (x ∷ qs) full one = (full.0, full_push t d q qs full.1 one)

pub full_remove : (t : ℕ) (d : List Namespace) (n : List ℕ) (qs : List (Named SimQuery)) → AllFull t d qs → AllFull t d (remove_named qs n)
full_remove t d n [] full = full
full_remove t d n (q ∷ qs) full = by (full_remove t d n qs full.1) (same_name n q.name)
  where
    by : AllFull t d (remove_named qs n) → (b : Bool) → AllFull t d (if b then qs else q ∷ remove_named qs n)
    by rest true = full.1
    by rest false = (full.0, rest)

-- A ROW THAT IS NOT SEEN
unput_by : (t : ℕ) (d : List Namespace) (p : StreamId) (x : Element) → readable_to d t p ≡ None → (inputs : List BoundInput) (s : SimStub) → FullStub t d inputs s
    → (b : Bool) → same_stream_id s.stream_id p ≡ b → (if b then record s { held = fed x s.held } else s) ≡ s
unput_by t d p x none inputs s full true is = absurd (subst (Reaches 0) none (subst (λ (s : StreamId). Reaches 0 (readable_to d t s)) (stream_id_eq s.stream_id p is) full.read))
unput_by t d p x none inputs s full false is = refl

unput_all : (t : ℕ) (d : List Namespace) (p : StreamId) (x : Element) → readable_to d t p ≡ None → (inputs : List BoundInput) (ss : List SimStub) → FullStubs t d inputs ss → map (put_sim_on p x) ss ≡ ss
unput_all t d p x none inputs [] full = refl
unput_all t d p x none inputs (s ∷ ss) full = λ i. unput_by t d p x none inputs s full.0 _ refl i ∷ unput_all t d p x none inputs ss full.1 i

unput_or : (t : ℕ) (d : List Namespace) (p : StreamId) (x : Element) → readable_to d t p ≡ None → (f : StreamId → List ℕ) (plan : BoundPlan) (o : Option (List SimStub))
    → FullOr t d f plan o → option_map (map (put_sim_on p x)) o ≡ o
unput_or t d p x none f plan None full = refl
unput_or t d p x none f plan (Some ss) full = ap (λ l. Some l) (unput_all t d p x none plan.inputs ss full.0)

pub unput_queries : (t : ℕ) (d : List Namespace) (p : StreamId) (x : Element) → readable_to d t p ≡ None → (qs : List (Named SimQuery)) → AllFull t d qs → each (put_sim p x) qs ≡ qs
unput_queries t d p x none [] full = refl
unput_queries t d p x none (q ∷ qs) full =
    λ i. record {
      name = q.name;
      item = record {
        plan = q.item.plan;
        projection_of = q.item.projection_of;
        text = q.item.text;
        base = q.item.base;
        cursor = q.item.cursor;
        stubs = unput_or t d p x none q.item.projection_of q.item.plan q.item.stubs full.0 i;
      };
    } ∷ unput_queries t d p x none qs full.1 i

-- A PIN
cut_narrow : (ps : List ℕ) (next : ℕ) (w : Window) (h : Held) → narrow_pinned ps w (pinned next h) ≡ pinned next (narrow_held ps w h)
cut_narrow ps next w h =
    λ i. record {
      window = w;
      content = map (narrowed ps) h.content;
      unseen =
          (sym (map_take (narrowed ps) (count_before next h.unseen) h.unseen) ∙ (λ i. take (sym (before ps next h.unseen) i) (map (narrowed ps) h.unseen))) i;
    }

-- through all columns of a projection stands what stood through it
twice : (ps : List ℕ) (xs : List Element) → AllByRecursion (HasProjection ps) xs → narrowed_all (whole_projection (length ps)) (narrowed_all ps xs) ≡ narrowed_all ps xs
twice ps [] h = refl
twice ps (x ∷ xs) h = λ i. record { at = x.at; row = (chained x.row ps (whole_projection (length ps)) h.0 ∙ ap (projected x.row) (at_all ps)) i } ∷ twice ps xs h.1 i

-- what a pinned stub holds through its projection is what the pin of what is seen of it holds
content_projected : (t : ℕ) (d : List Namespace) (inputs : List BoundInput) (next c : ℕ) (s : SimStub) → FullStub t d inputs s
    → narrowed_all s.projection (content_of c (pinned next s.held)) ≡ narrowed_all (whole_projection (length s.projection)) (content_of c (pinned next (narrow_held s.projection s.window s.held)))
content_projected t d inputs next c s full =
    let ps = s.projection in
    let P = HasProjection ps in
    let wide : Window = wide_window ps s.window in
    let old = s.held.content in
    let cut = take (count_before next s.held.unseen) s.held.unseen in
    let rows : AllByRecursion P (old ++ cut) = all_front P old s.held.unseen (count_before next s.held.unseen) full.rows in
    let within : AllByRecursion P (content wide c old cut) = each_kept P wide c (old ++ take (front_len wide c cut) cut) (all_front P old cut (front_len wide c cut) rows) in
    ap (λ w. narrowed_all ps (content w c old cut)) full.window
    ∙ sym (twice ps (content wide c old cut) within)
    ∙ ap (narrowed_all (whole_projection (length ps))) (sym (narrow_law ps s.window c old cut rows).content)
    ∙ ap (λ p. narrowed_all (whole_projection (length ps)) (content_of c p)) (cut_narrow ps next s.window s.held)

-- so it is with all stubs, through the projections of the inputs
pub contents_projected : (t : ℕ) (d : List Namespace) (f : StreamId → List ℕ) (inputs : List BoundInput) (next c : ℕ) (is : List Input) (js : List BoundInput)
    (ss : List SimStub) → FullStubs t d inputs ss → AreSet f is js ss
    → through_projections (wide_inputs f is js) (map (content_of c) (map (λ stub. pinned next stub.held) (map stub_of ss))) ≡ through_projections is
    (map (content_of c) (map (λ stub. pinned next stub.held) (map projected_stub ss)))
contents_projected t d f inputs next c [] [] [] full set = refl
contents_projected t d f inputs next c [] [] (s ∷ ss) full set = absurd set
contents_projected t d f inputs next c [] (j ∷ js) ss full set = absurd set
contents_projected t d f inputs next c (i ∷ is) [] ss full set = absurd set
contents_projected t d f inputs next c (i ∷ is) (j ∷ js) [] full set = absurd set
contents_projected t d f inputs next c (i ∷ is) (j ∷ js) (s ∷ ss) full set =
    λ k. (ap (λ ps. narrowed_all ps (content_of c (pinned next s.held))) set.0.1
    ∙ content_projected t d inputs next c s full.0
    ∙ ap (λ ps. narrowed_all ps (content_of c (pinned next (narrow_held s.projection s.window s.held)))) (sym set.0.0)) k
    ∷ contents_projected t d f inputs next c is js ss full.1 set.1 k
