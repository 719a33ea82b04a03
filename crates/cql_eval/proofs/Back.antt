-- A bench that is taken back from the end of a pin to an earlier cursor.
use Rattle.std.proofs.Common.{◌≡◌, ℕ, ◌≤◌, ◌<◌, List, [], ◌∷◌, ◌++◌, length, drop, map, refl, sym, ap, subst, ◌∙◌, append_assoc, append-nil}
use Rattle.std.proofs.Math.Seq.{drop-append_seam, drop-length}
use Rattle.std.proofs.lemmas.List.{map-append}
use Rattle.cql_window.proofs.Narrows.{map_length}
use Rattle.cql_bag.specs.Bag.{bag_of}
use Rattle.cql_plan.specs.declared.plan.Planned.{Planned}
use Rattle.cql_plan.specs.Ports.{ports}
use Rattle.cql_algebra.specs.Ports.{port_of}
use Rattle.cql_ops.specs.Bench.{BenchModel}
use Rattle.cql_ops.specs.OperatorModel.{columns_at}
use Rattle.cql_ops.specs.Running.{RunsPlan, contents_of, told_of}
use Rattle.cql_eval.specs.Pin.{PinModel, AreWindowsOf}
use Rattle.cql_eval.specs.Relation.{bags_at, relation_at}
use Rattle.cql_eval.specs.Projected.{ProjectedWindow, ProjectedWalkModel, projected_content, projected_windows, reached}
use Rattle.cql_eval.specs.Shown.{rows_of, IsWalk, AreWalks, bags_held, IsReady, HasPushed, IsBack, StandsFor}
use Rattle.cql_eval.specs.Kept.{LastAnswerModel}
use Rattle.cql_eval.specs.Warm.{StandsBehind, Meets}
use Rattle.cql_eval.proofs.Holding.{later_walks, walk_at, one_more, next_within, next_bag}
use Rattle.cql_eval.proofs.Resumed.{reached_walks, reached_held}

-- ---- the walks that went back, behind those that are at the end still

-- a walk over the same window, at another cursor
abbrev pub ended : ℕ → ProjectedWalkModel → ProjectedWalkModel
ended n k = reached n k.pin

-- of all walks the first few are at the end
abbrev pub returning : ℕ → List ProjectedWalkModel → List ProjectedWalkModel → List ProjectedWalkModel
returning n all ks = map (ended n) ks ++ drop (length ks) all

all_ended : (n c : ℕ) (vs : List ProjectedWindow) → map (ended n) (map (reached c) vs) ≡ map (reached n) vs
all_ended n c [] = refl
all_ended n c (v ∷ vs) = ap (λ ks. reached n v ∷ ks) (all_ended n c vs)

-- at first all are
pub back_starts : (p : PinModel) (c : ℕ) (all : List ProjectedWalkModel) (o : BenchModel) → AreWindowsOf p.plan.inputs (ports p.plan) p.windows → all ≡ map (reached c) (projected_windows p) → RunsPlan p.plan p.limit o → contents_of p.plan o ≡ bags_at p.next (projected_windows p)
    → IsReady p p.next (returning p.next all all) o
back_starts p c all o windows is runs contents =
    let there : returning p.next all all ≡ map (reached p.next) (projected_windows p)
    = ap (λ l. map (ended p.next) all ++ l) (drop-length all) ∙ append-nil (map (ended p.next) all) ∙ ap (map (ended p.next)) is ∙ all_ended p.next c (projected_windows p) in
    subst (λ ks. IsReady p p.next ks o) (sym there)
    (record {
      runs = runs;
      walks = reached_walks p.next p.plan.inputs (ports p.plan) p.windows windows;
      contents = contents ∙ sym (reached_held p.next (projected_windows p));
    })

pub whole_at_first : (all : List ProjectedWalkModel) → all ++ drop (length all) all ≡ all
whole_at_first all = ap (λ l. all ++ l) (drop-length all) ∙ append-nil all

-- the last of those that are at the end goes back
pub record IsTurn (p : PinModel) (all ks : List ProjectedWalkModel) (k : ProjectedWalkModel) (o : BenchModel) : Type 0 where
  pub walk : IsWalk p.next (columns_at (ports p.plan) (length ks)) k.pin k
  pub input : length ks < length (ports p.plan)
  pub within : length ks < length (contents_of p.plan o)
  pub ended : port_of (contents_of p.plan o) (length ks) ≡ bag_of (rows_of (projected_content p.next k.pin))
  pub whole : ks ++ drop (length ks) all ≡ all
  pub after : (next : BenchModel) → HasPushed p (length ks) (bag_of (rows_of k.held)) o next → IsReady p p.next (returning p.next all ks) next

pub turn : (p : PinModel) (c : ℕ) (all ks : List ProjectedWalkModel) (k : ProjectedWalkModel) (o : BenchModel) → AreWindowsOf p.plan.inputs (ports p.plan) p.windows → c ≤ p.next → all ≡ map (reached c) (projected_windows p)
    → (ks ++ k ∷ []) ++ drop (length (ks ++ k ∷ [])) all ≡ all → IsReady p p.next (returning p.next all (ks ++ k ∷ [])) o → IsTurn p all ks k o
turn p c all ks k o windows le is whole ready =
    let rest = drop (length (ks ++ k ∷ [])) all in
    let ends = map (ended p.next) ks in
    let cut : all ≡ ks ++ k ∷ rest = sym whole ∙ append_assoc ks (k ∷ []) rest in
    let tail : drop (length ks) all ≡ k ∷ rest = ap (drop (length ks)) cut ∙ drop-append_seam ks (k ∷ rest) in
    let size : length ends ≡ length ks = map_length (ended p.next) ks in
    let here : IsReady p p.next (ends ++ ended p.next k ∷ rest) o
    = subst (λ l. IsReady p p.next l o) (ap (λ l. l ++ rest) (map-append (ended p.next) ks (k ∷ [])) ∙ append_assoc ends (ended p.next k ∷ []) rest) ready in
    let walks : AreWalks p.next (ports p.plan) (projected_windows p) (ks ++ k ∷ rest)
    = subst (AreWalks p.next (ports p.plan) (projected_windows p)) (sym is ∙ cut) (later_walks c p.next (ports p.plan) (projected_windows p) (map (reached c) (projected_windows p)) le (reached_walks c p.plan.inputs (ports p.plan) p.windows windows)) in
    let walk : IsWalk p.next (columns_at (ports p.plan) (length ks)) k.pin k = walk_at p.next (ports p.plan) (projected_windows p) ks k rest walks in
    let within = next_within p p.next ends (ended p.next k) rest o here in
    record {
      walk = walk;
      input = subst (λ n. n < length (ports p.plan)) size within.0;
      within = subst (λ n. n < length (contents_of p.plan o)) size within.1;
      ended = ap (port_of (contents_of p.plan o)) (sym size) ∙ next_bag p p.next ends (ended p.next k) rest o here;
      whole = ap (λ l. ks ++ l) tail ∙ sym cut;
      after = λ next pushed. subst (λ l. IsReady p p.next l next) (append_assoc ends (k ∷ []) rest ∙ ap (λ l. ends ++ l) (sym tail))
          (one_more p p.next ends (ended p.next k) k rest o next here
          (subst (λ n. IsWalk p.next (columns_at (ports p.plan) n) k.pin k) (sym size) walk)
          (subst (λ n. HasPushed p n (bag_of (rows_of k.held)) o next) (sym size) pushed));
    }

-- and then all went back
pub all_back : (p : PinModel) (c : ℕ) (all ks : List ProjectedWalkModel) (o after : BenchModel) → all ≡ map (reached c) (projected_windows p) → ks ≡ [] → IsReady p p.next (returning p.next all ks) after → told_of p.plan after ≡ told_of p.plan o → IsBack p c o after
all_back p c all ks o after is none ready told =
    let there : IsReady p p.next all after = subst (λ l. IsReady p p.next (returning p.next all l) after) none ready in
    record { runs = there.runs; contents = there.contents ∙ ap bags_held is ∙ reached_held c (projected_windows p); told = told }

-- ---- what another pin holds there

module _ (k : LastAnswerModel) (q : PinModel) (ks : List ProjectedWalkModel) (o after : BenchModel) (meets : Meets k q) (is : ks ≡ map (reached q.from) (projected_windows q)) where
  pub met_bags : bags_held ks ≡ bags_at q.from (projected_windows q)
  met_bags = ap bags_held is ∙ reached_held q.from (projected_windows q)

  pub met_ready : AreWindowsOf q.plan.inputs (ports q.plan) q.windows → IsBack k.pin q.from o after → IsReady q q.from ks after
  met_ready windows back = record {
    runs = subst (λ l. RunsPlan q.plan l after) meets.limit (subst (λ (r : Planned). RunsPlan r k.pin.limit after) meets.plan back.runs);
    walks = subst (AreWalks q.from (ports q.plan) (projected_windows q)) (sym is) (reached_walks q.from q.plan.inputs (ports q.plan) q.windows windows);
    contents = ap (λ (r : Planned). contents_of r after) (sym meets.plan) ∙ back.contents ∙ meets.same ∙ sym met_bags;
  }

  -- what is kept stands for the relation at the end, since nothing was told on the way back
  pub met_stands : StandsBehind k o → IsBack k.pin q.from o after → StandsFor q.plan.output k.last (told_of q.plan after) (relation_at k.pin k.pin.next)
  met_stands stands back =
      subst (λ (r : Planned). StandsFor r.output k.last (told_of r after) (relation_at k.pin k.pin.next)) meets.plan
      (subst (λ bag. StandsFor k.pin.plan.output k.last bag (relation_at k.pin k.pin.next)) (sym back.told) stands.stands)
