-- The walk over the one window of a plan that shows all of its rows.
use Rattle.std.proofs.Common.{◌≡◌, ◌≢◌, ℕ, ◌+◌, ◌-◌, ◌≤◌, ◌<◌, List, [], ◌∷◌, ◌++◌, map, length, take, Bool, true, false, if◌then◌else◌, nat_lt, Some, None, Ok, Err, refl, sym, ap, ◌∙◌, subst, arith, length-append}
use Rattle.std.specs.List.{AllByRecursion}
use Rattle.std.specs.List.Sorted.{IsPermutation}
use Rattle.std.proofs.lemmas.List.{length-map, length-take, length-drop}
use Rattle.std.proofs.lemmas.List.Sorted.{length_permutation}
use Rattle.cql_value.specs.declared.schema.ColumnType.{ColumnType}
use Rattle.cql_value.specs.Element.{Element}
use Rattle.cql_value.specs.Schema.{HasTypes}
use Rattle.cql_window.specs.declared.span.Moved.{Moved}
use Rattle.cql_window.specs.Span.{rows_in, rows_left, IsWithin}
use Rattle.cql_window.specs.Span.{rows_of as rows_pinned}
use Rattle.cql_window.specs.declared.span.Span.{Span}
use Rattle.cql_window.specs.Through.{narrowed}
use Rattle.cql_window.specs.Walk.{IsExchange}
use Rattle.cql_bag.specs.Bag.{Counts, IsBag, bag_of, minus, listing, size_of}
use Rattle.cql_bag.specs.Law.{IsSameCountsLaw, IsPutAllLaw, IsMinusLaw, IsEntriesLaw}
use Rattle.cql_plan.specs.declared.fault.Fault.TheVariants.{Oversize}
use Rattle.cql_plan.specs.declared.plan.OutputKind.{OutputKind}
use Rattle.cql_plan.specs.declared.plan.OutputKind.TheVariants.{Istream, Dstream, Rstream, Signed}
use Rattle.cql_plan.specs.Ports.{ports, ports_in, later_ports, IsPlain}
use Rattle.cql_algebra.specs.ByKind.{output_of_bags}
use Rattle.cql_algebra.specs.Output.{told}
use Rattle.cql_algebra.specs.declared.told.Output.TheVariants as output
use Rattle.cql_algebra.specs.PlanLaws.{IsChangeTypesLaw}
use Rattle.cql_algebra.specs.PlanValue.{plan_value}
use Rattle.cql_algebra.specs.Blocks.{AreBlocks}
use Rattle.cql_algebra.specs.Runs.{RunsModel}
use Rattle.cql_eval.specs.Answer.{AreBlocksOf}
use Rattle.cql_eval.specs.Pin.{PinModel, IsPin, AreOf}
use Rattle.cql_eval.specs.Projected.{ProjectedWindow, ProjectedWalkModel, projected_by, projected_content, projected_windows, fresh, IsMove}
use Rattle.cql_eval.specs.Relation.{bags_at, relation_of, relation_at, output_at}
use Rattle.cql_eval.specs.Shown.{rows_of, fault_or, IsWalk, AreWalks, StandsFor, next_of}
use Rattle.cql_eval.specs.Passing.{fault_over, HasPassed}
use Rattle.cql_eval.specs.declared.passing.Passing.{Passing}
use Rattle.cql_eval.proofs.Exchange.{Row, exchanged, bag_counts, times_same}
use Rattle.cql_eval.proofs.Holding.{fresh_walks}
use Rattle.cql_eval.proofs.Moves.{columns_of}
use Rattle.cql_eval.proofs.PlainValues.{plain_is, within_limit, size_rows, rows_typed}
use Rattle.cql_eval.proofs.Quiet.{relation_after, relation_none}

-- rows in another order make the same bag
pub same_bag : IsSameCountsLaw → IsPutAllLaw → (xs ys : List Row) → IsPermutation xs ys → bag_of ys ≡ bag_of xs
same_bag same puts xs ys is =
    let a = bag_counts puts ys in
    let b = bag_counts puts xs in
    same _ _ a.0 b.0 (λ q. a.1 q ∙ times_same q xs ys is ∙ sym (b.1 q))

-- ---- what is told

-- what is held more than before, and what less, are what came and didn't leave, and what left and didn't come
exchange_more : IsSameCountsLaw → IsPutAllLaw → IsMinusLaw → (before came left now : List Element) → IsExchange before came left now
    → (minus (bag_of (rows_of came)) (bag_of (rows_of left)) ≡ minus (bag_of (rows_of now)) (bag_of (rows_of before))) × (minus (bag_of (rows_of left)) (bag_of (rows_of came)) ≡ minus (bag_of (rows_of before)) (bag_of (rows_of now)))
exchange_more same puts less before came left now moved =
    let b = bag_counts puts (rows_of before) in
    let c = bag_counts puts (rows_of came) in
    let l = bag_counts puts (rows_of left) in
    let n = bag_counts puts (rows_of now) in
    let first = less _ (bag_of (rows_of left)) c.0 in
    let second = less _ (bag_of (rows_of before)) n.0 in
    let third = less _ (bag_of (rows_of came)) l.0 in
    let fourth = less _ (bag_of (rows_of now)) b.0 in (
      same _ _ first.0 second.0 (λ q. (let f = first.1 q in let s = second.1 q in let e = exchanged q before came left now moved in let w = b.1 q in let x = c.1 q in let y = l.1 q in let z = n.1 q in omega (arith, f, s, e, w, x, y, z))),
      same _ _ third.0 fourth.0 (λ q. (let f = third.1 q in let s = fourth.1 q in let e = exchanged q before came left now moved in let w = b.1 q in let x = c.1 q in let y = l.1 q in let z = n.1 q in omega (arith, f, s, e, w, x, y, z))),
    )

-- the kinds other than Rstream tell by what came and left
pub passed_told : IsSameCountsLaw → IsPutAllLaw → IsMinusLaw → (kind : OutputKind) → kind ≢ Rstream → (before came left now : List Element) → IsExchange before came left now
    → output_of_bags kind (bag_of (rows_of left)) (bag_of (rows_of came)) ≡ output_of_bags kind (bag_of (rows_of before)) (bag_of (rows_of now))
passed_told same puts less Istream other before came left now moved = ap told (exchange_more same puts less before came left now moved).0
passed_told same puts less Dstream other before came left now moved = ap told (exchange_more same puts less before came left now moved).1
passed_told same puts less Rstream other before came left now moved = absurd (other refl)
passed_told same puts less Signed other before came left now moved =
    let both = exchange_more same puts less before came left now moved in
    λ i. (output.Signed (listing (both.0 i)) (listing (both.1 i)))

-- ---- how many rows

between_many : (s : Span) (xs : List Element) → IsWithin s xs → length (rows_in s xs) ≡ s.to - s.from
between_many s xs within = omega (arith, length-drop s.from (take s.to xs), length-take s.to xs, within.1)

-- as many left and are held as were held and came
pub moved_many : (before : List Element) (m : Moved) (k : ProjectedWalkModel) → IsMove before m k → length before + (m.came.to - m.came.from) ≡ (m.left.to - m.left.from) + length m.gone.items + length k.held
moved_many before m k move =
    let rows = rows_pinned k.pin.window in
    let came = projected_by k (rows_in m.came rows) in
    let left = projected_by k (rows_left m rows) in
    let whole : length (left ++ k.held) ≡ length (before ++ came) = length_permutation (before ++ came) (left ++ k.held) move.moved in
    let first : length came ≡ m.came.to - m.came.from = length-map (rows_in m.came rows) (narrowed k.pin.projection) ∙ between_many m.came rows move.came in
    let second : length left ≡ length (rows_left m rows) = length-map (rows_left m rows) (narrowed k.pin.projection) in
    let near = length-append m.gone.items (rows_in m.left rows) in
    let far = between_many m.left rows move.left in
    let a = length-append left k.held in
    let b = length-append before came in
    omega (arith, whole, first, second, near, far, a, b)

-- ---- the one walk

-- it is the only one, over the only window, beside the only port
record IsOnly (c : ℕ) (ts : List (List ColumnType)) (vs : List ProjectedWindow) (k : ProjectedWalkModel) : Type 0 where
  columns : List ColumnType
  window : ProjectedWindow
  ports : ts ≡ columns ∷ []
  windows : vs ≡ window ∷ []
  walk : IsWalk c columns window k

only : (c : ℕ) (ts : List (List ColumnType)) (vs : List ProjectedWindow) (k : ProjectedWalkModel) → AreWalks c ts vs (k ∷ []) → IsOnly c ts vs k
only c [] [] k are = absurd are
only c [] (v ∷ vs) k are = absurd are
only c (t ∷ ts) [] k are = absurd are
only c (t ∷ []) (v ∷ []) k are = record { columns = t; window = v; ports = refl; windows = refl; walk = are.0 }
only c (t ∷ []) (v ∷ w ∷ vs) k are = absurd are.1
only c (t ∷ u ∷ ts) (v ∷ []) k are = absurd are.1
only c (t ∷ u ∷ ts) (v ∷ w ∷ vs) k are = absurd are.1

-- of no later cursor
pub walk_within : (c : ℕ) (ts : List (List ColumnType)) (vs : List ProjectedWindow) (k : ProjectedWalkModel) → AreWalks c ts vs (k ∷ []) → k.cursor ≤ c
walk_within c ts vs k are = (only c ts vs k are).walk.cursor

-- it went on
walk_moved : (c d : ℕ) (ts : List (List ColumnType)) (vs : List ProjectedWindow) (k next : ProjectedWalkModel) (m : Moved) → AreWalks c ts vs (k ∷ []) → next.pin ≡ k.pin → next.cursor ≤ d → IsMove k.held m next → AreWalks d ts vs (next ∷ [])
walk_moved c d ts vs k next m are pin le move =
    let o = only c ts vs k are in
    let at : next.pin ≡ o.window = pin ∙ o.walk.pin in
    let has = columns_of o.columns o.window k.held next m o.walk.rows o.walk.held at move in
    subst (λ l. AreWalks d l vs (next ∷ [])) (sym o.ports)
    (subst (λ l. AreWalks d (o.columns ∷ []) l (next ∷ [])) (sym o.windows)
    (record { pin = at; cursor = le; rows = o.walk.rows; held = has.now }, tt))

-- the same, to be of a later cursor
pub walk_later : (c d : ℕ) (ts : List (List ColumnType)) (vs : List ProjectedWindow) (k : ProjectedWalkModel) → c ≤ d → AreWalks c ts vs (k ∷ []) → AreWalks d ts vs (k ∷ [])
walk_later c d ts vs k le are =
    let o = only c ts vs k are in
    subst (λ l. AreWalks d l vs (k ∷ [])) (sym o.ports)
    (subst (λ l. AreWalks d (o.columns ∷ []) l (k ∷ [])) (sym o.windows)
    (record { pin = o.walk.pin; cursor = omega (arith, o.walk.cursor, le); rows = o.walk.rows; held = o.walk.held }, tt))

-- ---- the relation

rows_are : (columns : List ColumnType) (xs : List Element) → AreOf columns xs → AllByRecursion (HasTypes columns) (rows_of xs)
rows_are columns [] all = tt
rows_are columns (x ∷ xs) all = (all.0, rows_are columns xs all.1)

limited : (b : Bool) (bag : Counts) → relation_of (if b then Err Oversize else Ok bag) ≡ fault_or (if b then Some Oversize else None) bag
limited true bag = refl
limited false bag = refl

same_head : (t u : List ColumnType) → t ∷ [] ≡ u ∷ [] → t ≡ u
same_head t u is = cc

-- the plan has the columns of its one port
plain_columns : (p : PinModel) (plain : IsPlain p.plan) (t : List ColumnType) → ports p.plan ≡ t ∷ [] → t ≡ plain.columns
plain_columns p plain t is = same_head t plain.columns (sym is ∙ (λ i. ports_in (plain.join i) ++ later_ports (plain.combined i)))

-- behind the base the relation is the bag of what the window holds, or the fault that this is
pub passed_relation : IsPutAllLaw → IsEntriesLaw → IsChangeTypesLaw → (p : PinModel) (plain : IsPlain p.plan) (c d : ℕ) (k : ProjectedWalkModel) → p.base < d → AreWalks c (ports p.plan) (projected_windows p) (k ∷ []) → k.held ≡ projected_content d k.pin
    → relation_at p d ≡ fault_or (fault_over p.limit (length k.held)) (bag_of (rows_of k.held))
passed_relation puts entries types p plain c d k based are held =
    let o = only c (ports p.plan) (projected_windows p) k are in
    let bag = bag_of (rows_of k.held) in
    let bags : bags_at d (projected_windows p) ≡ bag ∷ []
    = ap (bags_at d) o.windows ∙ sym (ap (λ l. bag_of (rows_of l) ∷ []) (held ∙ ap (projected_content d) o.walk.pin)) in
    let columns : o.columns ≡ plain.columns = plain_columns p plain o.columns o.ports in
    let typed = rows_typed types plain.columns (rows_of k.held) [] tt (rows_are plain.columns k.held (subst (λ l. AreOf l k.held) columns o.walk.held)) in
    let size : size_of bag ≡ length k.held = (let s = size_rows puts (rows_of k.held) [] in let l = length-map k.held (λ (x : Element). x.row) in omega (arith, s, l)) in
    relation_after p d (within_limit p.limit bag) based (ap (plan_value p.plan p.limit) bags ∙ plain_is entries p.plan plain p.limit bag (bag_counts puts (rows_of k.held)).0 typed)
    ∙ limited (nat_lt p.limit (size_of bag)) bag ∙ ap (λ n. fault_or (fault_over p.limit n) bag) size

-- where a walk went to, what is kept stands for the relation there
pub record IsThere (p : PinModel) (d : ℕ) (s : Passing) : Type 0 where
  pub walk : AreWalks d (ports p.plan) (projected_windows p) (s.walk ∷ [])
  pub stands : StandsFor p.plan.output s.last (bag_of (rows_of s.walk.held)) (relation_at p d)

pub gone_there : IsPutAllLaw → IsEntriesLaw → IsChangeTypesLaw → (p : PinModel) → IsPlain p.plan → p.plan.output ≢ Rstream → (c d : ℕ) (k : ProjectedWalkModel) (s : Passing) (m : Moved) → p.base < d → AreWalks c (ports p.plan) (projected_windows p) (k ∷ [])
    → s.walk.pin ≡ k.pin → s.walk.cursor ≡ d → s.walk.held ≡ projected_content d k.pin → IsMove k.held m s.walk → s.held ≡ length s.walk.held → s.last.fault ≡ fault_over p.limit s.held → IsThere p d s
gone_there puts entries types p plain other c d k s m based are pin cursor held move many fault =
    let walk = walk_moved c d (ports p.plan) (projected_windows p) k s.walk m are pin (omega (arith, cursor)) move in
    record {
      walk = walk;
      stands = record {
        bag = (bag_counts puts (rows_of s.walk.held)).0;
        relation = passed_relation puts entries types p plain d d s.walk based walk (held ∙ ap (projected_content d) (sym pin)) ∙ sym (ap (λ f. fault_or f (bag_of (rows_of s.walk.held))) (fault ∙ ap (fault_over p.limit) many));
        whole = λ e. absurd (other e);
      };
    }

-- ---- before the first row

-- beside one port there is one window
one_window : (t : List ColumnType) (ts : List (List ColumnType)) (vs : List ProjectedWindow) → ts ≡ t ∷ [] → AreWalks 0 ts vs (map fresh vs) → (v : ProjectedWindow) × (vs ≡ v ∷ [])
one_window t ts [] is are = absurd (subst (λ l. AreWalks 0 l [] []) is are)
one_window t ts (v ∷ []) is are = (v, refl)
one_window t ts (v ∷ w ∷ vs) is are = absurd (subst (λ l. AreWalks 0 l (v ∷ w ∷ vs) (map fresh (v ∷ w ∷ vs))) is are).1

last_only : (xs : List ProjectedWalkModel) (k x : ProjectedWalkModel) → x ∷ [] ≡ xs ++ k ∷ [] → k ≡ x
last_only [] k x is = cc
last_only (y ∷ ys) k x is = absurd (omega (arith, ap length is, length-append ys (k ∷ [])))

plain_window : (p : PinModel) → IsPin p → IsPlain p.plan → (v : ProjectedWindow) × (projected_windows p ≡ v ∷ [])
plain_window p pin plain =
    one_window plain.columns (ports p.plan) (projected_windows p) (λ i. ports_in (plain.join i) ++ later_ports (plain.combined i)) (fresh_walks p.plan.inputs (ports p.plan) p.windows pin.windows)

-- there is a walk
pub some_walk : (p : PinModel) (ks : List ProjectedWalkModel) → IsPin p → IsPlain p.plan → ks ≡ map fresh (projected_windows p) → ks ≡ [] → ⊥
some_walk p ks pin plain is none =
    let v = plain_window p pin plain in
    absurd (omega (arith, ap length (sym none ∙ is ∙ ap (map fresh) v.1)))

-- the last walk is the only one
pub first_walk : (p : PinModel) (ks rest : List ProjectedWalkModel) (k : ProjectedWalkModel) → IsPin p → IsPlain p.plan → ks ≡ map fresh (projected_windows p) → ks ≡ rest ++ k ∷ [] → AreWalks 0 (ports p.plan) (projected_windows p) (k ∷ []) × (k.held ≡ []) × (k.cursor ≡ 0)
first_walk p ks rest k pin plain is last =
    let v = plain_window p pin plain in
    let same : k ≡ fresh v.0 = last_only rest k (fresh v.0) (sym (is ∙ ap (map fresh) v.1) ∙ last) in
    let are : AreWalks 0 (ports p.plan) (projected_windows p) (map fresh (projected_windows p)) = fresh_walks p.plan.inputs (ports p.plan) p.windows pin.windows in (
      subst (AreWalks 0 (ports p.plan) (projected_windows p)) (ap (map fresh) v.1 ∙ ap (λ l. l ∷ []) (sym same)) are,
      ap (λ (l : ProjectedWalkModel). l.held) same,
      ap (λ (l : ProjectedWalkModel). l.cursor) same,
    )

-- at the base nothing was told
pub nothing_stands : (p : PinModel) (n : ℕ) (s : Passing) → p.plan.output ≢ Rstream → n ≤ p.base → s.walk.held ≡ [] → s.last.fault ≡ None → StandsFor p.plan.output s.last (bag_of (rows_of s.walk.held)) (relation_at p n)
nothing_stands p n s other le none fault =
    let bag : bag_of (rows_of s.walk.held) ≡ [] = ap (λ l. bag_of (rows_of l)) none in
    record {
      bag = subst IsBag (sym bag) tt;
      relation = relation_none p n le ∙ (λ i. fault_or (sym fault i) (sym bag i));
      whole = λ e. absurd (other e);
    }

-- ---- from instant to instant

pub passed_at : (p : PinModel) (m n : ℕ) (runs : RunsModel) (s : Passing) → m ≡ n → HasPassed p m runs s → HasPassed p n runs s
passed_at p m n runs s is = subst (λ t. HasPassed p t runs s) is

pub passed_here : (p : PinModel) (n : ℕ) (runs : RunsModel) (s : Passing) → HasPassed p n runs s → HasPassed p runs.next runs s
passed_here p n runs s passed = passed_at p n runs.next runs s (sym passed.next) passed

-- at the pin's end, where no instant is left, the blocks are the pin's
pub passed_blocks : (p : PinModel) (ts : List ℕ) (runs : RunsModel) (s : Passing) → length ts ≡ 0 → HasPassed p (next_of ts p.next) runs s → AreBlocksOf p runs.blocks
passed_blocks p [] runs s none passed = subst (λ n. AreBlocks (output_at p) p.from n runs.blocks) passed.next passed.stand.1
passed_blocks p (t ∷ ts) runs s none passed = absurd (omega (arith, none))
