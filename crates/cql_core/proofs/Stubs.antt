-- A stub against all rows of its input.
use Rattle.std.proofs.Common.{◌≡◌, ℕ, ◌+◌, ◌≤◌, Bool, true, false, not, ◌||◌, List, [], ◌∷◌, ◌++◌, map, refl, ap, ◌∙◌, sym, arith}
use Rattle.std.specs.Prelude.{Some, None, option_map, unwrap_or, nat_lt, if◌then◌else◌}
use Rattle.std.specs.List.{list_any}
use Rattle.std.proofs.lemmas.Bool.Decides.{nat_tests}
use Rattle.cql_value.specs.Element.{Element}
use Rattle.cql_window.specs.declared.window.Window.{Window}
use Rattle.cql_window.specs.Window.{content, beyond, charge}
use Rattle.cql_window.proofs.Laws.{content_later, beyond_later, charge_law}
use Rattle.cql_store.specs.Held.{Held, fed, advanced, pinned}
use Rattle.cql_core.specs.StreamId.{StreamId, same_stream_id}
use Rattle.cql_core.specs.Bound.{BoundInput}
use Rattle.cql_core.specs.Language.{content_of}
use Rattle.cql_core.specs.Solo.{Came, SoloQuery, rows_on, whole, moved, passes}
use Rattle.cql_core.specs.Trimmed.{lost, kept, held_over}
use Rattle.cql_core.proofs.Keys.{or_false}
use Rattle.cql_core.proofs.Simulation.{ProjectedStub, ProjectedLive, projected_stub, stub_over, trimmed, new_sim_stub}
use Rattle.cql_core.proofs.Windows.{content_more, beyond_more, content_cut, content_none, beyond_none, charge_none}

-- what is done to a stub and to a query, as it is seen by the chosen columns
abbrev pub put_shown : StreamId → Element → ProjectedStub → ProjectedStub
put_shown stream_id x stub = if same_stream_id stub.stream_id stream_id then record stub { held = fed x stub.held } else stub

abbrev pub put_live_shown : StreamId → Element → ProjectedLive → ProjectedLive
put_live_shown stream_id x q = record q { stubs = option_map (map (put_shown stream_id x)) q.stubs }

abbrev pub ack_shown : ℕ → ProjectedStub → ProjectedStub
ack_shown to stub = record stub { held = advanced to stub.held }

abbrev pub ack_live_shown : ℕ → ProjectedLive → ProjectedLive
ack_live_shown to q = record q { cursor = to; stubs = option_map (map (ack_shown to)) q.stubs }

abbrev pub overrun_shown : ProjectedLive → Bool
overrun_shown q = list_any (λ stub. stub.held.overrun) (unwrap_or q.stubs [])

abbrev by_charge : Bool → ℕ → ℕ → BoundInput → List Element → Held
by_charge over hold c i rows = if over then lost hold c i else kept hold c i rows

rows_push : (s : StreamId) (cs : List Came) (p : StreamId) (x : Element) → rows_on s (cs ++ record { stream_id = p; element = x } ∷ []) ≡ rows_on s cs ++ (if same_stream_id s p then x ∷ [] else [])
rows_push s [] p x = by (same_stream_id s p)
  where
    by : (b : Bool) → (if b then x ∷ [] else []) ≡ [] ++ (if b then x ∷ [] else [])
    by b = refl
rows_push s (c ∷ cs) p x = by (rows_push s cs p x) (same_stream_id s c.stream_id)
  where
    by : rows_on s (cs ++ record { stream_id = p; element = x } ∷ []) ≡ rows_on s cs ++ (if same_stream_id s p then x ∷ [] else []) → (b : Bool)
        → (if b then c.element ∷ rows_on s (cs ++ record { stream_id = p; element = x } ∷ []) else rows_on s (cs ++ record { stream_id = p; element = x } ∷ []))
        ≡ (if b then c.element ∷ rows_on s cs else rows_on s cs) ++ (if same_stream_id s p then x ∷ [] else [])
    by rest true = ap (λ l. c.element ∷ l) rest
    by rest false = rest

append_none : (xs : List Element) → xs ++ [] ≡ xs
append_none [] = refl
append_none (x ∷ xs) = ap (λ l. x ∷ l) (append_none xs)

-- a row more passes the hold exactly where there is no room for it
no_room : (hold n : ℕ) (b : Bool) → nat_lt n hold ≡ b → nat_lt hold (n + 1) ≡ not b
no_room hold n true h = grind (arith, nat_tests)
no_room hold n false h = grind (arith, nat_tests)

still_over : (hold n : ℕ) → nat_lt hold n ≡ true → nat_lt hold (n + 1) ≡ true
still_over hold n h = grind (arith, nat_tests)

still_room : (hold m n : ℕ) → m ≤ n → nat_lt hold n ≡ false → nat_lt hold m ≡ false
still_room hold m n le h = grind (arith, nat_tests)

never_over : (hold : ℕ) → nat_lt hold 0 ≡ false
never_over hold = grind (arith, nat_tests)

charge_more : (w : Window) (c : ℕ) (rows : List Element) (x : Element) → c ≤ x.at → charge w c [] (rows ++ x ∷ []) ≡ charge w c [] rows + 1
charge_more w c rows x le = (charge_law w c [] rows).more x le

-- A NEW STUB
stub_new : (hold base : ℕ) (projection_of : StreamId → List ℕ) (i : BoundInput) → projected_stub (new_sim_stub hold base projection_of i) ≡ stub_over hold base i []
stub_new hold base projection_of i =
    let over : nat_lt hold (charge i.window base [] []) ≡ false = ap (nat_lt hold) (charge_none i.window base) ∙ never_over hold in
    (λ j. record { stream_id = i.stream_id; held = record { window = i.window; cursor = base; hold = hold; content = sym (content_none i.window base) j; unseen = sym (beyond_none i.window base) j; overrun = false } })
    ∙ ap (λ b. record { stream_id = i.stream_id; held = by_charge b hold base i [] }) (sym over)

pub new_inputs : (hold base : ℕ) (projection_of : StreamId → List ℕ) (is : List BoundInput) → map projected_stub (map (new_sim_stub hold base projection_of) is) ≡ map (λ i. stub_over hold base i []) is
new_inputs hold base projection_of [] = refl
new_inputs hold base projection_of (i ∷ is) = λ j. stub_new hold base projection_of i j ∷ new_inputs hold base projection_of is j

-- A ROW MORE
module _ (hold c : ℕ) (i : BoundInput) (rows : List Element) (x : Element) (le : c ≤ x.at) where
  more : (b : Bool) → nat_lt hold (charge i.window c [] rows + 1) ≡ b → nat_lt hold (charge i.window c [] (rows ++ x ∷ [])) ≡ b
  more b is = ap (nat_lt hold) (charge_more i.window c rows x le) ∙ is

  fed_room : (b : Bool) → nat_lt (charge i.window c [] rows) hold ≡ b
      → (if b then record (kept hold c i rows) { unseen = beyond i.window c rows ++ x ∷ [] } else lost hold c i) ≡ held_over hold c i (rows ++ x ∷ [])
  fed_room true room =
      (λ j. record { window = i.window; cursor = c; hold = hold; content = sym (content_more i.window c [] rows x le) j; unseen = sym (beyond_more i.window c rows x le) j; overrun = false })
      ∙ ap (λ b. by_charge b hold c i (rows ++ x ∷ [])) (sym (more false (no_room hold _ true room)))
  fed_room false room = ap (λ b. by_charge b hold c i (rows ++ x ∷ [])) (sym (more true (no_room hold _ false room)))

  fed_by : (b : Bool) → nat_lt hold (charge i.window c [] rows) ≡ b → fed x (by_charge b hold c i rows) ≡ held_over hold c i (rows ++ x ∷ [])
  fed_by true over = ap (λ b. by_charge b hold c i (rows ++ x ∷ [])) (sym (more true (still_over hold _ over)))
  fed_by false over = fed_room _ refl

  fed_held : fed x (held_over hold c i rows) ≡ held_over hold c i (rows ++ x ∷ [])
  fed_held = fed_by _ refl

-- a row of some stream
feed_rows : (hold c : ℕ) (i : BoundInput) (rows : List Element) (p : StreamId) (x : Element) → (same_stream_id i.stream_id p ≡ true → c ≤ x.at)
    → put_shown p x (stub_over hold c i rows) ≡ stub_over hold c i (rows ++ (if same_stream_id i.stream_id p then x ∷ [] else []))
feed_rows hold c i rows p x le = by (same_stream_id i.stream_id p) refl
  where
    by : (b : Bool) → same_stream_id i.stream_id p ≡ b
        → (if b then record (stub_over hold c i rows) { held = fed x (held_over hold c i rows) } else stub_over hold c i rows) ≡ stub_over hold c i (rows ++ (if b then x ∷ [] else []))
    by true same = λ j. record { stream_id = i.stream_id; held = fed_held hold c i rows x (le same) j }
    by false same = ap (stub_over hold c i) (sym (append_none rows))

pub feed_stub : (hold c : ℕ) (i : BoundInput) (cs : List Came) (p : StreamId) (x : Element) → (same_stream_id i.stream_id p ≡ true → c ≤ x.at)
    → put_shown p x (stub_over hold c i (rows_on i.stream_id cs)) ≡ stub_over hold c i (rows_on i.stream_id (cs ++ record { stream_id = p; element = x } ∷ []))
feed_stub hold c i cs p x le = feed_rows hold c i (rows_on i.stream_id cs) p x le ∙ ap (stub_over hold c i) (sym (rows_push i.stream_id cs p x))

-- A LATER CURSOR
advanced_held : (hold c to : ℕ) (i : BoundInput) (rows : List Element) → c ≤ to → nat_lt hold (charge i.window c [] rows) ≡ false → advanced to (held_over hold c i rows) ≡ held_over hold to i rows
advanced_held hold c to i rows le over =
    let less : nat_lt hold (charge i.window to [] rows) ≡ false = still_room hold _ _ ((charge_law i.window c [] rows).later to le) over in
    ap (λ b. advanced to (by_charge b hold c i rows)) over
    ∙ (λ j. record { window = i.window; cursor = to; hold = hold; content = content_later i.window c to [] rows le j; unseen = beyond_later i.window c to rows le j; overrun = false })
    ∙ ap (λ b. by_charge b hold to i rows) (sym less)

-- WHAT A FETCH SEES AT A CURSOR OF ITS INTERVAL
pinned_held : (hold from c next : ℕ) (i : BoundInput) (rows : List Element) → from ≤ c → c ≤ next → nat_lt hold (charge i.window from [] rows) ≡ false
    → content_of c (pinned next (held_over hold from i rows)) ≡ content i.window c [] rows
pinned_held hold from c next i rows ge le over =
    ap (λ b. content_of c (pinned next (by_charge b hold from i rows))) over
    ∙ content_cut i.window c next (content i.window from [] rows) (beyond i.window from rows) le
    ∙ content_later i.window from c [] rows ge

-- QUERIES
overrun_by : (b : Bool) (hold c : ℕ) (i : BoundInput) (rows : List Element) → (by_charge b hold c i rows).overrun ≡ b
overrun_by true hold c i rows = refl
overrun_by false hold c i rows = refl

-- a query is overrun at the put exactly where it is asked from all its rows
overrun_inputs : (hold c : ℕ) (cs : List Came) (is : List BoundInput)
    → list_any (λ stub. stub.held.overrun) (map (λ i. stub_over hold c i (rows_on i.stream_id cs)) is) ≡ list_any (λ i. nat_lt hold (charge i.window c [] (rows_on i.stream_id cs))) is
overrun_inputs hold c cs [] = refl
overrun_inputs hold c cs (i ∷ is) = λ j. overrun_by (nat_lt hold (charge i.window c [] (rows_on i.stream_id cs))) hold c i (rows_on i.stream_id cs) j || overrun_inputs hold c cs is j

pub overrun_same : (hold : ℕ) (q : SoloQuery) → q.gone ≡ false → overrun_shown (trimmed hold q) ≡ passes hold q
overrun_same hold q live =
    (λ j. list_any (λ stub. stub.held.overrun) (unwrap_or (if live j then None else Some (map (λ i. stub_over hold q.cursor i (rows_on i.stream_id q.came)) q.plan.inputs)) []))
    ∙ overrun_inputs hold q.cursor q.came q.plan.inputs

acked_inputs : (hold c to : ℕ) (cs : List Came) → c ≤ to → (is : List BoundInput) → list_any (λ i. nat_lt hold (charge i.window c [] (rows_on i.stream_id cs))) is ≡ false
    → map (ack_shown to) (map (λ i. stub_over hold c i (rows_on i.stream_id cs)) is) ≡ map (λ i. stub_over hold to i (rows_on i.stream_id cs)) is
acked_inputs hold c to cs le [] over = refl
acked_inputs hold c to cs le (i ∷ is) over =
    let both = or_false _ _ over in λ j. record { stream_id = i.stream_id; held = advanced_held hold c to i (rows_on i.stream_id cs) le both.0 j } ∷ acked_inputs hold c to cs le is both.1 j

acked_stubs : (hold c to : ℕ) (cs : List Came) → c ≤ to → (is : List BoundInput) → list_any (λ i. nat_lt hold (charge i.window c [] (rows_on i.stream_id cs))) is ≡ false → (gone : Bool)
    → option_map (map (ack_shown to)) (if gone then None else Some (map (λ i. stub_over hold c i (rows_on i.stream_id cs)) is)) ≡ (if gone then None else Some (map (λ i. stub_over hold to i (rows_on i.stream_id cs)) is))
acked_stubs hold c to cs le is over true = refl
acked_stubs hold c to cs le is over false = ap (λ l. Some l) (acked_inputs hold c to cs le is over)

pub acked_same : (hold to : ℕ) (q : SoloQuery) → q.cursor ≤ to → passes hold q ≡ false → ack_live_shown to (trimmed hold q) ≡ trimmed hold (moved to q)
acked_same hold to q le over = λ j. record { plan = q.plan; text = q.text; base = q.base; cursor = to; stubs = acked_stubs hold q.cursor to q.came le q.plan.inputs over q.gone j }

contents_inputs : (hold from c next : ℕ) (cs : List Came) → from ≤ c → c ≤ next → (is : List BoundInput) → list_any (λ i. nat_lt hold (charge i.window from [] (rows_on i.stream_id cs))) is ≡ false
    → map (content_of c) (map (λ stub. pinned next stub.held) (map (λ i. stub_over hold from i (rows_on i.stream_id cs)) is)) ≡ map (content_of c)
    (map (λ i. record { window = i.window; content = []; unseen = rows_on i.stream_id cs }) is)
contents_inputs hold from c next cs ge le [] over = refl
contents_inputs hold from c next cs ge le (i ∷ is) over =
    let both = or_false _ _ over in λ j. pinned_held hold from c next i (rows_on i.stream_id cs) ge le both.0 j ∷ contents_inputs hold from c next cs ge le is both.1 j

pub contents_same : (hold c next : ℕ) (q : SoloQuery) → q.cursor ≤ c → c ≤ next → passes hold q ≡ false
    → map (content_of c) (map (λ stub. pinned next stub.held) (map (λ i. stub_over hold q.cursor i (rows_on i.stream_id q.came)) q.plan.inputs)) ≡ map (content_of c) (map (whole q) q.plan.inputs)
contents_same hold c next q ge le over = contents_inputs hold q.cursor c next q.came ge le q.plan.inputs over
