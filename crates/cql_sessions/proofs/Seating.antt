-- Lemmas on whose seat a session has, and of which lines its receipts are.
use Rattle.std.proofs.Common.{◌≡◌, ℕ, arith, Bool, true, false, ◌||◌, not, ◌&&◌, is_none, is_some, List, [], ◌∷◌, ◌++◌, length, take, drop, take-append-drop, Option, Some, None, Result, Ok, Err, OnOk}
use Rattle.std.proofs.Common.{is_ok, refl, ap, sym, ◌∙◌, subst, append_assoc, append-nil, ◌⊎◌, inl, inr}
use Rattle.std.proofs.lemmas.Bool.{eqb-true}
use Rattle.std.proofs.lemmas.List.{take_all, take-append-le}
use Rattle.std.specs.Arc.{arc_value}
use Rattle.std.specs.Bool.{◌==◌}
use Rattle.std.specs.Prelude.{option_map, Vec}
use Rattle.std.specs.declared.alloc.Global.{Global}
use Rattle.std.specs.List.{cons_option}
use Rattle.std.specs.Option.{IfSome}
use Rattle.std.specs.Io.KnownBytes.{Consumes, IsAtEnd, Keeps}
use Rattle.std.proofs.KnownBytes.{Consumes-nil, Consumes-trans, Consumes-kept}
use Rattle.cql_tenants.specs.declared.tenants.Tenant.{Tenant}
use Rattle.cql_hall.specs.declared.hall.Receipt.{Receipt}
use Rattle.cql_hall.specs.declared.hall.Seat.{Seat}
use Rattle.cql_lines.specs.declared.intake.Taken.{Taken}
use Rattle.cql_lines.specs.Coming.{HasCome}
use Rattle.cql_lines.specs.Pieces.{Takes}
use Rattle.cql_lines.specs.Text.{LineText, lines_of, line_found, shown_line}
use Rattle.cql_lines.proofs.Coming.{nothing_came, more_came, next_comes, front_of_all, all_came}
use Rattle.cql_lines.proofs.Finding.{line_found-counted, none_from}
use Rattle.cql_wire.specs.declared.scripts.ScriptError.{ScriptError}
use Rattle.cql_sessions.specs.declared.caller.Caller.{Caller}
use Rattle.cql_sessions.specs.declared.session_state.SessionState.{SessionState}
use Rattle.cql_sessions.specs.Answering.{Account}
use Rattle.cql_sessions.specs.Request.{request_of}
use Rattle.cql_sessions.specs.Seating.{login_among, behind_login, Asks, Serves, Answers, AreFirst, Served, ServedOf, Seated, of_caller, account_of, HasReached, Faces, HasGoneOn, IsNew, Reads}

-- ---- booleans and results

pub clash : {A : Type 0} (b : Bool) → b ≡ true → b ≡ false → A
clash b is isnt = absurd (let e : true ≡ false = sym is ∙ isnt in cc)

pub not_true : (b : Bool) → (b ≡ true → ⊥) → b ≡ false
not_true true isnt = absurd (isnt refl)
not_true false isnt = refl

or_left : (a b : Bool) → a ≡ true → (a || b) ≡ true
or_left a b e = ap (λ x. x || b) e

or_right : (a b : Bool) → b ≡ true → (a || b) ≡ true
or_right true b e = refl
or_right false b e = e

or_none : (a b : Bool) → (a || b) ≡ false → (a ≡ false) × (b ≡ false)
or_none true b e = cc
or_none false b e = (refl, e)

pub not_is_true : (b : Bool) → not b ≡ true → b ≡ false
not_is_true true e = cc
not_is_true false e = refl

pub not_is_false : (b : Bool) → not b ≡ false → b ≡ true
not_is_false true e = refl
not_is_false false e = cc

none_is_some : {A B : Type 0} (x : A) → Some x ≡ None → B
none_is_some x e = absurd (cc)

on_ok_true : {T E : Type 0} (r : Result T E) (P : Type 0) → OnOk r P → is_ok r ≡ true → P
on_ok_true (Ok x) P p well = p
on_ok_true (Err e) P p well = clash true refl (sym well)

-- ---- receipts

asks_none : (lines : List LineText) → Asks lines []
asks_none [] = refl
asks_none (line ∷ lines) = inl (asks_none lines)

asks_more : (lines more : List LineText) (receipts : List Receipt) → Asks lines receipts → Asks (lines ++ more) receipts
asks_more [] more receipts none = subst (Asks more) (sym none) (asks_none more)
asks_more (line ∷ lines) more receipts (inl asks) = inl (asks_more lines more receipts asks)
asks_more (line ∷ lines) more receipts (inr one) =
    let (receipt, later, is, request, asks) = one in inr (receipt, later, is, request, asks_more lines more later asks)

asks_next : (lines : List LineText) (line : LineText) (receipts : List Receipt) (receipt : Receipt) → request_of line ≡ Ok (arc_value receipt.prepared) → Asks lines receipts
    → Asks (lines ++ line ∷ []) (receipts ++ receipt ∷ [])
asks_next [] line receipts receipt request none = inr (receipt, [], ap (λ l. l ++ receipt ∷ []) none, request, refl)
asks_next (first ∷ lines) line receipts receipt request (inl asks) = inl (asks_next lines line receipts receipt request asks)
asks_next (first ∷ lines) line receipts receipt request (inr one) =
    let (before, later, is, its, asks) = one in
    inr (before, later ++ receipt ∷ [], ap (λ l. l ++ receipt ∷ []) is, its, asks_next lines line later receipt request asks)

asks_called : (lines : List LineText) (line : LineText) (old new : List Receipt) → (new ≡ old) ⊎ ((receipt : Receipt) × (request_of line ≡ Ok (arc_value receipt.prepared)) × (new ≡ old ++ receipt ∷ [])) → Asks lines old
    → Asks (lines ++ line ∷ []) new
asks_called lines line old new (inl same) asks = subst (Asks (lines ++ line ∷ [])) (sym same) (asks_more lines (line ∷ []) old asks)
asks_called lines line old new (inr one) asks =
    let (receipt, request, is) = one in subst (Asks (lines ++ line ∷ [])) (sym is) (asks_next lines line old receipt request asks)

-- one line more was answered
serves_more : (table : List Tenant) (lines : List LineText) (line : LineText) (old new : Option Account) → (old ≡ None → lines ≡ []) → Answers table line old new → Serves table lines old
    → Serves table (lines ++ line ∷ []) new
serves_more table [] line None None first answers serves = answers
serves_more table [] line None (Some new) first answers serves = answers
serves_more table [] line (Some old) new first answers serves = none_is_some old serves
serves_more table (login ∷ lines) line None new first answers serves = absurd (let e = first refl in cc)
serves_more table (login ∷ lines) line (Some old) None first answers serves = absurd answers
serves_more table (login ∷ lines) line (Some old) (Some new) first answers serves =
    (serves.0 ∙ ap Some (sym answers.0), asks_called lines line old.receipts new.receipts answers.1 serves.1)

-- ---- the first lines

first_behind : (bytes more : List ℕ) (lines : List LineText) → AreFirst false bytes lines → AreFirst false (bytes ++ more) lines
first_behind bytes more lines first = λ next. let (rest, is) = first (more ++ next) in (rest, ap lines_of (append_assoc bytes more next) ∙ is)

first_at_end : (ended : Bool) (bytes : List ℕ) (lines : List LineText) → AreFirst false bytes lines → AreFirst ended bytes lines
first_at_end false bytes lines first = first
first_at_end true bytes lines first = let (rest, is) = first [] in (rest, ap lines_of (sym (append-nil bytes)) ∙ is)

-- the line that is whole is the next one
first_next : (ended : Bool) (bytes : List ℕ) (lines : List LineText) (line : List ℕ) → HasCome bytes lines line (not ended) → AreFirst ended bytes (lines ++ cons_option (line_found line) [])
first_next false bytes lines line come = λ more. front_of_all bytes (lines ++ cons_option (line_found line) []) [] (next_comes bytes lines line come) more
first_next true bytes lines line come = ([], all_came bytes lines line come ∙ sym (append-nil (lines ++ cons_option (line_found line) [])))

served_behind : (table : List Tenant) (bytes more : List ℕ) (account : Option Account) → Served table false bytes account → Served table false (bytes ++ more) account
served_behind table bytes more account served = record { lines = served.lines; first = first_behind bytes more served.lines served.first; serves = served.serves }

served_at_end : (table : List Tenant) (ended : Bool) (bytes : List ℕ) (account : Option Account) → Served table false bytes account → Served table ended bytes account
served_at_end table ended bytes account served = record { lines = served.lines; first = first_at_end ended bytes served.lines served.first; serves = served.serves }

known_lines : (ended : Bool) (input to_come : Option (List ℕ)) (bytes : List ℕ) (lines : List LineText) → Consumes input to_come bytes → (ended ≡ true → IsAtEnd to_come) → AreFirst ended bytes lines
    → (rest : List LineText) × IfSome input (λ text. lines_of text ≡ lines ++ rest)
known_lines ended None to_come bytes lines consumed at_end first = ([], tt)
known_lines ended (Some text) None bytes lines consumed at_end first = absurd consumed
known_lines false (Some text) (Some left) bytes lines consumed at_end first = let (rest, is) = first left in (rest, ap lines_of consumed ∙ is)
known_lines true (Some text) (Some left) bytes lines consumed at_end first =
    let (rest, is) = first in (rest, ap lines_of (consumed ∙ ap (λ l. bytes ++ l) (at_end refl) ∙ append-nil bytes) ∙ is)

-- of a known input, of which these bytes were consumed
pub served_of_known : (table : List Tenant) (ended : Bool) (input to_come : Option (List ℕ)) (bytes : List ℕ) (account : Option Account) → Consumes input to_come bytes → (ended ≡ true → IsAtEnd to_come)
    → Served table ended bytes account → ServedOf table input account
served_of_known table ended input to_come bytes account consumed at_end served =
    let (rest, is) = known_lines ended input to_come bytes served.lines consumed at_end served.first in
    record { lines = served.lines; rest = rest; first = is; serves = served.serves }

-- ---- between two pieces

-- the input of a session that goes on hasn't ended
unended_still : (table : List Tenant) (bytes : List ℕ) (account : Option Account) (line : List ℕ) (ended over : Bool) → Seated table bytes account line false ended over → over ≡ false → ended ≡ false
unended_still table bytes account line ended over seated going = not_true ended (λ e. clash over (seated.done e refl) going)

waits_with : (whole ended : Bool) → ended ≡ false → whole ≡ (whole && not ended)
waits_with false ended unended = refl
waits_with true ended unended = ap not (sym unended)

-- more of a line came
more_seated : (table : List Tenant) (bytes more : List ℕ) (account : Option Account) (old new : List ℕ) (taken : Taken) (ended over : Bool) → Takes more old new taken → over ≡ false
    → Seated table bytes account old false ended over → Seated table (bytes ++ take taken.count more) account new taken.is_whole ended over
more_seated table bytes more account old new taken ended over takes going seated =
    let unended = unended_still table bytes account old ended over seated going in
    let all = bytes ++ take taken.count more in
    let first = first_behind bytes (take taken.count more) seated.lines (subst (λ e. AreFirst e bytes seated.lines) unended seated.first) in
    record {
      lines = seated.lines;
      come = λ going. subst (HasCome all seated.lines new) (waits_with taken.is_whole ended unended) (more_came bytes more seated.lines old new taken (seated.come going) takes);
      first = subst (λ e. AreFirst e all seated.lines) (sym unended) first;
      serves = seated.serves;
      nobody = seated.nobody;
      done = λ e waits. clash ended e unended;
    }

-- nothing more comes
end_seated : (table : List Tenant) (bytes : List ℕ) (account : Option Account) (line : List ℕ) (ended over : Bool) → over ≡ false → Seated table bytes account line false ended over
    → Seated table bytes account line true true over
end_seated table bytes account line ended over going seated =
    let unended = unended_still table bytes account line ended over seated going in
    record {
      lines = seated.lines;
      come = seated.come;
      first = first_at_end true bytes seated.lines (subst (λ e. AreFirst e bytes seated.lines) unended seated.first);
      serves = seated.serves;
      nobody = seated.nobody;
      done = λ e waits. clash true refl waits;
    }

-- ---- one line

module _ (table : List Tenant) (bytes : List ℕ) (old new : Option Account) (line : List ℕ) (ended over : Bool) (going : over ≡ false) (counts : is_some (line_found line) ≡ true)
    (answers : Answers table (shown_line line) old new) (seated : Seated table bytes old line true ended over) where
  with_next : (lines : List LineText) → lines ++ cons_option (line_found line) [] ≡ lines ++ shown_line line ∷ []
  with_next lines = ap (λ o. lines ++ cons_option o []) (line_found-counted line counts)

  all_first : AreFirst ended bytes (seated.lines ++ shown_line line ∷ [])
  all_first = subst (AreFirst ended bytes) (with_next seated.lines) (first_next ended bytes seated.lines line (seated.come going))

  all_serve : Serves table (seated.lines ++ shown_line line ∷ []) new
  all_serve = serves_more table seated.lines (shown_line line) old new (λ none. seated.nobody none going) answers seated.serves

  -- a line was answered
  pub answered_served : Served table ended bytes new
  answered_served = record { lines = seated.lines ++ shown_line line ∷ []; first = all_first; serves = all_serve }

  next_come : (after : Bool) → (after ≡ false → ended ≡ false) → after ≡ false → HasCome bytes (seated.lines ++ shown_line line ∷ []) [] false
  next_come after unended goes =
      let come = subst (λ e. HasCome bytes seated.lines line (not e)) (unended goes) (seated.come going) in
      subst (λ l. HasCome bytes l [] false) (with_next seated.lines) (next_comes bytes seated.lines line come)

  -- and the next one may come
  pub answered_seated : (after : Bool) → (after ≡ false → ended ≡ false) → (new ≡ None → after ≡ true) → (ended ≡ true → after ≡ true) → Seated table bytes new [] false ended after
  answered_seated after unended refused done = record {
    lines = seated.lines ++ shown_line line ∷ [];
    come = next_come after unended;
    first = all_first;
    serves = all_serve;
    nobody = λ none goes. clash after (refused none) goes;
    done = λ e waits. done e;
  }

-- a blank line was passed over
blank_seated : (table : List Tenant) (bytes : List ℕ) (account : Option Account) (line : List ℕ) (ended over : Bool) → is_some (line_found line) ≡ false
    → Seated table bytes account line true ended over → Seated table bytes account [] false ended (ended || over)
blank_seated table bytes account line ended over blank seated =
    let none = none_from (line_found line) blank in
    record {
      lines = seated.lines;
      come = λ goes.
          let (unended, going) = or_none ended over goes in
          subst (λ l. HasCome bytes l [] false) (ap (λ o. seated.lines ++ cons_option o []) none ∙ append-nil seated.lines)
          (next_comes bytes seated.lines line (subst (HasCome bytes seated.lines line) (ap not unended) (seated.come going)));
      first = seated.first;
      serves = seated.serves;
      nobody = λ nobody goes. seated.nobody nobody (or_none ended over goes).1;
      done = λ e waits. or_left ended over e;
    }

-- ---- a session

reached_by : (table : List Tenant) (bytes : List ℕ) (state : SessionState) (account : Option Account) (line : List ℕ) (waits ended over : Bool) → account_of state.caller ≡ account
    → state.intake ≡ line → state.is_held ≡ waits
    → state.is_ended ≡ ended → state.is_over ≡ over → Seated table bytes account line waits ended over → HasReached table bytes state
reached_by table bytes state account line waits ended over who is held end done seated =
    subst (λ t. Seated table bytes t state.intake state.is_held state.is_ended state.is_over) (sym who)
    (subst (λ l. Seated table bytes account l state.is_held state.is_ended state.is_over) (sym is)
    (subst (λ w. Seated table bytes account line w state.is_ended state.is_over) (sym held)
    (subst (λ e. Seated table bytes account line waits e state.is_over) (sym end) (subst (Seated table bytes account line waits ended) (sym done) seated))))

-- a blank line was passed over
pub blank_reached : (table : List Tenant) (came : List ℕ) (old new : SessionState) → is_some (line_found old.intake) ≡ false → HasGoneOn old new → Faces table came old → HasReached table came new
blank_reached table came old new blank gone faces =
    reached_by table came new (account_of old.caller) [] false old.is_ended (old.is_ended || old.is_over) (ap account_of gone.caller) gone.line gone.held gone.ended gone.over
    (blank_seated table came (account_of old.caller) old.intake old.is_ended old.is_over blank faces)

no_account : (caller : Option Caller) → account_of caller ≡ None → is_none caller ≡ true
no_account None e = refl
no_account (Some caller) e = none_is_some _ e

module _ (table : List Tenant) (came : List ℕ) (old mid : SessionState) (counts : is_some (line_found old.intake) ≡ true) (same : (mid.intake ≡ old.intake) × (mid.is_held ≡ old.is_held) × (mid.is_ended ≡ old.is_ended))
    (going : old.is_over ≡ false) (faces : Faces table came old) where
  -- a line was answered, and the next one may come
  pub answered_reached : (new : SessionState) → Answers table (shown_line old.intake) (account_of old.caller) (account_of mid.caller) → mid.is_over ≡ (is_none mid.caller || old.is_over)
      → HasGoneOn mid new → HasReached table came new
  answered_reached new answers over gone =
      reached_by table came new (account_of mid.caller) [] false old.is_ended (old.is_ended || mid.is_over) (ap account_of gone.caller) gone.line gone.held (gone.ended ∙ same.2)
      (gone.over ∙ ap (λ e. e || mid.is_over) same.2)
      (answered_seated table came (account_of old.caller) (account_of mid.caller) old.intake old.is_ended old.is_over going counts answers faces (old.is_ended || mid.is_over)
      (λ goes. (or_none old.is_ended mid.is_over goes).0)
      (λ none. or_right old.is_ended mid.is_over (over ∙ or_left (is_none mid.caller) old.is_over (no_account mid.caller none)))
      (λ e. or_left old.is_ended mid.is_over e))

  -- a line is held
  pub held_reached : account_of mid.caller ≡ account_of old.caller → mid.is_over ≡ (is_none mid.caller || old.is_over) → Faces table came mid
  held_reached who over =
      let kept : Seated table came (account_of old.caller) old.intake true old.is_ended mid.is_over = record {
        lines = faces.lines;
        come = λ goes. faces.come going;
        first = faces.first;
        serves = faces.serves;
        nobody = λ none goes. faces.nobody none going;
        done = λ e waits. clash true refl waits;
      } in
      subst (λ a. Seated table came a mid.intake true mid.is_ended mid.is_over) (sym who)
      (subst (λ l. Seated table came (account_of old.caller) l true mid.is_ended mid.is_over) (sym same.0) (subst (λ e. Seated table came (account_of old.caller) old.intake true e mid.is_over) (sym same.2) kept))

  same_served : account_of mid.caller ≡ account_of old.caller → Served table mid.is_ended came (account_of mid.caller)
  same_served who =
      subst (λ a. Served table mid.is_ended came a) (sym who)
      (subst (λ e. Served table e came (account_of old.caller)) (sym same.2) (record { lines = faces.lines; first = faces.first; serves = faces.serves }))

  -- a fault came while it was answered
  pub answered_stops : (account_of mid.caller ≡ account_of old.caller) ⊎ Answers table (shown_line old.intake) (account_of old.caller) (account_of mid.caller) → Served table mid.is_ended came (account_of mid.caller)
  answered_stops (inl who) = same_served who
  answered_stops (inr answers) =
      subst (λ e. Served table e came (account_of mid.caller)) (sym same.2)
      (answered_served table came (account_of old.caller) (account_of mid.caller) old.intake old.is_ended old.is_over going counts answers faces)

-- more of a line came
took : (table : List Tenant) (came bytes : List ℕ) (old : SessionState) (line : List ℕ) (taken : Taken) → old.is_held ≡ false → Takes bytes old.intake line taken → old.is_over ≡ false → HasReached table came old
    → Seated table (came ++ take taken.count bytes) (account_of old.caller) line taken.is_whole old.is_ended old.is_over
took table came bytes old line taken idle takes going reached =
    more_seated table came bytes (account_of old.caller) old.intake line taken old.is_ended old.is_over takes going
    (subst (λ w. Seated table came (account_of old.caller) old.intake w old.is_ended old.is_over) idle reached)

-- not a whole one
pub part_reached : (table : List Tenant) (came bytes : List ℕ) (old : SessionState) (line : List ℕ) (taken : Taken) → old.is_held ≡ false → Takes bytes old.intake line taken → taken.is_whole ≡ false → old.is_over ≡ false
    → HasReached table came old → Seated table (came ++ take taken.count bytes) (account_of old.caller) line old.is_held old.is_ended old.is_over
part_reached table came bytes old line taken idle takes part going reached =
    subst (λ w. Seated table (came ++ take taken.count bytes) (account_of old.caller) line w old.is_ended old.is_over) (part ∙ sym idle) (took table came bytes old line taken idle takes going reached)

pub whole_faces : (table : List Tenant) (came bytes : List ℕ) (old : SessionState) (line : List ℕ) (taken : Taken) → old.is_held ≡ false → Takes bytes old.intake line taken → taken.is_whole ≡ true → old.is_over ≡ false
    → HasReached table came old → Seated table (came ++ take taken.count bytes) (account_of old.caller) line true old.is_ended old.is_over
whole_faces table came bytes old line taken idle takes whole going reached =
    subst (λ w. Seated table (came ++ take taken.count bytes) (account_of old.caller) line w old.is_ended old.is_over) whole (took table came bytes old line taken idle takes going reached)

-- nothing more comes
pub end_faces : (table : List Tenant) (came : List ℕ) (old : SessionState) → old.is_held ≡ false → old.is_over ≡ false → HasReached table came old
    → Seated table came (account_of old.caller) old.intake true true old.is_over
end_faces table came old idle going reached =
    end_seated table came (account_of old.caller) old.intake old.is_ended old.is_over going (subst (λ w. Seated table came (account_of old.caller) old.intake w old.is_ended old.is_over) idle reached)

-- ---- one read

pub state_unended : (table : List Tenant) (bytes : List ℕ) (state : SessionState) → state.is_held ≡ false → state.is_over ≡ false → HasReached table bytes state → state.is_ended ≡ false
state_unended table bytes state idle going reached = not_true state.is_ended (λ e. clash state.is_over (reached.done e idle) going)

unended_served : (table : List Tenant) (bytes : List ℕ) (state : SessionState) → state.is_ended ≡ false → HasReached table bytes state → Served table false bytes (account_of state.caller)
unended_served table bytes state unended reached = record { lines = reached.lines; first = subst (λ e. AreFirst e bytes reached.lines) unended reached.first; serves = reached.serves }

-- more bytes came, and nothing was done with them
pub same_served_behind : (table : List Tenant) (came more : List ℕ) (old : SessionState) (ended : Bool) → old.is_held ≡ false → old.is_over ≡ false → HasReached table came old
    → Served table ended (came ++ more) (account_of old.caller)
same_served_behind table came more old ended idle going reached =
    served_at_end table ended (came ++ more) (account_of old.caller)
    (served_behind table came more (account_of old.caller) (unended_served table came old (state_unended table came old idle going reached) reached))

-- a fault came while a line of the bytes was answered
pub whole_stops : (table : List Tenant) (came bytes : List ℕ) (n : ℕ) (ended : Bool) (account : Option Account) → ended ≡ false → Served table ended (came ++ take n bytes) account
    → Served table false (came ++ bytes) account
whole_stops table came bytes n ended account unended served =
    let front = served_behind table (came ++ take n bytes) (drop n bytes) account (subst (λ e. Served table e (came ++ take n bytes) account) unended served) in
    subst (λ l. Served table false l account) (append_assoc came (take n bytes) (drop n bytes) ∙ ap (λ l. came ++ l) (take-append-drop n bytes)) front

-- nothing came
pub nowhere : (table : List Tenant) (state : SessionState) (came : List ℕ) → HasReached table came state → HasReached table (came ++ []) state
nowhere table state came reached = subst (λ l. HasReached table l state) (sym (append-nil came)) reached

-- nothing was done before a fault
pub still_reads : (table : List Tenant) (state : SessionState) (input to_come : Option (List ℕ)) (well : Bool) → state.is_held ≡ false → Keeps input to_come → state.is_over ≡ false
    → Reads table state state input to_come well
still_reads table state input to_come well idle keeps going = record {
  bytes = [];
  consumed = Consumes-kept input input to_come [] (Consumes-nil input) keeps;
  at_end = λ unended ended. clash state.is_ended ended unended;
  served = λ came reached. same_served_behind table came [] state state.is_ended idle going reached;
  going = λ well going came reached. nowhere table state came reached;
}

-- the end of the input was answered
pub end_reads : (table : List Tenant) (old new : SessionState) (input to_come : Option (List ℕ)) (well : Bool) → Consumes input to_come [] → IsAtEnd to_come
    → ((came : List ℕ) → HasReached table came old → HasReached table came new) → Reads table old new input to_come well
end_reads table old new input to_come well consumed at_end seats = record {
  bytes = [];
  consumed = consumed;
  at_end = λ unended ended. at_end;
  served = λ came reached.
      let v = seats came reached in
      subst (λ l. Served table new.is_ended l (account_of new.caller)) (sym (append-nil came)) (record { lines = v.lines; first = v.first; serves = v.serves });
  going = λ well going came reached. subst (λ l. HasReached table l new) (sym (append-nil came)) (seats came reached);
}

-- the end of the input was read, and its line met a fault
pub end_stops : (table : List Tenant) (old new : SessionState) (input to_come : Option (List ℕ)) (well : Bool) → well ≡ false → Consumes input to_come [] → IsAtEnd to_come
    → ((came : List ℕ) → HasReached table came old → Served table new.is_ended came (account_of new.caller)) → Reads table old new input to_come well
end_stops table old new input to_come well failed consumed at_end stops = record {
  bytes = [];
  consumed = consumed;
  at_end = λ unended ended. at_end;
  served = λ came reached. subst (λ l. Served table new.is_ended l (account_of new.caller)) (sym (append-nil came)) (stops came reached);
  going = λ well. clash _ well failed;
}

-- a chunk after a read: what was read, and behind it what stood there
pub chunk_read : (len n : ℕ) (read items after : List ℕ) → after ≡ take len (read ++ drop (length read) items) → length read ≡ len → take n read ≡ take n after
chunk_read len n read items after is size =
    ap (take n) (sym (is ∙ take-append-le len read (drop (length read) items) (omega (arith, size)) ∙ take_all len read (omega (arith, size))))

-- the lines of the bytes that were read were answered
pub lines_read : (table : List Tenant) (old new : SessionState) (input to_come : Option (List ℕ)) (bytes read : List ℕ) (r : Result (Unit {0}) ScriptError) → old.is_held ≡ false → new.is_ended ≡ old.is_ended
    → (old.is_ended ≡ false → (came : List ℕ) → HasReached table came old → Served table false (came ++ bytes) (account_of new.caller))
    → OnOk r (new.is_over ≡ false → (came : List ℕ) → HasReached table came old → HasReached table (came ++ bytes) new)
    → old.is_over ≡ false → Consumes input to_come read → read ≡ bytes → Reads table old new input to_come (is_ok r)
lines_read table old new input to_come bytes read r idle same served seats going consumed is = record {
  bytes = bytes;
  consumed = subst (Consumes input to_come) is consumed;
  at_end = λ unended ended. clash new.is_ended ended (same ∙ unended);
  served = λ came reached. served_at_end table new.is_ended (came ++ bytes) (account_of new.caller) (served (state_unended table came old idle going reached) came reached);
  going = on_ok_true r _ seats;
}

-- ---- lines one after another

pub further : (table : List Tenant) (old mid new : SessionState) (used next : List ℕ) → ((came : List ℕ) → HasReached table came old → HasReached table (came ++ used) mid)
    → ((came : List ℕ) → HasReached table came mid → HasReached table (came ++ next) new) → (came : List ℕ) → HasReached table came old → HasReached table (came ++ (used ++ next)) new
further table old mid new used next one two came reached = subst (λ l. HasReached table l new) (append_assoc came used next) (two (came ++ used) (one came reached))

pub none_left : (xs : List ℕ) → (length xs == 0) ≡ true → xs ≡ []
none_left [] e = refl
none_left (x ∷ xs) e = absurd (let long : length (x ∷ xs) ≡ 0 = eqb-true (length (x ∷ xs)) 0 e in omega arith)

-- some of the bytes are used, whatever the rest
pub used_served : (table : List Tenant) (old mid : SessionState) (all used rest : List ℕ) → all ≡ used ++ rest → mid.is_ended ≡ old.is_ended
    → ((came : List ℕ) → HasReached table came old → HasReached table (came ++ used) mid) → old.is_ended ≡ false → (came : List ℕ) → HasReached table came old
    → Served table false (came ++ all) (account_of mid.caller)
used_served table old mid all used rest is same one unended came reached =
    let text : (came ++ used) ++ rest ≡ came ++ all = append_assoc came used rest ∙ ap (λ l. came ++ l) (sym is) in
    subst (λ l. Served table false l (account_of mid.caller)) text
    (served_behind table (came ++ used) rest (account_of mid.caller) (unended_served table (came ++ used) mid (same ∙ unended) (one came reached)))

-- a fault came in the rest of them
pub used_stops : (table : List Tenant) (old mid new : SessionState) (all used rest : List ℕ) → all ≡ used ++ rest → ((came : List ℕ) → HasReached table came old → HasReached table (came ++ used) mid)
    → ((came : List ℕ) → HasReached table came mid → Served table false (came ++ rest) (account_of new.caller)) → old.is_ended ≡ false → (came : List ℕ) → HasReached table came old
    → Served table false (came ++ all) (account_of new.caller)
used_stops table old mid new all used rest is one stops unended came reached =
    subst (λ l. Served table false l (account_of new.caller)) (append_assoc came used rest ∙ ap (λ l. came ++ l) (sym is)) (stops (came ++ used) (one came reached))

-- all bytes are used
pub all_used : (table : List Tenant) (old new : SessionState) (all used rest : List ℕ) → all ≡ used ++ rest → rest ≡ []
    → ((came : List ℕ) → HasReached table came old → HasReached table (came ++ used) new) → (came : List ℕ) → HasReached table came old → HasReached table (came ++ all) new
all_used table old new all used rest is none one came reached =
    subst (λ l. HasReached table (came ++ l) new) (sym (is ∙ ap (λ l. used ++ l) none ∙ append-nil used)) (one came reached)

-- ---- from the beginning

-- what has come since the beginning of a session that goes on
pub record SoFar (table : List Tenant) (state : SessionState) (input to_come : Option (List ℕ)) : Type 0 where
  pub bytes : List ℕ
  pub consumed : Consumes input to_come bytes
  pub reached : HasReached table bytes state
  pub held : state.is_held ≡ false
  pub over : state.is_over ≡ false

pub begins : (table : List Tenant) (state : SessionState) (input : Option (List ℕ)) → IsNew state → SoFar table state input input
begins table state input new =
    let nobody : account_of state.caller ≡ None = ap account_of new.caller in
    let come = subst (λ l. HasCome [] [] l false) (sym new.line) nothing_came in
    record {
      bytes = [];
      consumed = Consumes-nil input;
      reached = record {
        lines = [];
        come = λ going. subst (λ h. HasCome [] [] state.intake (h && not state.is_ended)) (sym new.held) come;
        first = subst (λ e. AreFirst e [] []) (sym new.ended) (λ more. front_of_all [] [] [] nothing_came more);
        serves = nobody;
        nobody = λ none going. refl;
        done = λ e idle. clash state.is_ended e new.ended;
      };
      held = new.held;
      over = new.over;
    }

pub nobody_yet : (table : List Tenant) (state : SessionState) (input : Option (List ℕ)) → IsNew state → ServedOf table input (account_of state.caller)
nobody_yet table state input new = served_of_known table false input input [] (account_of state.caller) (Consumes-nil input) (λ ended. clash true refl (sym ended))
    (record { lines = []; first = λ more. front_of_all [] [] [] nothing_came more; serves = ap account_of new.caller })

pub reads_on : (table : List Tenant) (old new : SessionState) (input middle to_come : Option (List ℕ)) → new.is_held ≡ false → new.is_over ≡ false → (old.is_over ≡ false → Reads table old new middle to_come true)
    → SoFar table old input middle → SoFar table new input to_come
reads_on table old new input middle to_come held over reads so =
    let r = reads so.over in
    record {
      bytes = so.bytes ++ r.bytes;
      consumed = Consumes-trans input middle to_come so.bytes r.bytes so.consumed r.consumed;
      reached = r.going refl over so.bytes so.reached;
      held = held;
      over = over;
    }

pub reads_served : (table : List Tenant) (old new : SessionState) (input middle to_come : Option (List ℕ)) (well : Bool) → (old.is_over ≡ false → Reads table old new middle to_come well)
    → SoFar table old input middle → ServedOf table input (account_of new.caller)
reads_served table old new input middle to_come well reads so =
    let r = reads so.over in
    served_of_known table new.is_ended input to_come (so.bytes ++ r.bytes) (account_of new.caller) (Consumes-trans input middle to_come so.bytes r.bytes so.consumed r.consumed)
    (λ ended. r.at_end (state_unended table so.bytes old so.held so.over so.reached) ended) (r.served so.bytes so.reached)

pub going_served : (table : List Tenant) (state : SessionState) (input to_come : Option (List ℕ)) → SoFar table state input to_come → ServedOf table input (account_of state.caller)
going_served table state input to_come so =
    served_of_known table false input to_come so.bytes (account_of state.caller) so.consumed (λ ended. clash true refl (sym ended))
    (unended_served table so.bytes state (state_unended table so.bytes state so.held so.over so.reached) so.reached)

-- ---- at the end

login_served : (table : List Tenant) (lines rest : List LineText) (account : Account) → Serves table lines (Some account) → login_among table (lines ++ rest) ≡ Some account.seat.tenant
login_served table [] rest account serves = none_is_some account serves
login_served table (login ∷ lines) rest account serves = serves.0

asks_served : (table : List Tenant) (lines rest : List LineText) (account : Account) → Serves table lines (Some account) → Asks (behind_login (lines ++ rest)) account.receipts
asks_served table [] rest account serves = none_is_some account serves
asks_served table (login ∷ lines) rest account serves = asks_more lines rest account.receipts serves.1

pub login_of_served : (table : List Tenant) (input : Option (List ℕ)) (account : Account) → ServedOf table input (Some account) → IfSome input (λ text. login_among table (lines_of text) ≡ Some account.seat.tenant)
login_of_served table None account served = tt
login_of_served table (Some text) account served = ap (login_among table) served.first ∙ login_served table served.lines served.rest account served.serves

pub asks_of_served : (table : List Tenant) (input : Option (List ℕ)) (account : Account) → ServedOf table input (Some account) → IfSome input (λ text. Asks (behind_login (lines_of text)) account.receipts)
asks_of_served table None account served = tt
asks_of_served table (Some text) account served = subst (λ l. Asks (behind_login l) account.receipts) (sym served.first) (asks_served table served.lines served.rest account served.serves)

-- what is left at the end of a session
pub end_login : (table : List Tenant) (input : Option (List ℕ)) (caller : Option Caller) (seat : Option Seat) → seat ≡ option_map (λ c. c.seat) caller → ServedOf table input (account_of caller)
    → IfSome seat (λ s. IfSome input (λ text. login_among table (lines_of text) ≡ Some s.tenant))
end_login table input None seat is served = subst (λ o. IfSome o (λ s. IfSome input (λ text. login_among table (lines_of text) ≡ Some s.tenant))) (sym is) tt
end_login table input (Some caller) seat is served =
    subst (λ o. IfSome o (λ s. IfSome input (λ text. login_among table (lines_of text) ≡ Some s.tenant))) (sym is) (login_of_served table input (of_caller caller) served)

pub end_asks : (table : List Tenant) (input : Option (List ℕ)) (caller : Option Caller) (seat : Option Seat) (receipts : Vec Receipt Global) → seat ≡ option_map (λ c. c.seat) caller
    → IfSome caller (λ c. receipts ≡ c.receipts)
    → ServedOf table input (account_of caller) → IfSome seat (λ s. IfSome input (λ text. Asks (behind_login (lines_of text)) receipts.items))
end_asks table input None seat receipts is are served = subst (λ o. IfSome o (λ s. IfSome input (λ text. Asks (behind_login (lines_of text)) receipts.items))) (sym is) tt
end_asks table input (Some caller) seat receipts is are served =
    subst (λ o. IfSome o (λ s. IfSome input (λ text. Asks (behind_login (lines_of text)) receipts.items))) (sym is)
    (subst (λ v. IfSome input (λ text. Asks (behind_login (lines_of text)) v.items)) (sym are) (asks_of_served table input (of_caller caller) served))
