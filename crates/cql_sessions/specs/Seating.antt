-- Whose seat a session has, and of which lines its receipts are.
use Rattle.std.specs.Prelude.{◌≡◌, ℕ, ◌⊎◌, Bool, true, false, not, ◌&&◌, ◌||◌, List, [], ◌∷◌, ◌++◌, Option, Some, None, Ok, IfSome}
use Rattle.std.specs.Arc.{arc_value}
use Rattle.std.specs.Io.KnownBytes.{Consumes, IsAtEnd}
use Rattle.cql_tenants.specs.declared.tenants.Tenant.{Tenant}
use Rattle.cql_hall.specs.declared.hall.Receipt.{Receipt}
use Rattle.cql_lines.specs.Coming.{HasCome}
use Rattle.cql_lines.specs.Text.{LineText, lines_of}
use Rattle.cql_sessions.specs.declared.caller.Caller.{Caller}
use Rattle.cql_sessions.specs.declared.session_state.SessionState.{SessionState}
use Rattle.cql_sessions.specs.Answering.{Account, Calls}
use Rattle.cql_sessions.specs.Request.{logged_in, request_of}

-- the index of the tenant that the first of these lines logs in, if there is one and it is a login
abbrev pub login_among : List Tenant → List LineText → Option ℕ
login_among table [] = None
login_among table (login ∷ later) = logged_in table login

-- the lines behind the login
abbrev pub behind_login : List LineText → List LineText
behind_login [] = []
behind_login (login ∷ later) = later

-- each receipt is of a call that one of these lines asks, one after another; the other lines made no call
abbrev pub Asks : List LineText → List Receipt → Type 0
Asks [] receipts = receipts ≡ []
Asks (line ∷ lines) receipts = Asks lines receipts ⊎ ((receipt : Receipt) × (later : List Receipt) × (receipts ≡ receipt ∷ later) × (request_of line ≡ Ok (arc_value receipt.prepared)) × Asks lines later)

-- what a caller has behind these lines of his
abbrev pub Serves : List Tenant → List LineText → Option Account → Type 0
Serves table [] account = account ≡ None
Serves table (login ∷ lines) None = logged_in table login ≡ None
Serves table (login ∷ lines) (Some account) = (logged_in table login ≡ Some account.seat.tenant) × Asks lines account.receipts

-- a line was answered: as the login, where nobody had a seat
abbrev pub Answers : List Tenant → LineText → Option Account → Option Account → Type 0
Answers table line None None = logged_in table line ≡ None
Answers table line None (Some new) = (logged_in table line ≡ Some new.seat.tenant) × (new.receipts ≡ [])
Answers table line (Some old) None = ⊥
Answers table line (Some old) (Some new) = Calls (request_of line) old new

-- these lines are the first of an input: of one that begins with these bytes, whatever follows, or of one that is these bytes
abbrev pub AreFirst : Bool → List ℕ → List LineText → Type 0
AreFirst false bytes lines = (more : List ℕ) → (rest : List LineText) × (lines_of (bytes ++ more) ≡ lines ++ rest)
AreFirst true bytes lines = (rest : List LineText) × (lines_of bytes ≡ lines ++ rest)

-- an input's first lines were answered, and this is what its caller has
pub record Served (table : List Tenant) (ended : Bool) (bytes : List ℕ) (account : Option Account) : Type 0 where
  pub lines : List LineText
  pub first : AreFirst ended bytes lines
  pub serves : Serves table lines account

-- the same of an input that is known
pub record ServedOf (table : List Tenant) (input : Option (List ℕ)) (account : Option Account) : Type 0 where
  pub lines : List LineText
  pub rest : List LineText
  pub first : IfSome input (λ text. lines_of text ≡ lines ++ rest)
  pub serves : Serves table lines account

-- These bytes have come, and these lines of them are done with: before the login none. The line that has come so far is the one after them, with its line feed where it waits to be answered.
pub record Seated (table : List Tenant) (bytes : List ℕ) (account : Option Account) (line : List ℕ) (waits ended over : Bool) : Type 0 where
  pub lines : List LineText
  pub come : over ≡ false → HasCome bytes lines line (waits && not ended)
  pub first : AreFirst ended bytes lines
  pub serves : Serves table lines account
  pub nobody : account ≡ None → over ≡ false → lines ≡ []
  pub done : ended ≡ true → waits ≡ false → over ≡ true

abbrev pub of_caller : Caller → Account
of_caller caller = record { seat = caller.seat; receipts = caller.receipts.items }

-- what a caller has, once he has logged in
abbrev pub account_of : Option Caller → Option Account
account_of None = None
account_of (Some caller) = Some (of_caller caller)

-- a session to which these bytes have come
abbrev pub HasReached : List Tenant → List ℕ → SessionState → Type 0
HasReached table bytes state = Seated table bytes (account_of state.caller) state.intake state.is_held state.is_ended state.is_over

-- the same, where a line waits to be answered
abbrev pub Faces : List Tenant → List ℕ → SessionState → Type 0
Faces table bytes state = Seated table bytes (account_of state.caller) state.intake true state.is_ended state.is_over

-- nothing has come yet
pub record IsNew (state : SessionState) : Type 0 where
  pub caller : state.caller ≡ None
  pub line : state.intake ≡ []
  pub held : state.is_held ≡ false
  pub ended : state.is_ended ≡ false
  pub over : state.is_over ≡ false

-- the line is done with, and the next one may come
pub record HasGoneOn (old new : SessionState) : Type 0 where
  pub caller : new.caller ≡ old.caller
  pub line : new.intake ≡ []
  pub held : new.is_held ≡ false
  pub ended : new.is_ended ≡ old.is_ended
  pub over : new.is_over ≡ (old.is_ended || old.is_over)

-- One read was made of a session that goes on, or none before a fault. The first lines were answered, and where all went well and it isn't over it goes on.
pub record Reads (table : List Tenant) (old new : SessionState) (input to_come : Option (List ℕ)) (well : Bool) : Type 0 where
  pub bytes : List ℕ
  pub consumed : Consumes input to_come bytes
  pub at_end : old.is_ended ≡ false → new.is_ended ≡ true → IsAtEnd to_come
  pub served : (came : List ℕ) → HasReached table came old → Served table new.is_ended (came ++ bytes) (account_of new.caller)
  pub going : well ≡ true → new.is_over ≡ false → (came : List ℕ) → HasReached table came old → HasReached table (came ++ bytes) new
