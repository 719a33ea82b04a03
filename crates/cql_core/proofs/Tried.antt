-- What a step that finds no memory owes, and that a command which only reads leaves the state as it was.
use Rattle.std.proofs.Common.{◌≡◌, ℕ, Bool, true, false, List, refl, sym}
use Rattle.std.specs.Prelude.{Option, Result, IsErr, if◌then◌else◌}
use Rattle.std.proofs.lemmas.Result.{MatchResult-from_err}
use Rattle.cql_tenants.specs.Namespace.{has_tenant}
use Rattle.cql_core.specs.declared.command.Command.{Command}
use Rattle.cql_core.specs.declared.command.Command.TheVariants.{Fetch, List as Lists}
use Rattle.cql_core.specs.Machine.{Stepped}
use Rattle.cql_core.specs.Machine.{State, step_at, state_after}
use Rattle.cql_core.specs.Cql.{cql}
use Rattle.cql_core.specs.Steps.{Does, Tries, refuses_first}

pub not_done : {A E : Type 0} (by : A → Stepped) (s : State) (user : ℕ) (command : Command) (r : Result A E) (s' : State) → IsErr r → s' ≡ s
    → refuses_first command (step_at cql s user command) ≡ false → Tries by s user command r s'
not_done by s user command r s' is same first = MatchResult-from_err r (λ a. Does s user command (by a) s') (λ _. (s' ≡ s) × (refuses_first command (step_at cql s user command) ≡ false)) is (λ _. (same, first))

if_same : {A : Type 0} (b : Bool) (x : A) → (if b then x else x) ≡ x
if_same true x = refl
if_same false x = refl

pub fetch_stays : (s : State) (user : ℕ) (name : List ℕ) (until : Option ℕ) → s ≡ state_after cql s user (Fetch name until)
fetch_stays s user name until = λ k. record { namespaces = s.namespaces; queries = sym (if_same (has_tenant s.namespaces user) s.queries) k }

pub list_stays : (s : State) (user : ℕ) → s ≡ state_after cql s user Lists
list_stays s user = λ k. record { namespaces = s.namespaces; queries = sym (if_same (has_tenant s.namespaces user) s.queries) k }
