-- What a check gives: something, or the first fault.
use Rattle.std.specs.Prelude.{◌≡◌, Bool, true, false, List, [], ◌∷◌, Result, Ok, Err}
use Rattle.std.specs.Global.{Vec}
use Rattle.cql_plan.specs.declared.error.PlanFault.{PlanFault}
use Rattle.cql_plan.specs.declared.error.PlanError.{PlanError}
use Rattle.cql_plan.specs.declared.error.PlanError.TheVariants.{Refused}

abbrev pub Outcome : Type 0 → Type 0
Outcome A = Result A PlanFault

-- one check after another: the first fault is told
infixl 10 ◌>>=◌
abbrev pub ◌>>=◌ : {A B : Type 0} → Outcome A → (A → Outcome B) → Outcome B
◌>>=◌ (Ok x) next = next x
◌>>=◌ (Err e) next = Err e

infixl 10 ◌>>◌
abbrev pub ◌>>◌ : {A B : Type 0} → Outcome A → Outcome B → Outcome B
first >> second = first >>= (λ _. second)

-- a fault unless it is so
abbrev pub unless : Bool → PlanFault → Outcome (Unit {0})
unless true fault = Ok tt
unless false fault = Err fault

-- each one's check, from the left
unfoldable pub each : {A B : Type 0} → (A → Outcome B) → List A → Outcome (List B)
each check [] = Ok []
each check (x ∷ xs) = check x >>= (λ y. each check xs >>= (λ ys. Ok (y ∷ ys)))

-- an error is the check's first fault, or else memory ran out
abbrev pub Tells : {A : Type 0} → Outcome A → PlanError → Type 0
Tells outcome error = (fault : PlanFault) → error ≡ Refused fault → outcome ≡ Err fault

-- What a function that checks ensures: what it gives is what the check gives, and what it refuses has the check's first fault.
abbrev pub Answers : {A : Type 0} → Outcome A → Result A PlanError → Type 0
Answers outcome (Ok x) = outcome ≡ Ok x
Answers outcome (Err error) = Tells outcome error

-- the same of a list that the code has as a vector
abbrev pub AnswersList : {A : Type 0} → Outcome (List A) → Result (Vec A) PlanError → Type 0
AnswersList outcome (Ok xs) = outcome ≡ Ok xs.items
AnswersList outcome (Err error) = Tells outcome error
