-- A word on lists whose items are read one by one.
use Rattle.std.proofs.Common.{◌≡◌, List, ◌++◌, Option, Some, None, option_map, option_and_then, ok_or, refl, sym, subst}
use Rattle.std.specs.Prelude.{Result, Ok, Err}
use Rattle.serde_json.specs.Data.{Data, Items, item}
use Rattle.cql_asked.specs.declared.fault.LineFault.{LineFault}
use Rattle.cql_asked.specs.declared.fault.LineFault.TheVariants.{BadLine, BadCommand, BadKey, WrongKey, UnknownTenant, NoMemory}
use Rattle.cql_asked.specs.Fault.{Means}
use Rattle.cql_lines.specs.Tree.{all_of}

-- what the items give, behind what was read of those before them
abbrev pub with_read : {A : Type 0} → (Data → Option A) → List A → Items → Option (List A)
with_read f done items = option_map (λ xs. done ++ xs) (all_of f items)

as_none : (A B : Type 0) (fault : LineFault) → Means {A = A} (Err BadKey) (Err fault) → Means {A = B} (Err BadKey) (Err fault)
as_none A B BadLine told = cc
as_none A B BadCommand told = cc
as_none A B BadKey told = refl
as_none A B WrongKey told = cc
as_none A B UnknownTenant told = cc
as_none A B NoMemory told = tt

-- what is no answer to a part is none to the whole
pub passed_on : {A B : Type 0} (part : Option A) (whole : Option B) (fault : LineFault) (r : Result B LineFault) → r ≡ Err fault → (part ≡ None → whole ≡ None)
    → Means (ok_or part BadKey) (Err fault) → Means (ok_or whole BadKey) r
passed_on {A} {B} part whole fault r is less told = subst (λ r. Means (ok_or whole BadKey) r) (sym is) (by_part part whole fault less told)
  where
    by_part : (part : Option A) (whole : Option B) (fault : LineFault) → (part ≡ None → whole ≡ None) → Means (ok_or part BadKey) (Err fault) → Means (ok_or whole BadKey) (Err fault)
    by_part None whole fault less told = subst (λ o. Means (ok_or o BadKey) (Err fault)) (sym (less refl)) (as_none A B fault told)
    by_part (Some x) whole BadLine less told = absurd cc
    by_part (Some x) whole BadCommand less told = absurd cc
    by_part (Some x) whole BadKey less told = absurd cc
    by_part (Some x) whole WrongKey less told = absurd cc
    by_part (Some x) whole UnknownTenant less told = absurd cc
    by_part (Some x) whole NoMemory less told = tt

pub nothing : {A B : Type 0} (o : Option A) → option_and_then {U = B} (λ x. None) o ≡ None
nothing None = refl
nothing (Some x) = refl
