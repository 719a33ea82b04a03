-- A history is legal where each of its commands was told what the machine tells at its index, or of no memory.
use Rattle.std.specs.Prelude.{if◌then◌else◌, List, [], ◌∷◌, false, ◌≡◌}
use Rattle.cql_core.specs.Language.{Language}
use Rattle.cql_core.specs.Headline.{Event}
use Rattle.cql_core.specs.Machine.{State, state_after, reply_to}
use Rattle.cql_core.specs.ReplyModel.{is_no_memory}

-- the state after one, and after all
abbrev pub after : Language → State → Event → State
after language s m = if is_no_memory m.told then s else state_after language s m.tenant m.command

abbrev pub replay : Language → State → List Event → State
replay language s [] = s
replay language s (m ∷ ms) = replay language (after language s m) ms

-- it was told what the machine tells there
abbrev pub Fits : Language → State → Event → Type 0
Fits language s m = is_no_memory m.told ≡ false → m.told ≡ reply_to language s m.tenant m.command

abbrev pub IsLegal : Language → State → List Event → Type 0
IsLegal language s [] = Unit {0}
IsLegal language s (m ∷ ms) = Fits language s m × IsLegal language (after language s m) ms
