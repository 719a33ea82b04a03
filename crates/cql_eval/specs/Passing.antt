-- A pin whose plan shows all rows of one window, as that is walked over: what the window holds is counted and not looked at.
use Rattle.std.specs.Prelude.{◌≡◌, ◌≤◌, ℕ, [], ◌∷◌, length, Option, Some, None, nat_lt, if◌then◌else◌}
use Rattle.cql_bag.specs.Bag.{bag_of}
use Rattle.cql_plan.specs.declared.fault.Fault.{Fault as TheFault}
use Rattle.cql_plan.specs.declared.fault.Fault.TheVariants.{Oversize}
use Rattle.cql_plan.specs.Ports.{ports}
use Rattle.cql_algebra.specs.Runs.{RunsModel, StandFor}
use Rattle.cql_eval.specs.Pin.{PinModel}
use Rattle.cql_eval.specs.Projected.{projected_windows}
use Rattle.cql_eval.specs.Relation.{relation_at, output_at}
use Rattle.cql_eval.specs.Shown.{rows_of, AreWalks, StandsFor}
use Rattle.cql_eval.specs.declared.passing.Passing.{Passing}

-- the fault of a relation of so many rows, if they are too many
abbrev pub fault_over : ℕ → ℕ → Option TheFault
fault_over limit held = if nat_lt limit held then Some Oversize else None

-- the runs have all outputs before the instant, the walk is over the one window, what it holds is counted, and what is kept stands for the relation there
pub record HasPassed (p : PinModel) (n : ℕ) (runs : RunsModel) (s : Passing) : Type 0 where
  pub based : p.base ≤ n
  pub next : runs.next ≡ n
  pub stand : StandFor (output_at p) p.from runs
  pub walk : AreWalks n (ports p.plan) (projected_windows p) (s.walk ∷ [])
  pub many : s.held ≡ length s.walk.held
  pub stands : StandsFor p.plan.output s.last (bag_of (rows_of s.walk.held)) (relation_at p n)
