-- What the numbers of the words lie between.
use Rattle.std.specs.Prelude.{◌≤◌}
use Rattle.cql_wire.specs.declared.words.Config.{Config}

-- each is within its range
pub record IsInRange (c : Config) : Type 0 where
  pub workers : (1 ≤ c.workers) × (c.workers ≤ 64)
  pub callers : (1 ≤ c.callers) × (c.callers ≤ 65536)
  pub login : c.login ≤ 3600
  pub idle : c.idle ≤ 86400
  pub answer : c.answer ≤ 86400
  pub warm : c.warm ≤ 1024
  pub warm_room : (1 ≤ c.warm_room) × (c.warm_room ≤ 65536)
  pub room : (1 ≤ c.room) × (c.room ≤ 65536)
  pub log : c.log ≤ 86400
  pub sync : c.sync ≤ 60000
