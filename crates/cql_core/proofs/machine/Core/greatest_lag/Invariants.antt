-- Of the queries so far none is further behind, and one is so far.
use Rattle.cql_core.specs.Lag.{lag_of}
use Rattle.cql_core.proofs.Lags.{AreUpTo, IsFound}
use Rattle.cql_core.proofs.machine.Core.greatest_lag.Given as goal

abbrev pub invariant-loop-index : goal.invariant-loop-index
invariant-loop-index l = AreUpTo (lag_of l.self l.tenant) l.queries l.index l.most × IsFound (lag_of l.self l.tenant) l.most
