use Rattle.std.proofs.lemmas.Grind.{common_steps}
use Rattle.std.proofs.Common.{◌≡◌, ◌≤◌, ◌+◌, None, length, max, subst, sym, ◌∙◌, arith}
use Rattle.std.specs.Prelude.{unwrap_or}
use Rattle.cql_core.specs.Lag.{lag_of}
use Rattle.cql_tenants.specs.Named.{Named, find_named}
use Rattle.cql_core.specs.declared.query_state.QueryState.{QueryState}
use Rattle.cql_core.proofs.Fetches.{lag_lost}
use Rattle.cql_core.proofs.Lags.{AreUpTo, IsFound, up_to_more, up_to_all, found_more}
use Rattle.cql_core.proofs.machine.Core.greatest_lag.Goals as goal

pub loop-index-preserved : goal.loop-index-preserved
loop-index-preserved c =
    let lags = lag_of c.args.self.now c.args.tenant in
    let queries = c.own_queries-queries.result.now in
    let q : Named QueryState = record { name = c.entry.result.0.now; item = c.entry.result.1.now } in
    let is : c.max-most.result ≡ max c.loop-index.most (unwrap_or (lags q.name) 0) = grind (arith, common_steps) in (
      subst (AreUpTo lags queries (c.loop-index.index + 1)) (sym is) (up_to_more lags queries c.loop-index.index c.loop-index.most q c.loop-index.invariant.0 c.entry.ensures),
      subst (IsFound lags) (sym is) (found_more lags q.name c.loop-index.most c.loop-index.invariant.1),
    )

pub returns : goal.returns
returns c =
    let state = c.args.self.now in
    let lags = lag_of state c.args.tenant in
    let queries = c.own_queries-queries.result.now in
    let most = c.loop-index.most in
    let past : length queries ≤ c.loop-index.index = omega (arith, c.loop-index-test.false, c.len-index-end.ensures) in
    let all : AreUpTo lags queries (length queries) most = λ i q less is. c.loop-index.invariant.0 i q (omega (arith, less, past)) is in
    record {
      most = up_to_all lags queries most all (λ name lost. lag_lost c.self.inside.directory c.self.inside.stores c.self.inside.queries.items c.args.tenant name
          (subst (λ qs. find_named qs name ≡ None) c.own_queries-queries.ensures lost) state c.self.view_is);
      one = c.loop-index.invariant.1;
    }
