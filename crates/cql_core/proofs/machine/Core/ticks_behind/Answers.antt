use Rattle.std.proofs.lemmas.Grind.{common_steps}
use Rattle.std.proofs.Common.{arith, ◌≡◌, true, false, subst, sym, ap, ◌∙◌, ◌-◌, map}
use Rattle.std.specs.Prelude.{Some, None}
use Rattle.std.specs.List.{AllByRecursion}
use Rattle.cql_tenants.specs.Named.{find_named}
use Rattle.cql_core.specs.Checks.{least}
use Rattle.cql_core.specs.Sound.{states_at}
use Rattle.cql_core.specs.Going.{HasStream, stream_clock}
use Rattle.cql_core.proofs.Fetches.{nth_all, lag_lost, lag_revoked, lag_is}
use Rattle.cql_core.proofs.machine.Core.ticks_behind.Goals as goal

pub returns-in_err-query : goal.returns-in_err-query
returns-in_err-query c =
    let lost : find_named (states_at c.self.inside.queries.items c.args.tenant) c.args.name.now ≡ None = grind (arith, common_steps) in
    let none : c.from_residual.result ≡ None = grind (arith, common_steps) in
    none ∙ sym (lag_lost c.self.inside.directory c.self.inside.stores c.self.inside.queries.items c.args.tenant c.args.name.now lost c.args.self.now c.self.view_is)

pub returns-then-is_revoked : goal.returns-then-is_revoked
returns-then-is_revoked c =
    let found : find_named (states_at c.self.inside.queries.items c.args.tenant) c.args.name.now ≡ Some c.in_ok-query.query.now = grind (arith, common_steps) in
    let gone : c.in_ok-query.query.now.revoked ≡ true = sym c.is_revoked.ensures ∙ c.if-is_revoked.true in
    sym (lag_revoked c.self.inside.directory c.self.inside.stores c.self.inside.queries.items c.args.tenant c.args.name.now c.in_ok-query.query.now found gone c.args.self.now c.self.view_is)

pub limit_of-limit-requires : goal.limit_of-limit-requires
limit_of-limit-requires c =
    let found : find_named (states_at c.self.inside.queries.items c.args.tenant) c.args.name.now ≡ Some c.in_ok-query.query.now = grind (arith, common_steps) in
    let stands : c.in_ok-query.query.now.revoked ≡ false = sym c.is_revoked.ensures ∙ c.if-is_revoked.false in
    subst (AllByRecursion (HasStream c.self.inside.directory)) (sym c.as_slice.ensures)
    (nth_all c.self.inside.directory c.self.inside.stores c.self.inside.queries.items c.self.invariant c.args.tenant c.args.name.now c.in_ok-query.query.now found stands)

pub returns : goal.returns
returns c =
    let found : find_named (states_at c.self.inside.queries.items c.args.tenant) c.args.name.now ≡ Some c.in_ok-query.query.now = grind (arith, common_steps) in
    let stands : c.in_ok-query.query.now.revoked ≡ false = sym c.is_revoked.ensures ∙ c.if-is_revoked.false in
    let limit : c.limit_of-limit.result ≡ least (map (stream_clock c.self.inside.directory) c.in_ok-query.query.now.stub_refs) =
    c.limit_of-limit.ensures.value ∙ ap (λ refs. least (map (stream_clock c.self.inside.directory) refs)) c.as_slice.ensures in
    let less : c.saturating_sub.result ≡ c.limit_of-limit.result - c.in_ok-query.query.now.cursor = grind (arith, common_steps) in
    ap Some less ∙ lag_is c.self.inside.directory c.self.inside.stores c.self.inside.queries.items c.self.invariant c.args.tenant c.args.name.now c.in_ok-query.query.now found stands
    c.args.self.now c.self.view_is c.limit_of-limit.result limit
