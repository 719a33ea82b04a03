use Rattle.std.proofs.Common.{subst}
use Rattle.cql_sessions.specs.Seating.{ServedOf, account_of}
use Rattle.cql_sessions.proofs.Seating.{end_login, end_asks}
use Rattle.cql_sessions.proofs.sessions.session.Goals as goal

pub returns-clause-login : goal.returns-clause-login
returns-clause-login g c =
    let served = subst (λ r. ServedOf c.args.table.now (g.R.Read.remaining r) (account_of c.attend-served.new.state.caller)) c.new-reader.ensures.inner (c.attend-served.ensures.served c.new-state.ensures.begins) in
    end_login c.args.table.now (g.R.Read.remaining c.args.reader) c.attend-served.new.state.caller c.into_end.result.seat c.into_end.ensures.seat served

pub returns-clause-request : goal.returns-clause-request
returns-clause-request g c =
    let served = subst (λ r. ServedOf c.args.table.now (g.R.Read.remaining r) (account_of c.attend-served.new.state.caller)) c.new-reader.ensures.inner (c.attend-served.ensures.served c.new-state.ensures.begins) in
    end_asks c.args.table.now (g.R.Read.remaining c.args.reader) c.attend-served.new.state.caller c.into_end.result.seat c.into_end.result.receipts c.into_end.ensures.seat c.into_end.ensures.receipts served
