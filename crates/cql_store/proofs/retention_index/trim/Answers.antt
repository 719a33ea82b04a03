use Rattle.std.proofs.Common.{◌≡◌, length, rules}
use Rattle.cql_store.proofs.Trims.{gone_of, trimmed_shown, trimmed_store}
use Rattle.cql_store.proofs.retention_index.trim.Goals as goal

pub returns-clause-store : goal.returns-clause-store
returns-clause-store c = λ slots known.
    let rows = c.args.rows.now in
    let behind : c.min-behind.result ≡ gone_of c.first-first.result c.args.gone (length rows) = search rules in
    rw (c.drop_front.ensures, behind) (trimmed_store rows c.args.gone c.first-first.result slots c.args.retention.now.firsts c.args.retention.now.limits known c.first-first.ensures.low c.first-first.ensures.met)

pub returns-clause-same : goal.returns-clause-same
returns-clause-same c = λ slots known.
    let rows = c.args.rows.now in
    let behind : c.min-behind.result ≡ gone_of c.first-first.result c.args.gone (length rows) = search rules in
    rw (c.drop_front.ensures, behind) (trimmed_shown rows c.args.gone c.first-first.result slots c.args.retention.now.firsts c.args.retention.now.limits known c.first-first.ensures.low)
