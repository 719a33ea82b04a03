use Rattle.std.proofs.Common.{◌≡◌, None, ap, ◌∙◌, sym, rules}
use Rattle.std.specs.Result.{result_err}
use Rattle.cql_tenants.specs.Taking.{put_refused, row_refused}
use Rattle.cql_tenants.proofs.Indices.{no_index, found_at}
use Rattle.cql_tenants.proofs.name_map.NameMap+Stream.admit.Goals as goal

pub returns-in_default-clause-refused : goal.returns-in_default-clause-refused
returns-in_default-clause-refused c =
    sym (ap (λ s. put_refused s c.args.at c.args.row.now) (no_index c.args.self.now c.args.name.now (sym c.index_of.ensures.value ∙ c.in_default.is)))

pub returns-in_err-admit-clause-refused : goal.returns-in_err-admit-clause-refused
returns-in_err-admit-clause-refused c =
    let found = found_at c.args.self.now c.args.name.now _ _ (sym c.index_of.ensures.value ∙ c.in-Some.is) c.entry.ensures in
    let told : result_err c.from_residual.result ≡ row_refused c.entry.result.1.now c.args.at c.args.row.now = search rules in
    told ∙ sym (ap (λ s. put_refused s c.args.at c.args.row.now) found)

pub returns-clause-refused : goal.returns-clause-refused
returns-clause-refused c =
    let found = found_at c.args.self.now c.args.name.now _ _ (sym c.index_of.ensures.value ∙ c.in-Some.is) c.entry.ensures in
    let told : None ≡ row_refused c.entry.result.1.now c.args.at c.args.row.now = search rules in
    told ∙ sym (ap (λ s. put_refused s c.args.at c.args.row.now) found)
