use Rattle.std.proofs.Common.{◌≡◌, true, Some, slice_get, bytes_eq, sym, ap, ◌∙◌, arith}
use Rattle.std.proofs.lemmas.Option.{slice_get-get_or}
use Rattle.cql_tenants.specs.Tenants.{is_table}
use Rattle.cql_wire.proofs.Naming.{named_at}
use Rattle.cql_wire.proofs.request.is_named.Goals as goal

pub returns : goal.returns
returns c = λ yes.
    let known = c.in-Some.known.now in
    let found = c.in-Some.ensures.lookup in
    let table : is_table c.args.table.now ≡ true = grind arith in
    let there : slice_get c.tenants.result.now c.index.result ≡ Some known = slice_get-get_or c.tenants.result.now c.index.result known found.3.0 ∙ ap (λ t. Some t) (sym found.1) in
    let at : slice_get c.args.table.now c.args.tenant ≡ Some known = sym (ap (λ ts. slice_get ts c.index.result) c.tenants.ensures.value ∙ ap (λ i. slice_get c.args.table.now i) c.index.ensures) ∙ there in
    let named : bytes_eq known.name c.args.name.now ≡ true = grind (arith, yes) in
    named_at c.args.table.now c.args.tenant known c.args.name.now table at named
