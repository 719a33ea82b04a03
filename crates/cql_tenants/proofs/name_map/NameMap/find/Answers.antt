use Rattle.std.proofs.Common.{ap, ◌∙◌, sym}
use Rattle.std.specs.Prelude.{option_map}
use Rattle.cql_tenants.proofs.Indices.{no_index, found_at}
use Rattle.cql_tenants.proofs.name_map.NameMap.find.Goals as goal

pub returns-in_err-index-clause-thing : goal.returns-in_err-index-clause-thing
returns-in_err-index-clause-thing g c =
    ap (option_map (λ p. p.1.now)) c.from_residual.ensures ∙ sym (no_index c.args.self.now c.args.name.now (sym c.in_err-index.ensures.value))

pub returns-clause-thing : goal.returns-clause-thing
returns-clause-thing g c =
    sym (found_at c.args.self.now c.args.name.now c.in_ok-index.index (record { name = c.entry.result.0.now; item = c.entry.result.1.now }) (sym c.in_ok-index.ensures.value) c.entry.ensures)
