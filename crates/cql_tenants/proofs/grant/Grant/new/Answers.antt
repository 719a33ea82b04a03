use Rattle.std.proofs.Common.{◌∙◌}
use Rattle.std.specs.Prelude.{option_copied}
use Rattle.cql_value.specs.Schema.{is_schema}
use Rattle.cql_window.specs.Projection.{projected}
use Rattle.cql_window.proofs.Choices.{shown_schema}
use Rattle.cql_tenants.proofs.grant.Grant.new.Goals as goal

pub schema_at-requires : goal.schema_at-requires
schema_at-requires c =
    let schema = c.args.schema.now in
    (λ i. is_schema (projected schema (c.as_slice.ensures i))) ∙ (λ i. is_schema (projected schema (c.in_ok-projection.ensures i))) ∙ shown_schema schema (option_copied c.args.columns) c.columns-all.ensures.valid c.requires
