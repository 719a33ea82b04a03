use Rattle.std.proofs.Common.{◌≡◌, true, length, take, ap, ◌∙◌}
use Rattle.cql_value.specs.Schema.{is_schema}
use Rattle.cql_window.specs.Projection.{whole_projection}
use Rattle.cql_window.proofs.Picks.{fewer_columns}
use Rattle.cql_window.proofs.Sizes.{schema_size}
use Rattle.cql_window.proofs.projection.whole_projection.Goals as goal

pub returns : goal.returns
returns c =
    let columns = c.args.schema.now in
    let fine : is_schema columns ≡ true = c.columns.ensures.valid in
    ap (λ l. take (length l) (whole_projection 16)) c.columns.ensures.value ∙ fewer_columns 0 (length columns) 16 (schema_size columns fine)
