-- The inputs of a block with one more.
use Rattle.std.proofs.Common.{◌≡◌, List, [], ◌∷◌, ◌++◌, ap, ◌∙◌, sym, append_assoc}
use Rattle.std.proofs.lemmas.List.{append-nil}
use Rattle.cql_plan.specs.declared.source.BlockInput.{BlockInput}
use Rattle.cql_plan.specs.Sources.{joined_row}

pub one_more : (sources : List BlockInput) (source : BlockInput) → joined_row (sources ++ source ∷ []) ≡ joined_row sources ++ source.fields
unfolding joined_row
one_more [] source = append-nil source.fields
one_more (first ∷ sources) source =
    ap (λ row. first.fields ++ row) (one_more sources source)
    ∙ sym (append_assoc first.fields (joined_row sources) source.fields)
