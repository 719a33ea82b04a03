-- The plan over columns that are seen is that over streams which have these alone.
use Rattle.std.proofs.Common.{◌≡◌, ℕ, Bool, true, false, ◌&&◌, ◌||◌, not, List, [], ◌∷◌, ◌++◌, map, length, refl, sym, ap, ◌∙◌}
use Rattle.std.specs.Prelude.{Option, Some, None, Ok, Err, option_map}
use Rattle.std.specs.List.{list_any}
use Rattle.std.specs.Str.{bytes_eq}
use Rattle.std.proofs.lemmas.List.{map-append}
use Rattle.cql_value.specs.declared.schema.ColumnType.{ColumnType}
use Rattle.cql_syntax.specs.declared.syntax.Input.{Input as WrittenInput}
use Rattle.cql_syntax.specs.declared.syntax.SelectBlock.{SelectBlock}
use Rattle.cql_syntax.specs.declared.syntax.Second.{Second}
use Rattle.cql_syntax.specs.declared.syntax.Query.{Query}
use Rattle.cql_window.specs.declared.window.Window.{Window}
use Rattle.cql_window.specs.Projection.{whole_projection}
use Rattle.cql_window.specs.Through.{wide_window}
use Rattle.cql_window.proofs.ProjectionLaws.{wide_law}
use Rattle.cql_plan.specs.declared.condition.Condition.{Condition}
use Rattle.cql_plan.specs.declared.error.PlanFault.TheVariants.{AmbiguousColumn, TypeMismatch}
use Rattle.cql_plan.specs.declared.plan.Input.{Input}
use Rattle.cql_plan.specs.declared.plan.OutputKind.{OutputKind}
use Rattle.cql_plan.specs.declared.row.Field.{Field}
use Rattle.cql_plan.specs.declared.source.BlockInput.{BlockInput}
use Rattle.cql_plan.specs.declared.block.Checked.{Checked}
use Rattle.cql_plan.specs.declared.item.TypedItem.{TypedItem}
use Rattle.cql_plan.specs.declared.node.Node.TheVariants as node
use Rattle.cql_plan.specs.Outcome.{Outcome, ◌>>=◌, ◌>>◌, unless, each}
use Rattle.cql_plan.specs.VisibleColumns.{VisibleColumns}
use Rattle.cql_plan.specs.Columns.{kinds_of, fields_of}
use Rattle.cql_plan.specs.Sources.{SchemaLookup, alias_of, window_of, input_of, source_with, source_of, are_apart, joined_row, ports_of, inputs_of}
use Rattle.cql_plan.specs.Typing.{same_kinds, where_of, group_of, items_of, is_grouped, checked_of, body_of, block_of, output_of, combined, with_second, typing}
use Rattle.cql_plan.specs.Projected.{alone, visible_alone, widened_by, widened, or_widened, IsSeenLaw}
use Rattle.cql_plan.proofs.Ports.{parts_within}

-- ---- checks whose outcome is changed

-- what a check gives, changed
abbrev changed : {A B : Type 0} → (A → B) → Outcome A → Outcome B
changed f o = o >>= (λ x. Ok (f x))

-- each one's check is changed alike
each_changed : {A B : Type 0} (check other : A → Outcome B) (f : B → B) → ((x : A) → check x ≡ changed f (other x)) → (xs : List A) → each check xs ≡ changed (map f) (each other xs)
unfolding each
each_changed check other f same [] = refl
each_changed {A} {B} check other f same (x ∷ xs) =
    (λ i. same x i >>= (λ y. each_changed check other f same xs i >>= (λ ys. Ok (y ∷ ys)))) ∙ by (other x) (each other xs)
  where
    by : (o : Outcome B) (r : Outcome (List B)) → (changed f o >>= (λ y. changed (map f) r >>= (λ ys. Ok (y ∷ ys)))) ≡ changed (map f) (o >>= (λ y. r >>= (λ ys. Ok (y ∷ ys))))
    by (Ok y) (Ok ys) = refl
    by (Ok y) (Err e) = refl
    by (Err e) r = refl

-- ---- inputs

-- an input of a block, over what is seen of its stream
abbrev made_of : WrittenInput → VisibleColumns → Input → BlockInput
made_of input seen kept = record { input = kept; alias = alias_of input; fields = fields_of (alias_of input) seen.schema }

module _ (readable : SchemaLookup) where
  -- an input of a block, with its window over the whole rows
  abbrev source_widened : BlockInput → BlockInput
  source_widened s = record s { input = widened readable s.input }

  abbrev checked_widened : Checked → Checked
  checked_widened c = record c { inputs = map (widened readable) c.inputs }

  -- the input of a stream of which this is seen
  one_input : (input : WrittenInput) (o : Option VisibleColumns) → readable input.stream.qualifier input.stream.name ≡ o → source_with input o ≡ changed source_widened (source_with input (option_map alone o))
  one_input input None same = refl
  one_input input (Some seen) same = by (window_of (fields_of (alias_of input) seen.schema) input.window) refl
    where
      by : (o : Outcome Window) → window_of (fields_of (alias_of input) seen.schema) input.window ≡ o
          → (o >>= (λ w. Ok (made_of input seen (input_of input seen.projection w)))) ≡ changed source_widened (o >>= (λ w. Ok (made_of input seen (input_of input (whole_projection (length seen.schema)) w))))
      by (Err e) is = refl
      by (Ok w) is =
          let once : wide_window (whole_projection (length seen.schema)) w ≡ w = wide_law w (length seen.schema) (parts_within (alias_of input) seen.schema input.window w is) in
          (λ i. Ok (made_of input seen (input_of input seen.projection (sym once i))))
          ∙ (λ i. Ok (made_of input seen (widened_by (sym same i) (input_of input (whole_projection (length seen.schema)) w))))

  one_source : (input : WrittenInput) → source_of readable input ≡ changed source_widened (source_of (visible_alone readable) input)
  unfolding source_of
  one_source input = one_input input (readable input.stream.qualifier input.stream.name) refl

  -- ---- blocks

  same_any : (alias : List ℕ) (ss : List BlockInput) → list_any (λ other. bytes_eq alias other.alias) (map source_widened ss) ≡ list_any (λ other. bytes_eq alias other.alias) ss
  same_any alias [] = refl
  same_any alias (s ∷ ss) = ap (λ b. bytes_eq alias s.alias || b) (same_any alias ss)

  same_apart : (ss : List BlockInput) → are_apart (map source_widened ss) ≡ are_apart ss
  unfolding are_apart
  same_apart [] = refl
  same_apart (s ∷ ss) = λ i. not (same_any s.alias ss i) && same_apart ss i

  same_row : (ss : List BlockInput) → joined_row (map source_widened ss) ≡ joined_row ss
  unfolding joined_row
  same_row [] = refl
  same_row (s ∷ ss) = ap (λ row. s.fields ++ row) (same_row ss)

  same_ports : (ss : List BlockInput) → ports_of (map source_widened ss) ≡ ports_of ss
  same_ports [] = refl
  same_ports (s ∷ ss) = ap (λ ports. kinds_of s.fields ∷ ports) (same_ports ss)

  their_inputs : (ss : List BlockInput) → inputs_of (map source_widened ss) ≡ map (widened readable) (inputs_of ss)
  their_inputs [] = refl
  their_inputs (s ∷ ss) = ap (λ is. widened readable s.input ∷ is) (their_inputs ss)

  -- a block over these columns, ports and inputs
  abbrev body_over : SelectBlock → List Field → List (List ColumnType) → List Input → Outcome Checked
  body_over block row ports inputs = do
    condition ← where_of row block.condition
    groups ← each (group_of row) block.groups
    items ← items_of row (is_grouped block) groups block.selection
    Ok (checked_of block.distinct inputs (node.Join (record { ports = ports; condition = condition })) row groups items)

  inputs_changed : (block : SelectBlock) (row : List Field) (ports : List (List ColumnType)) (inputs : List Input) → body_over block row ports (map (widened readable) inputs) ≡ changed checked_widened (body_over block row ports inputs)
  inputs_changed block row ports inputs = in_where (where_of row block.condition)
    where
      in_items : (condition : Condition) (groups : List ℕ) (o : Outcome (List TypedItem))
          → (o >>= (λ items. Ok (checked_of block.distinct (map (widened readable) inputs) (node.Join (record { ports = ports; condition = condition })) row groups items)))
          ≡ changed checked_widened (o >>= (λ items. Ok (checked_of block.distinct inputs (node.Join (record { ports = ports; condition = condition })) row groups items)))
      in_items condition groups (Ok items) = refl
      in_items condition groups (Err e) = refl

      in_groups : (condition : Condition) (o : Outcome (List ℕ))
          → (o >>= (λ groups. items_of row (is_grouped block) groups block.selection >>= (λ items. Ok (checked_of block.distinct (map (widened readable) inputs) (node.Join (record { ports = ports; condition = condition })) row groups items))))
          ≡ changed checked_widened (o >>= (λ groups. items_of row (is_grouped block) groups block.selection >>= (λ items. Ok (checked_of block.distinct inputs (node.Join (record { ports = ports; condition = condition })) row groups items))))
      in_groups condition (Ok groups) = in_items condition groups (items_of row (is_grouped block) groups block.selection)
      in_groups condition (Err e) = refl

      in_where : (o : Outcome Condition)
          → (o >>= (λ condition. each (group_of row) block.groups >>= (λ groups. items_of row (is_grouped block) groups block.selection >>= (λ items. Ok (checked_of block.distinct (map (widened readable) inputs) (node.Join (record { ports = ports; condition = condition })) row groups items)))))
          ≡ changed checked_widened (o >>= (λ condition. each (group_of row) block.groups >>= (λ groups. items_of row (is_grouped block) groups block.selection >>= (λ items. Ok (checked_of block.distinct inputs (node.Join (record { ports = ports; condition = condition })) row groups items)))))
      in_where (Ok condition) = in_groups condition (each (group_of row) block.groups)
      in_where (Err e) = refl

  one_body : (ss : List BlockInput) (block : SelectBlock) → body_of (map source_widened ss) block ≡ changed checked_widened (body_of ss block)
  unfolding body_of
  one_body ss block =
      (λ i. body_over block (same_row ss i) (same_ports ss i) (their_inputs ss i))
      ∙ inputs_changed block (joined_row ss) (ports_of ss) (inputs_of ss)

  one_block : (block : SelectBlock) → block_of readable block ≡ changed checked_widened (block_of (visible_alone readable) block)
  unfolding block_of
  one_block block =
      ap (λ o. o >>= (λ (ss : List BlockInput). unless (are_apart ss) AmbiguousColumn >> body_of ss block)) (each_changed (source_of readable) (source_of (visible_alone readable)) source_widened one_source block.inputs)
      ∙ in_sources (each (source_of (visible_alone readable)) block.inputs)
    where
      in_test : (ss : List BlockInput) (b : Bool) → (unless b AmbiguousColumn >> body_of (map source_widened ss) block) ≡ changed checked_widened (unless b AmbiguousColumn >> body_of ss block)
      in_test ss true = one_body ss block
      in_test ss false = refl

      in_sources : (o : Outcome (List BlockInput)) → (changed (map source_widened) o >>= (λ ss. unless (are_apart ss) AmbiguousColumn >> body_of ss block)) ≡ changed checked_widened (o >>= (λ ss. unless (are_apart ss) AmbiguousColumn >> body_of ss block))
      in_sources (Ok ss) = (λ i. unless (same_apart ss i) AmbiguousColumn >> body_of (map source_widened ss) block) ∙ in_test ss (are_apart ss)
      in_sources (Err e) = refl

  -- ---- queries

  one_second : (output : OutputKind) (first : Checked) (written : Option Second) → with_second readable output (checked_widened first) written ≡ or_widened readable (with_second (visible_alone readable) output first written)
  unfolding with_second
  one_second output first None = refl
  one_second output first (Some written) =
      ap (λ o. o >>= (λ (second : Checked). unless (same_kinds first.kinds second.kinds) TypeMismatch >> Ok (combined output written.operator (checked_widened first) second))) (one_block written.block)
      ∙ in_block (block_of (visible_alone readable) written.block)
    where
      in_test : (second : Checked) (b : Bool) → (unless b TypeMismatch >> Ok (combined output written.operator (checked_widened first) (checked_widened second))) ≡ or_widened readable (unless b TypeMismatch >> Ok (combined output written.operator first second))
      in_test second true = ap (λ is. Ok (record (combined output written.operator first second) { inputs = is })) (sym (map-append (widened readable) first.inputs second.inputs))
      in_test second false = refl

      in_block : (o : Outcome Checked) → (changed checked_widened o >>= (λ second. unless (same_kinds first.kinds second.kinds) TypeMismatch >> Ok (combined output written.operator (checked_widened first) second)))
          ≡ or_widened readable (o >>= (λ second. unless (same_kinds first.kinds second.kinds) TypeMismatch >> Ok (combined output written.operator first second)))
      in_block (Ok second) = in_test second (same_kinds first.kinds second.kinds)
      in_block (Err e) = refl

  one_query : (query : Query) → typing readable query ≡ or_widened readable (typing (visible_alone readable) query)
  unfolding typing
  one_query query =
      ap (λ o. o >>= (λ (first : Checked). with_second readable (output_of query.output) first query.second)) (one_block query.first)
      ∙ in_first (block_of (visible_alone readable) query.first)
    where
      in_first : (o : Outcome Checked) → (changed checked_widened o >>= (λ first. with_second readable (output_of query.output) first query.second)) ≡ or_widened readable (o >>= (λ first. with_second (visible_alone readable) (output_of query.output) first query.second))
      in_first (Ok first) = one_second (output_of query.output) first query.second
      in_first (Err e) = refl

pub seen_law : IsSeenLaw
seen_law readable query = one_query readable query
