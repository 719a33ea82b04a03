use Rattle.std.proofs.Common.{◌+◌, Some, get_or, sym, ap, ◌∙◌, arith}
use Rattle.std.proofs.lemmas.List.{get_or_default}
use Rattle.cql_groups.specs.Layouts.{source_value, row_of_parts}
use Rattle.cql_groups.specs.declared.layout.ItemSource.TheVariants.{Column}
use Rattle.cql_plain.proofs.Behind.{next_there, next_missing, all_there}
use Rattle.cql_groups.proofs.row.row_of_parts.Goals as goal

pub push_reserved-requires : goal.push_reserved-requires
push_reserved-requires c = omega (arith, c.loop-source-test.true, c.loop-source.invariant.made, c.loop-source.invariant.room)

pub loop-source-preserved : goal.loop-source-preserved
loop-source-preserved c =
    let sources = c.args.sources.now in
    let i = c.loop-source.source-index in
    let lt = c.loop-source-test.true in
    let x = get_or sources i (Column 0) in
    let before = c.loop-source.invariant in
    record {
      row = next_there (source_value c.args.size c.args.sample.now c.args.parts.now) sources i x c.in-Some.value c.loop-source.values.items c.push_reserved.new.self.items (row_of_parts sources c.args.size c.args.sample.now c.args.parts.now) lt (get_or_default sources i (Column 0) x lt) (sym c.in_ok-value.ensures ∙ c.in-Some.is) c.push_reserved.ensures.items before.row;
      made = c.push_reserved.ensures.len ∙ ap (λ n. n + 1) before.made;
      room = omega (arith, c.push_reserved.ensures.capacity, before.room);
    }

pub returns : goal.returns
returns c =
    let sources = c.args.sources.now in
    ap (λ r. Some r) c.in_ok-new.ensures ∙ all_there (source_value c.args.size c.args.sample.now c.args.parts.now) sources c.loop-source.source-index c.loop-source.values.items (row_of_parts sources c.args.size c.args.sample.now c.args.parts.now) c.loop-source-test.false c.loop-source.invariant.row

pub returns-in-None : goal.returns-in-None
returns-in-None c =
    let sources = c.args.sources.now in
    let i = c.loop-source.source-index in
    let lt = c.loop-source-test.true in
    let x = get_or sources i (Column 0) in
    next_missing (source_value c.args.size c.args.sample.now c.args.parts.now) sources i x c.loop-source.values.items (row_of_parts sources c.args.size c.args.sample.now c.args.parts.now) lt (get_or_default sources i (Column 0) x lt) (sym c.in_ok-value.ensures ∙ c.in-None.is) c.loop-source.invariant.row
