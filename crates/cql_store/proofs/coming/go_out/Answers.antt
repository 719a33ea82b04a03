use Rattle.std.proofs.lemmas.Grind.{common_steps}
use Rattle.std.proofs.Common.{◌≡◌, ◌<◌, ◌≤◌, true, false, map, length, sym, ◌∙◌, ap, subst, arith}
use Rattle.std.specs.Prelude.{slice_get}
use Rattle.std.specs.List.{remove, prefix_len}
use Rattle.std.specs.Arc.{arc_value}
use Rattle.cql_window.specs.Key.{key_of}
use Rattle.cql_window.specs.Window.{count_part}
use Rattle.cql_chunks.specs.Seq.{row_in, IsDown}
use Rattle.cql_store.specs.Parts.{is_before, AreNumbered, AreParted}
use Rattle.cql_store.proofs.RowNumbers.{is_below, numbers_down, numbers_remove}
use Rattle.cql_store.proofs.Staying.{between, stays_few, stays_many, none_past, oldest_leaves}
use Rattle.cql_store.proofs.coming.go_out.Goals as goal

pub returns-then-saturating_sub-get-clause-rows : goal.returns-then-saturating_sub-get-clause-rows
returns-then-saturating_sub-get-clause-rows c =
    let columns = c.args.columns.now in
    let rows = arc_value c.args.rows in
    let parts = arc_value c.args.parts in
    let key = key_of columns c.args.row.now in
    let first = subst (λ xs. IsDown (is_before columns key false) xs → c.before-first.result ≡ prefix_len (is_before columns key false) xs) c.deref.ensures c.before-first.ensures.value (c.requires.parted.sorted key false) in
    let behind = subst (λ xs. IsDown (is_before columns key true) xs → c.before-behind.result ≡ prefix_len (is_before columns key true) xs) c.deref-2.ensures c.before-behind.ensures.value (c.requires.parted.sorted key true) in
    let few : count_part columns c.args.row.now (map row_in rows) < c.args.count = omega (arith, first, behind, between columns rows parts c.args.row.now c.requires.parted, c.saturating_sub.ensures, c.get.ensures.value, c.if-saturating_sub-get.true) in
    sym (stays_few columns c.args.count c.args.row.now (map row_in rows) few)

pub unreachable-requires : goal.unreachable-requires
unreachable-requires c =
    let none = c.in-None.ensures ∙ ap (λ xs. slice_get xs c.before-first.result) c.deref-3.ensures in
    omega (arith, none_past (arc_value c.args.parts) c.before-first.result none, c.before-behind.ensures.within, ap length c.deref-2.ensures, c.saturating_sub.ensures, c.get.ensures.positive, c.if-saturating_sub-get.false)

pub remove-requires : goal.remove-requires
remove-requires c =
    let columns = c.args.columns.now in
    let rows = arc_value c.args.rows in
    let parts = arc_value c.args.parts in
    let row = c.args.row.now in
    let key = key_of columns row in
    let next = c.requires.numbered.0 in
    let oldest = c.in-Some.oldest.now in
    let first = subst (λ xs. IsDown (is_before columns key false) xs → c.before-first.result ≡ prefix_len (is_before columns key false) xs) c.deref.ensures c.before-first.ensures.value (c.requires.parted.sorted key false) in
    let behind = subst (λ xs. IsDown (is_before columns key true) xs → c.before-behind.result ≡ prefix_len (is_before columns key true) xs) c.deref-2.ensures c.before-behind.ensures.value (c.requires.parted.sorted key true) in
    let many : c.args.count ≤ count_part columns row (map row_in rows) = omega (arith, first, behind, between columns rows parts row c.requires.parted, c.saturating_sub.ensures, c.get.ensures.value, c.if-saturating_sub-get.false) in
    let some : 0 < count_part columns row (map row_in rows) = omega (arith, many, c.get.ensures.value, c.get.ensures.positive) in
    let index = subst (λ xs. IsDown (is_below oldest.number) xs → c.below-index.result ≡ prefix_len (is_below oldest.number) xs) c.deref-in-Some.ensures c.below-index.ensures.value (numbers_down next oldest.number rows c.requires.numbered.1) in
    let at = c.in-Some.ensures ∙ ap (λ xs. slice_get xs c.before-first.result) c.deref-3.ensures in
    let left = oldest_leaves columns next rows parts row oldest c.before-first.result c.below-index.result c.requires.numbered.1 c.requires.parted first index at some in
    left.within

pub returns-clause-rows : goal.returns-clause-rows
returns-clause-rows c =
    let columns = c.args.columns.now in
    let rows = arc_value c.args.rows in
    let parts = arc_value c.args.parts in
    let row = c.args.row.now in
    let key = key_of columns row in
    let next = c.requires.numbered.0 in
    let oldest = c.in-Some.oldest.now in
    let first = subst (λ xs. IsDown (is_before columns key false) xs → c.before-first.result ≡ prefix_len (is_before columns key false) xs) c.deref.ensures c.before-first.ensures.value (c.requires.parted.sorted key false) in
    let behind = subst (λ xs. IsDown (is_before columns key true) xs → c.before-behind.result ≡ prefix_len (is_before columns key true) xs) c.deref-2.ensures c.before-behind.ensures.value (c.requires.parted.sorted key true) in
    let many : c.args.count ≤ count_part columns row (map row_in rows) = omega (arith, first, behind, between columns rows parts row c.requires.parted, c.saturating_sub.ensures, c.get.ensures.value, c.if-saturating_sub-get.false) in
    let some : 0 < count_part columns row (map row_in rows) = omega (arith, many, c.get.ensures.value, c.get.ensures.positive) in
    let index = subst (λ xs. IsDown (is_below oldest.number) xs → c.below-index.result ≡ prefix_len (is_below oldest.number) xs) c.deref-in-Some.ensures c.below-index.ensures.value (numbers_down next oldest.number rows c.requires.numbered.1) in
    let at = c.in-Some.ensures ∙ ap (λ xs. slice_get xs c.before-first.result) c.deref-3.ensures in
    let left = oldest_leaves columns next rows parts row oldest c.before-first.result c.below-index.result c.requires.numbered.1 c.requires.parted first index at some in
    ap (map row_in) c.in_ok-rows-in-Some.ensures ∙ left.rest ∙ sym (stays_many columns c.args.count row (map row_in rows) many)

pub returns-clause-numbered : goal.returns-clause-numbered
returns-clause-numbered c = λ next rise. subst (AreNumbered next) (sym c.in_ok-rows-in-Some.ensures) (numbers_remove next (arc_value c.args.rows) c.below-index.result rise)

pub returns-clause-parted : goal.returns-clause-parted
returns-clause-parted c =
    let columns = c.args.columns.now in
    let rows = arc_value c.args.rows in
    let parts = arc_value c.args.parts in
    let row = c.args.row.now in
    let key = key_of columns row in
    let next = c.requires.numbered.0 in
    let oldest = c.in-Some.oldest.now in
    let first = subst (λ xs. IsDown (is_before columns key false) xs → c.before-first.result ≡ prefix_len (is_before columns key false) xs) c.deref.ensures c.before-first.ensures.value (c.requires.parted.sorted key false) in
    let behind = subst (λ xs. IsDown (is_before columns key true) xs → c.before-behind.result ≡ prefix_len (is_before columns key true) xs) c.deref-2.ensures c.before-behind.ensures.value (c.requires.parted.sorted key true) in
    let many : c.args.count ≤ count_part columns row (map row_in rows) = omega (arith, first, behind, between columns rows parts row c.requires.parted, c.saturating_sub.ensures, c.get.ensures.value, c.if-saturating_sub-get.false) in
    let some : 0 < count_part columns row (map row_in rows) = omega (arith, many, c.get.ensures.value, c.get.ensures.positive) in
    let index = subst (λ xs. IsDown (is_below oldest.number) xs → c.below-index.result ≡ prefix_len (is_below oldest.number) xs) c.deref-in-Some.ensures c.below-index.ensures.value (numbers_down next oldest.number rows c.requires.numbered.1) in
    let at = c.in-Some.ensures ∙ ap (λ xs. slice_get xs c.before-first.result) c.deref-3.ensures in
    let left = oldest_leaves columns next rows parts row oldest c.before-first.result c.below-index.result c.requires.numbered.1 c.requires.parted first index at some in
    let on_rows = c.in_ok-rows-in-Some.ensures in
    let on_parts = c.in_ok-remove-in-Some.ensures in
    subst (λ xs. AreParted columns xs (arc_value c.in_ok-remove-in-Some.field-0)) (sym on_rows) (subst (AreParted columns (remove rows c.below-index.result)) (sym on_parts) left.parted)

pub remove-requires-in-Some : goal.remove-requires-in-Some
remove-requires-in-Some c = grind (arith, common_steps)
