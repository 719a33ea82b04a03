use Rattle.std.proofs.Common.{rules}
use Rattle.std.proofs.lemmas.Result.{on_ok_weaker}
use Rattle.std.proofs.lemmas.List.MinMax.{ranks_by}
use Rattle.std.proofs.lemmas.Fn.{always_returns_same}
use Rattle.cql_window.specs.Key.{key_cmp_total}
use Rattle.cql_store.specs.Parts.{key_in}
use Rattle.cql_store.proofs.Sorting.{is_less, sorted_parted}
use Rattle.cql_store.proofs.made.sort_by_part.Goals as goal

pub returns : goal.returns
returns c =
    let columns = c.args.columns.now in
    let order = ranks_by key_cmp_total (key_in columns) in
    let answers = always_returns_same _ _ _ (λ a r f k. search rules) in
    on_ok_weaker c.sort_by.result
    (λ sorted. sorted_parted columns _ _ (sorted (is_less columns) order answers) (c.sort_by.ensures.stable (is_less columns) order answers))
    c.sort_by.ensures.sorted
