use Rattle.std.proofs.Common.{◌++◌, ◌∷◌, [], if◌then◌else◌, sym, ap, ◌∙◌}
use Rattle.cql_bag.specs.Bag.{put, put_rows, less_one}
use Rattle.cql_bag.proofs.Orders.{at_end}
use Rattle.cql_bag.proofs.row_queue.RowQueue.change.Goals as goal

pub returns-in_ok-push_back : goal.returns-in_ok-push_back
returns-in_ok-push_back c =
    let bag = c.self.inside.ordered in
    let rows = c.self.inside.waiting.items in
    let row = c.args.change.now.row in
    ap (λ l. put_rows l bag) (c.in_ok-push_back.ensures.items ∙ ap (λ r. rows ++ r ∷ []) c.in_ok-try_clone.ensures) ∙ at_end rows row bag ∙ ap (put row) c.self.view_is ∙ sym (ap (λ b. if b then put row c.args.self.now else less_one row c.args.self.now) c.if-change.true)
