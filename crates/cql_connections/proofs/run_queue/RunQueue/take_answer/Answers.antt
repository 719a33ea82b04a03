use Rattle.std.proofs.Common.{◌≡◌, ◌∙◌, ℕ, true, ap, sym, subst, slice_index_or, arith}
use Rattle.std.proofs.lemmas.Grind.{common_steps}
use Rattle.std.specs.Prelude.{Some}
use Rattle.std.specs.List.{position}
use Rattle.cql_connections.specs.Turns.{Queues}
use Rattle.cql_connections.specs.Queues.{may_begin}
use Rattle.cql_connections.proofs.Begins.{found_may}
use Rattle.cql_connections.proofs.run_queue.RunQueue.take_answer.Goals as goal

pub begin-requires : goal.begin-requires
begin-requires g c =
    let order : c.answers.inside.order.items ≡ c.args.self.now.answers.order = ap (λ (v : Queues g.row.T.Denot). v.order) c.answers.view_is in
    let at : c.index-owner.result.now ≡ slice_index_or c.args.self.now.answers.order c.in_ok-at.at c.index-owner.result.now = c.index-owner.ensures ∙ ap (λ l. slice_index_or l c.in_ok-at.at c.index-owner.result.now) order in
    let found : position (λ owner. may_begin c.args.self.now owner) c.args.self.now.answers.order ≡ Some c.in_ok-at.at = sym c.in_ok-at.ensures in
    subst (λ (o : ℕ). may_begin c.args.self.now o ≡ true) (sym at) (found_may c.args.self.now c.in_ok-at.at c.index-owner.result.now found)

pub returns-in_err-item-clause-none : goal.returns-in_err-item-clause-none
returns-in_err-item-clause-none g c = grind (arith, common_steps)
