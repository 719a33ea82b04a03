use Rattle.std.proofs.Common.{◌≡◌, ◌+◌, ◌∙◌, Some, None, length, ap, rules}
use Rattle.cql_store.specs.Sequence.{slot_of, marked}
use Rattle.cql_store.proofs.Settled.{stub_seen, none_seen}
use Rattle.cql_store.proofs.store.Store.is_overrun.Goals as goal

pub returns-in-None : goal.returns-in-None
returns-in-None c =
    let rows = c.self.inside.rows in
    let gone = c.self.inside.gone in
    let none : slot_of c.self.inside.stubs.slots c.args.id ≡ None = search rules in
    rw (← c.self.view_is, none_seen rows gone (gone + length rows) c.self.inside.stubs.slots c.args.id none) tt

pub returns-in-Some : goal.returns-in-Some
returns-in-Some c =
    let rows = c.self.inside.rows in
    let gone = c.self.inside.gone in
    let slots = c.self.inside.stubs.slots in
    let s = c.in-Some.stub.now in
    let found : slot_of slots c.args.id ≡ Some s = search rules in
    let over : c.is_overrun.result ≡ (marked (gone + length rows) s).overrun = c.is_overrun.ensures ∙ ap (λ n. (marked n s).overrun) c.count_of.ensures in
    rw (← c.self.view_is, stub_seen rows gone (gone + length rows) slots c.args.id s found) over
