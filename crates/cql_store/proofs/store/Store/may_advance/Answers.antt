use Rattle.std.proofs.Common.{◌≡◌, ◌+◌, ◌∙◌, true, false, Some, None, length, sym, ap, rules}
use Rattle.cql_store.specs.Sequence.{slot_of, marked}
use Rattle.cql_store.proofs.Settled.{can_go, over_stays, none_stays}
use Rattle.cql_store.proofs.store.Store.may_advance.Goals as goal

pub returns-then-not-is_overrun : goal.returns-then-not-is_overrun
returns-then-not-is_overrun c =
    let rows = c.self.inside.rows in
    let gone = c.self.inside.gone in
    let slots = c.self.inside.stubs.slots in
    let s = c.in-Some.stub.now in
    let found : slot_of slots c.args.id ≡ Some s = search rules in
    let is : c.is_overrun.result ≡ false = search rules in
    let live : (marked (gone + length rows) s).overrun ≡ false = ap (λ n. (marked n s).overrun) (sym c.count_of.ensures) ∙ sym c.is_overrun.ensures ∙ is in
    rw (← c.self.view_is) (can_go rows gone (gone + length rows) c.args.to slots c.args.id s found live)

pub returns-else-not-is_overrun : goal.returns-else-not-is_overrun
returns-else-not-is_overrun c =
    let rows = c.self.inside.rows in
    let gone = c.self.inside.gone in
    let slots = c.self.inside.stubs.slots in
    let s = c.in-Some.stub.now in
    let found : slot_of slots c.args.id ≡ Some s = search rules in
    let is : c.is_overrun.result ≡ true = search rules in
    let over : (marked (gone + length rows) s).overrun ≡ true = ap (λ n. (marked n s).overrun) (sym c.count_of.ensures) ∙ sym c.is_overrun.ensures ∙ is in
    rw (← c.self.view_is, is) (over_stays rows gone (gone + length rows) c.args.to slots c.args.id s found over)

pub returns-in-None : goal.returns-in-None
returns-in-None c =
    let rows = c.self.inside.rows in
    let gone = c.self.inside.gone in
    let none : slot_of c.self.inside.stubs.slots c.args.id ≡ None = search rules in
    rw (← c.self.view_is) (none_stays rows gone (gone + length rows) c.args.to c.self.inside.stubs.slots c.args.id none)
