use Rattle.std.proofs.Common.{rules, subst, ap, sym, ◌≡◌, ◌∙◌, ◌++◌, ◌∷◌, [], take}
use Rattle.md5.specs.Md5.{Holds}
use Rattle.cql_journal.specs.Record.{chain_after}
use Rattle.cql_journal.specs.Making.{Making, WritesBatch}
use Rattle.cql_journal.proofs.Making.{closes}
use Rattle.cql_journal.proofs.batch.Batch.close.Goals as goal

pub returns-clause-ok : goal.returns-clause-ok
returns-clause-ok c =
    let inside : Making = record { chain = c.self.inside.chain; text = c.self.inside.text.items } in
    let kept : c.reserve.new.self.items ≡ c.self.inside.text.items = c.in_ok-reserve.ensures.items in
    let shown : c.deref.result.now ≡ c.self.inside.text.items = c.deref.ensures.value ∙ kept in
    let after : c.chain_behind-self-inside.result ≡ chain_after c.self.inside.chain c.self.inside.text.items = subst (λ t. c.chain_behind-self-inside.result ≡ chain_after c.self.inside.chain t) shown (c.chain_behind-self-inside.ensures.chain c.self.inside.chain (subst (λ t. Holds c.self.inside.hasher (c.self.inside.chain ++ take c.self.inside.hashed t)) (sym shown) c.self.invariant.1.holds)) in
    let bytes : c.swap.new.y.items ≡ c.self.inside.text.items ++ (c.chain_behind-self-inside.result ++ 10 ∷ []) = ap (λ v. v.items) c.swap.ensures.y_after ∙ c.append_ended.ensures.items ∙ ap (λ k. c.reserve.new.self.items ++ (k ++ 10 ∷ [])) c.as_slice.ensures ∙ ap (λ t. t ++ (c.chain_behind-self-inside.result ++ 10 ∷ [])) kept in
    let next : c.swap.new.x.items ≡ [] = (search rules) in
    let made : Making = record { chain = c.chain_behind-self-inside.result; text = c.swap.new.x.items } in
    subst (λ old. WritesBatch old c.swap.new.y.items made) c.self.view_is (closes inside made c.swap.new.y.items c.chain_behind-self-inside.result c.self.invariant.0 after bytes (ap (λ t. record { chain = c.chain_behind-self-inside.result; text = t }) next))
