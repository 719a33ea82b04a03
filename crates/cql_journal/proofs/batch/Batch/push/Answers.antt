use Rattle.std.proofs.Common.{rules, arith, ◌≡◌, ◌<◌, ◌+◌, ◌++◌, ◌∷◌, [], List, ℕ, length, ap, sym, subst, ◌∙◌}
use Rattle.std.proofs.lemmas.Grind.{common_steps}
use Rattle.cql_journal.specs.Record.{Fits, committed, record_lines}
use Rattle.cql_journal.specs.Making.{Making, AreRecords, IsHashed}
use Rattle.cql_journal.specs.Taken.{entry_of}
use Rattle.cql_journal.proofs.Making.{too_long, record_size, one_more, hashed_more}
use Rattle.cql_journal.proofs.batch.Batch.push.Goals as goal

pub returns-then-size-room-clause-fault : goal.returns-then-size-room-clause-fault
returns-then-size-room-clause-fault c =
    let lines : List ℕ = record_lines c.self.inside.chain (entry_of c.args.given ∷ []) in
    let size : length lines ≡ length c.args.given.tenant.now + length c.args.given.line.now + 19 = record_size c.self.inside.chain _ _ c.self.told in
    subst (λ (m : Making). 16777216 < length (committed m.chain (m.text ++ record_lines m.chain (entry_of c.args.given ∷ [])))) c.self.view_is (too_long c.self.inside.chain c.self.inside.text.items lines (omega (arith, size, c.saturating_add-size.ensures, c.len.ensures, c.if-size-room.true, c.self.invariant.0.short)))

pub invariant_of-self : goal.invariant_of-self
invariant_of-self c =
    let same : c.self.inside.text.items ≡ c.reserve.new.self.items = sym (c.in_err-reserve.ensures).items in
    (subst (AreRecords c.self.inside.chain) same c.self.invariant.0, subst (λ t. IsHashed c.self.inside.chain t c.self.inside.hasher c.self.inside.hashed) same c.self.invariant.1)

pub invariant_of-self-2 : goal.invariant_of-self-2
invariant_of-self-2 c =
    let lines : List ℕ = record_lines c.self.inside.chain (entry_of c.args.given ∷ []) in
    let size : length lines ≡ length c.args.given.tenant.now + length c.args.given.line.now + 19 = record_size c.self.inside.chain _ _ c.self.told in
    let same : c.reserve.new.self.items ≡ c.self.inside.text.items = (c.in_ok-reserve.ensures).items in
    let text : c.self.inside.text.items ++ lines ≡ c.append_record.new.text.items = sym (c.append_record.ensures ∙ ap (λ t. t ++ lines) same) in
    let fits : Fits (entry_of c.args.given) = (c.fits.ensures).0 (search rules) in (
      subst (AreRecords c.self.inside.chain) text (one_more c.self.inside.chain c.self.inside.text.items (entry_of c.args.given) c.self.invariant.0 fits (omega (arith, size, c.saturating_add-size.ensures, c.len.ensures, c.if-size-room.false, c.self.invariant.0.short))),
      subst (λ t. IsHashed c.self.inside.chain t c.self.inside.hasher c.self.inside.hashed) text (hashed_more _ _ lines _ _ c.self.invariant.1),
    )

pub append_record-requires : goal.append_record-requires
append_record-requires c = grind (arith, common_steps)
