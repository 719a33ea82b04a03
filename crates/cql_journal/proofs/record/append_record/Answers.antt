use Rattle.std.proofs.Common.{◌≡◌, ℕ, ◌+◌, List, [], ◌∷◌, ◌++◌, length, ap, ◌∙◌, arith, append_assoc}
use Rattle.cql_journal.specs.Record.{record_lines}
use Rattle.cql_journal.specs.Taken.{entry_of}
use Rattle.cql_journal.proofs.Making.{record_size}
use Rattle.cql_journal.proofs.record.append_record.Goals as goal

-- three pieces behind each other are a record's line
behind : (old a b d chain shown tenant line : List ℕ) → shown ≡ chain → a ≡ old ++ (shown ++ 32 ∷ []) → b ≡ a ++ (tenant ++ 32 ∷ []) → d ≡ b ++ (line ++ 10 ∷ []) → d ≡ old ++ ((chain ++ 32 ∷ (tenant ++ 32 ∷ line)) ++ 10 ∷ [])
behind old a b d chain shown tenant line s p q r =
    let first : a ≡ old ++ (chain ++ 32 ∷ []) = p ∙ ap (λ t. old ++ (t ++ 32 ∷ [])) s in
    let all : d ≡ ((old ++ (chain ++ 32 ∷ [])) ++ (tenant ++ 32 ∷ [])) ++ (line ++ 10 ∷ []) = r ∙ ap (λ t. t ++ (line ++ 10 ∷ [])) (q ∙ ap (λ t. t ++ (tenant ++ 32 ∷ [])) first) in
    let same : ((old ++ (chain ++ 32 ∷ [])) ++ (tenant ++ 32 ∷ [])) ++ (line ++ 10 ∷ []) ≡ old ++ ((chain ++ 32 ∷ (tenant ++ 32 ∷ line)) ++ 10 ∷ []) = simp append_assoc in
    all ∙ same

pub append_ended-requires : goal.append_ended-requires
append_ended-requires c =
    let size : length (record_lines c.args.chain.now (entry_of c.args.given ∷ [])) ≡ length c.args.given.tenant.now + length c.args.given.line.now + 19 = record_size c.args.chain.now _ _ c.told-chain in
    omega (arith, size, ap length c.as_slice.ensures)

pub append_ended-requires-2 : goal.append_ended-requires-2
append_ended-requires-2 c =
    let size : length (record_lines c.args.chain.now (entry_of c.args.given ∷ [])) ≡ length c.args.given.tenant.now + length c.args.given.line.now + 19 = record_size c.args.chain.now _ _ c.told-chain in
    omega (arith, size, ap length c.as_slice.ensures, c.append_ended.ensures.len, c.append_ended.ensures.capacity)

pub append_ended-requires-3 : goal.append_ended-requires-3
append_ended-requires-3 c =
    let size : length (record_lines c.args.chain.now (entry_of c.args.given ∷ [])) ≡ length c.args.given.tenant.now + length c.args.given.line.now + 19 = record_size c.args.chain.now _ _ c.told-chain in
    omega (arith, size, ap length c.as_slice.ensures, c.append_ended.ensures.len, c.append_ended.ensures.capacity, c.append_ended-2.ensures.len, c.append_ended-2.ensures.capacity)

pub returns : goal.returns
returns c =
    behind c.args.text.now.items c.append_ended.new.text.items c.append_ended-2.new.text.items c.append_ended-3.new.text.items c.args.chain.now c.as_slice.result.now c.args.given.tenant.now c.args.given.line.now
    c.as_slice.ensures c.append_ended.ensures.items c.append_ended-2.ensures.items c.append_ended-3.ensures.items
