-- Batches that are made record by record.
use Rattle.std.proofs.Common.{◌≡◌, ℕ, zero, suc, ◌+◌, ◌<◌, ◌≤◌, List, [], ◌∷◌, ◌++◌, length, take, refl, sym, ap, subst, ◌∙◌, arith, append-nil, length-append}
use Rattle.std.proofs.lemmas.List.{take-append-le}
use Rattle.md5.specs.Md5.{Holds}
use Rattle.md5.specs.declared.Md5.{Md5}
use Rattle.cql_journal.specs.Record.{Entry, Fits, body, record_line, chain_after, committed, record_lines, batch_chain}
use Rattle.cql_journal.specs.Making.{Making, AreRecords, IsHashed, WritesBatch}
use Rattle.cql_journal.proofs.Batches.{batch_size}
use Rattle.cql_journal.proofs.Parsing.{after_is_chain}
use Rattle.cql_journal.proofs.Finding.{lines_more, fit_more}

-- the bytes of a record
pub record_size : (chain tenant line : List ℕ) → length chain ≡ 16 → length (record_lines chain (record { tenant = tenant; line = line } ∷ [])) ≡ length tenant + length line + 19
record_size chain tenant line c =
    let e : Entry = record { tenant = tenant; line = line } in
    omega (arith, c, length-append (record_line chain e) (10 ∷ []), length-append chain (32 ∷ body e), length-append tenant (32 ∷ line))

pub no_records : (chain : List ℕ) → AreRecords chain []
no_records chain = record { entries = []; fit = tt; text_is = refl; short = omega arith }

pub one_more : (chain text : List ℕ) (e : Entry) → AreRecords chain text → Fits e → length text + length (record_lines chain (e ∷ [])) ≤ 16777199 → AreRecords chain (text ++ record_lines chain (e ∷ []))
one_more chain text e r f short = record {
  entries = r.entries ++ e ∷ [];
  fit = fit_more r.entries e r.fit f;
  text_is = ap (λ t. t ++ record_lines chain (e ∷ [])) r.text_is ∙ lines_more chain r.entries e [] ∙ append-nil (record_lines chain (r.entries ++ e ∷ []));
  short = omega (arith, short, length-append text (record_lines chain (e ∷ [])));
}

pub closes : (old new : Making) (text after : List ℕ) → AreRecords old.chain old.text → after ≡ chain_after old.chain old.text → text ≡ old.text ++ (after ++ 10 ∷ []) → new ≡ record { chain = after; text = [] } → WritesBatch old text new
closes old new text after r k is next =
    let chain_is : after ≡ batch_chain old.chain r.entries = k ∙ ap (chain_after old.chain) r.text_is in
    record {
      entries = r.entries;
      is = record { fit = r.fit; short = omega (arith, r.short, ap length r.text_is, batch_size old.chain r.entries) };
      lines_are = r.text_is;
      text_is = is ∙ ap (λ t. old.text ++ (t ++ 10 ∷ [])) chain_is ∙ ap (λ t. t ++ (batch_chain old.chain r.entries ++ 10 ∷ [])) r.text_is;
      new_is = next ∙ ap (λ t. record { chain = t; text = [] }) chain_is;
    }

pub too_long : (chain text lines : List ℕ) → 16777199 < length text + length lines → 16777216 < length (committed chain (text ++ lines))
too_long chain text lines long =
    let k : length (chain_after chain (text ++ lines)) ≡ 16 = (after_is_chain chain (text ++ lines)).size in
    omega (arith, long, k, length-append text lines, length-append (text ++ lines) (chain_after chain (text ++ lines) ++ 10 ∷ []), length-append (chain_after chain (text ++ lines)) (10 ∷ []))

pub hashed_more : (chain text more : List ℕ) (hasher : Md5) (hashed : ℕ) → IsHashed chain text hasher hashed → IsHashed chain (text ++ more) hasher hashed
hashed_more chain text more hasher hashed h = record {
  within = omega (arith, h.within, length-append text more);
  holds = subst (λ t. Holds hasher (chain ++ t)) (sym (take-append-le hashed text more h.within)) h.holds;
}
