use Rattle.std.proofs.Common.{◌≡◌, Bool, true, false, not, refl, sym, ap, ◌∙◌}
use Rattle.std.specs.Prelude.{◌↔◌}
use Rattle.cql_journal.specs.Record.{Entry, Lacks, Fits}
use Rattle.cql_journal.specs.Taken.{entry_of}
use Rattle.cql_journal.proofs.batch.fits.Goals.{then-not-has_byte, else-not-has_byte}
use Rattle.cql_journal.proofs.batch.fits.Goals as goal

is_false : (b : Bool) → not b ≡ true → b ≡ false
is_false false e = refl
is_false true e = let no : false ≡ true = e in absurd cc

is_true : (b : Bool) → b ≡ false → not b ≡ true
is_true b e = ap not e

-- what three tests tell of an entry
fit : (e : Entry) (a b d : Bool) → (a ≡ false ↔ Lacks 32 e.tenant) → (b ≡ false ↔ Lacks 10 e.tenant) → (d ≡ false ↔ Lacks 10 e.line) → a ≡ false → not b ≡ true → (not d ≡ true ↔ Fits e)
fit e a b d p q r x y =
    (λ z. record { spaceless = p.0 x; feedless = q.0 (is_false b y); whole = r.0 (is_false d z) }, λ f. is_true d (r.1 f.whole))

pub returns-then-not-has_byte-2 : goal.returns-then-not-has_byte-2
returns-then-not-has_byte-2 c =
    elim c.if-not-has_byte.branch [
      | then-not-has_byte w ↦ fit (entry_of c.args.given) _ _ _ c.has_byte.ensures w.has_byte-then-not-has_byte.ensures c.has_byte-then-not-has_byte-2.ensures w.if-not-has_byte.true (sym w.value-is ∙ c.if-not-has_byte-2.true)
      | else-not-has_byte w ↦ let no : false ≡ true = sym (ap not w.if-not-has_byte.false) ∙ (sym w.value-is ∙ c.if-not-has_byte-2.true) in absurd cc
    ]

pub returns-else-not-has_byte-2 : goal.returns-else-not-has_byte-2
returns-else-not-has_byte-2 c = (
  λ h. let no : false ≡ true = sym c.if-not-has_byte-2.false ∙ h in absurd cc,
  λ f. elim c.if-not-has_byte.branch [
    | then-not-has_byte w ↦ w.value-is ∙ is_true _ (w.has_byte-then-not-has_byte.ensures.1 f.feedless)
    | else-not-has_byte w ↦ let no : false ≡ true = sym (c.has_byte.ensures.1 f.spaceless) ∙ w.if-not-has_byte.false in absurd cc
  ],
)
