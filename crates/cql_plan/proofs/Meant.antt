-- What a written column means.
use Rattle.std.proofs.Common.{◌≡◌, ◌<◌, ℕ, zero, suc, ◌+◌, Bool, true, false, List, [], ◌∷◌, refl, sym, ap, ◌∙◌, arith, inl, inr, subst}
use Rattle.std.specs.Prelude.{Option, Some, slice_get, if◌then◌else◌}
use Rattle.cql_plan.specs.declared.row.Field.{Field}
use Rattle.cql_plan.specs.declared.row.FoundColumn.{FoundColumn}
use Rattle.cql_plan.specs.Columns.{meant, may_mean, the_one, column_named}
use Rattle.cql_plan.specs.Law.{MayMeanAt, IsMeaning, IsColumnLaw}
use Rattle.cql_plan.proofs.Finding.{here}

-- ---- nothing is meant

none_go : (q : Option (List ℕ)) (n : List ℕ) (p : ℕ) (f : Field) (fs : List Field) → (meant q n (suc p) fs ≡ [] → (i : ℕ) → MayMeanAt q n fs i → ⊥)
    → (b : Bool) → may_mean q n f ≡ b → (if b then here p f ∷ meant q n (suc p) fs else meant q n (suc p) fs) ≡ [] → (i : ℕ) → MayMeanAt q n (f ∷ fs) i → ⊥
none_go q n p f fs rest true same none i is = cc
none_go q n p f fs rest false same none zero (g, at, may) = let one : f ≡ g = cc in let both : may_mean q n f ≡ true = ap (may_mean q n) one ∙ may in cc
none_go q n p f fs rest false same none (suc i) (g, at, may) = rest none i (g, at, may)

none_meant : (q : Option (List ℕ)) (n : List ℕ) (p : ℕ) (fs : List Field) → meant q n p fs ≡ [] → (i : ℕ) → MayMeanAt q n fs i → ⊥
unfolding meant
none_meant q n p [] none i (f, at, may) = cc
none_meant q n p (f ∷ fs) none i is = none_go q n p f fs (none_meant q n (suc p) fs) (may_mean q n f) refl none i is

-- ---- the first that is meant, and whether another is

pub record First (q : Option (List ℕ)) (n : List ℕ) (p : ℕ) (fs : List Field) (found : FoundColumn) (more : List FoundColumn) : Type 0 where
  pub at : ℕ
  pub field : Field
  pub stands : slice_get fs at ≡ Some field
  pub may : may_mean q n field ≡ true
  pub column : found.column ≡ p + at
  pub kind : found.kind ≡ field.kind
  pub alone : more ≡ [] → (j : ℕ) → MayMeanAt q n fs j → j ≡ at
  pub other : (another : FoundColumn) (rest : List FoundColumn) → more ≡ another ∷ rest → (j : ℕ) × (at < j) × MayMeanAt q n fs j

alone_here : (q : Option (List ℕ)) (n : List ℕ) (p : ℕ) (f : Field) (fs : List Field) → meant q n (suc p) fs ≡ [] → (j : ℕ) → MayMeanAt q n (f ∷ fs) j → j ≡ 0
alone_here q n p f fs none zero is = refl
alone_here q n p f fs none (suc j) (g, at, may) = absurd (none_meant q n (suc p) fs none j (g, at, may))

first_here : (q : Option (List ℕ)) (n : List ℕ) (p : ℕ) (f : Field) (fs : List Field) (found : FoundColumn) (more : List FoundColumn)
    → ((another : FoundColumn) (rest : List FoundColumn) → meant q n (suc p) fs ≡ another ∷ rest → First q n (suc p) fs another rest)
    → may_mean q n f ≡ true → here p f ∷ meant q n (suc p) fs ≡ found ∷ more → First q n p (f ∷ fs) found more
first_here q n p f fs found more later same so =
    let one : here p f ≡ found = cc in
    let rest : meant q n (suc p) fs ≡ more = cc in
    record {
      at = 0;
      field = f;
      stands = refl;
      may = same;
      column = (let column : p ≡ found.column = ap (λ (x : FoundColumn). x.column) one in omega arith);
      kind = sym (ap (λ (x : FoundColumn). x.kind) one);
      alone = λ nothing j is. alone_here q n p f fs (rest ∙ nothing) j is;
      other = λ another others is.
          (let next = later another others (rest ∙ is) in (suc next.at, omega arith, (next.field, next.stands, next.may)));
    }

alone_later : (q : Option (List ℕ)) (n : List ℕ) (f : Field) (fs : List Field) (i : ℕ) → may_mean q n f ≡ false → ((j : ℕ) → MayMeanAt q n fs j → j ≡ i)
    → (j : ℕ) → MayMeanAt q n (f ∷ fs) j → j ≡ suc i
alone_later q n f fs i same only zero (g, at, may) = let one : f ≡ g = cc in let both : may_mean q n f ≡ true = ap (may_mean q n) one ∙ may in cc
alone_later q n f fs i same only (suc j) (g, at, may) = ap (λ k. suc k) (only j (g, at, may))

first_later : (q : Option (List ℕ)) (n : List ℕ) (p : ℕ) (f : Field) (fs : List Field) (found : FoundColumn) (more : List FoundColumn)
    → First q n (suc p) fs found more → may_mean q n f ≡ false → First q n p (f ∷ fs) found more
first_later q n p f fs found more next same = record {
  at = suc next.at;
  field = next.field;
  stands = next.stands;
  may = next.may;
  column = (let column : found.column ≡ suc p + next.at = next.column in omega arith);
  kind = next.kind;
  alone = λ nothing j is. alone_later q n f fs next.at same (next.alone nothing) j is;
  other = λ another others is. (let o = next.other another others is in (suc o.0, (let below : next.at < o.0 = o.1 in omega arith), o.2));
}

first_go : (q : Option (List ℕ)) (n : List ℕ) (p : ℕ) (f : Field) (fs : List Field) (found : FoundColumn) (more : List FoundColumn)
    → ((another : FoundColumn) (rest : List FoundColumn) → meant q n (suc p) fs ≡ another ∷ rest → First q n (suc p) fs another rest)
    → (b : Bool) → may_mean q n f ≡ b → (if b then here p f ∷ meant q n (suc p) fs else meant q n (suc p) fs) ≡ found ∷ more → First q n p (f ∷ fs) found more
first_go q n p f fs found more later true same so = first_here q n p f fs found more later same so
first_go q n p f fs found more later false same so = first_later q n p f fs found more (later found more so) same

first_meant : (q : Option (List ℕ)) (n : List ℕ) (p : ℕ) (fs : List Field) (found : FoundColumn) (more : List FoundColumn) → meant q n p fs ≡ found ∷ more → First q n p fs found more
unfolding meant
first_meant q n p [] found more so = absurd (cc)
first_meant q n p (f ∷ fs) found more so = first_go q n p f fs found more (first_meant q n (suc p) fs) (may_mean q n f) refl so

-- ---- the law

meaning_go : (q : Option (List ℕ)) (n : List ℕ) (fs : List Field) (l : List FoundColumn) → meant q n 0 fs ≡ l → IsMeaning q n fs (the_one l)
meaning_go q n fs [] so = inl (refl, none_meant q n 0 fs so)
meaning_go q n fs (found ∷ []) so =
    let is = first_meant q n 0 fs found [] so in
    let column : is.at ≡ found.column = omega (arith, is.column) in
    let P : ℕ → Type 0 = λ i. slice_get fs i ≡ Some is.field in
    ((is.field, subst P column is.stands, is.may, is.kind), λ other o. is.alone refl other o ∙ column)
meaning_go q n fs (found ∷ another ∷ rest) so =
    let is = first_meant q n 0 fs found (another ∷ rest) so in
    let o = is.other another rest refl in
    inr (refl, (is.at, o.0, o.1, (is.field, is.stands, is.may), o.2))

pub column_law : IsColumnLaw
unfolding column_named
column_law q n fs = meaning_go q n fs (meant q n 0 fs) refl
