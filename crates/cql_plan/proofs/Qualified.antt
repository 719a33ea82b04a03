-- A column with an alias before the dot is never ambiguous.
use Rattle.std.proofs.Common.{◌≡◌, ℕ, suc, Bool, true, false, ◌&&◌, ◌||◌, not, List, [], ◌∷◌, ◌++◌, refl, sym, ap, ◌∙◌, subst}
use Rattle.std.proofs.lemmas.List.{append-nil}
use Rattle.std.proofs.lemmas.Slice.Eq.{bytes_eq-Decides}
use Rattle.std.specs.Prelude.{◌≢◌, Option, Some, None, Ok, Err, if◌then◌else◌}
use Rattle.std.specs.List.{list_any}
use Rattle.std.specs.Str.{bytes_eq}
use Rattle.std.proofs.lemmas.Bool.{and_parts}
use Rattle.cql_value.specs.declared.schema.Column.{Column}
use Rattle.cql_value.specs.Schema.{are_distinct}
use Rattle.cql_syntax.specs.declared.syntax.Input.{Input}
use Rattle.cql_plan.specs.declared.error.PlanFault.TheVariants.{AmbiguousColumn}
use Rattle.cql_plan.specs.declared.row.Field.{Field}
use Rattle.cql_plan.specs.declared.row.FoundColumn.{FoundColumn}
use Rattle.cql_plan.specs.declared.source.BlockInput.{BlockInput}
use Rattle.cql_plan.specs.Outcome.{Outcome, ◌>>=◌, each}
use Rattle.cql_plan.specs.VisibleColumns.{VisibleColumns}
use Rattle.cql_plan.specs.Columns.{fields_of, may_mean, meant, the_one, column_named}
use Rattle.cql_plan.specs.Sources.{SchemaLookup, alias_of, window_of, source_with, source_of, are_apart, joined_row}
use Rattle.cql_plan.specs.Law.{AreSchemas, IsQualifiedLaw}
use Rattle.cql_plan.proofs.Each.{passes}

-- ---- tests

neither : (a b : Bool) → (a || b) ≡ false → (a ≡ false) × (b ≡ false)
neither true b h = absurd (cc)
neither false b h = (refl, h)

denied : (a : Bool) → not a ≡ true → a ≡ false
denied true h = absurd (cc)
denied false h = refl

passed_left : (a b : Bool) (x : FoundColumn) (l : List FoundColumn) → a ≡ false → (if a && b then x ∷ l else l) ≡ l
passed_left true b x l h = absurd (cc)
passed_left false b x l h = refl

passed_right : (a b : Bool) (x : FoundColumn) (l : List FoundColumn) → b ≡ false → (if a && b then x ∷ l else l) ≡ l
passed_right true true x l h = absurd (cc)
passed_right true false x l h = refl
passed_right false b x l h = refl

bytes_same : (a b : List ℕ) → bytes_eq a b ≡ true → a ≡ b
bytes_same a b same = (bytes_eq-Decides a b).0 same

ok_same : (s t : BlockInput) → ◌≡◌ {A = Outcome BlockInput} (Ok s) (Ok t) → s ≡ t
ok_same s t so = cc

ok_list : (ss ts : List BlockInput) → ◌≡◌ {A = Outcome (List BlockInput)} (Ok ss) (Ok ts) → ss ≡ ts
ok_list ss ts so = cc

-- ---- at most one

abbrev Lone : List FoundColumn → Type 0
Lone [] = Unit {0}
Lone (a ∷ []) = Unit {0}
Lone (a ∷ b ∷ more) = ⊥

lone_first : (x : FoundColumn) (l : List FoundColumn) → l ≡ [] → Lone (x ∷ l)
lone_first x [] h = tt
lone_first x (y ∷ l) h = absurd (cc)

-- ---- one input

other_alias : (q n alias : List ℕ) (p : ℕ) (cs : List Column) → bytes_eq q alias ≡ false → meant (Some q) n p (fields_of alias cs) ≡ []
unfolding meant
other_alias q n alias p [] h = refl
other_alias q n alias p (c ∷ cs) h =
    passed_right (bytes_eq n c.name) (bytes_eq q alias) _ (meant (Some q) n (suc p) (fields_of alias cs)) h ∙ other_alias q n alias (suc p) cs h

absent : (q n alias : List ℕ) (p : ℕ) (cs : List Column) → list_any (λ other. bytes_eq n other.name) cs ≡ false → meant (Some q) n p (fields_of alias cs) ≡ []
unfolding meant
absent q n alias p [] h = refl
absent q n alias p (c ∷ cs) h =
    let parts = neither (bytes_eq n c.name) (list_any (λ other. bytes_eq n other.name) cs) h in
    passed_left (bytes_eq n c.name) (bytes_eq q alias) _ (meant (Some q) n (suc p) (fields_of alias cs)) parts.0 ∙ absent q n alias (suc p) cs parts.1

lone_go : (a b : Bool) (x : FoundColumn) (l : List FoundColumn) → (a ≡ true → l ≡ []) → Lone l → Lone (if a && b then x ∷ l else l)
lone_go true true x l none lone = lone_first x l (none refl)
lone_go true false x l none lone = lone
lone_go false b x l none lone = lone

lone_input : (q n alias : List ℕ) (p : ℕ) (cs : List Column) → are_distinct cs ≡ true → Lone (meant (Some q) n p (fields_of alias cs))
unfolding meant
lone_input q n alias p [] h = tt
lone_input q n alias p (c ∷ cs) h =
    let parts = and_parts (not (list_any (λ other. bytes_eq c.name other.name) cs)) (are_distinct cs) h in
    let later = denied (list_any (λ other. bytes_eq c.name other.name) cs) parts.0 in
    lone_go (bytes_eq n c.name) (bytes_eq q alias) _ (meant (Some q) n (suc p) (fields_of alias cs))
    (λ same. absent q n alias (suc p) cs (ap (λ (m : List ℕ). list_any (λ other. bytes_eq m other.name) cs) (bytes_same n c.name same) ∙ later))
    (lone_input q n alias (suc p) cs parts.1)

-- ---- all inputs

apart : (b : Bool) (x : FoundColumn) (whole front back : List FoundColumn) → whole ≡ front ++ back → (if b then x ∷ whole else whole) ≡ (if b then x ∷ front else front) ++ back
apart true x whole front back h = ap (λ l. x ∷ l) h
apart false x whole front back h = h

split : (q : Option (List ℕ)) (n : List ℕ) (p : ℕ) (xs ys : List Field) → (k : ℕ) × (meant q n p (xs ++ ys) ≡ meant q n p xs ++ meant q n k ys)
unfolding meant
split q n p [] ys = (p, refl)
split q n p (f ∷ xs) ys =
    let rest = split q n (suc p) xs ys in
    (rest.0, apart (may_mean q n f) _ (meant q n (suc p) (xs ++ ys)) (meant q n (suc p) xs) (meant q n rest.0 ys) rest.1)

-- an input of a stream with distinct columns
abbrev IsInput : BlockInput → Type 0
IsInput s = (columns : List Column) × (s.fields ≡ fields_of s.alias columns) × (are_distinct columns ≡ true)

abbrev AreInputs : List BlockInput → Type 0
AreInputs [] = Unit {0}
AreInputs (s ∷ ss) = IsInput s × AreInputs ss

source_go : (readable : SchemaLookup) (input : Input) (s : BlockInput) → AreSchemas readable
    → (o : Option VisibleColumns) → readable input.stream.qualifier input.stream.name ≡ o → source_with input o ≡ Ok s → IsInput s
source_go readable input s schemas None same so = absurd (cc)
source_go readable input s schemas (Some seen) same so =
    let one = passes (window_of (fields_of (alias_of input) seen.schema) input.window) _ s so in
    subst IsInput (ok_same _ s one.2) (seen.schema, refl, schemas input.stream.qualifier input.stream.name seen same)

source_is : (readable : SchemaLookup) (input : Input) (s : BlockInput) → AreSchemas readable → source_of readable input ≡ Ok s → IsInput s
unfolding source_of
source_is readable input s schemas so = source_go readable input s schemas (readable input.stream.qualifier input.stream.name) refl so

sources_are : (readable : SchemaLookup) (inputs : List Input) (ss : List BlockInput) → AreSchemas readable → each (source_of readable) inputs ≡ Ok ss → AreInputs ss
unfolding each
sources_are readable [] ss schemas so = let none : [] ≡ ss = cc in subst AreInputs none tt
sources_are readable (input ∷ inputs) ss schemas so =
    let one = passes (source_of readable input) (λ (s : BlockInput). each (source_of readable) inputs >>= (λ more. Ok (s ∷ more))) ss so in
    let two = passes (each (source_of readable) inputs) (λ (more : List BlockInput). Ok (one.0 ∷ more)) ss one.2 in
    subst AreInputs (ok_list (one.0 ∷ two.0) ss two.2) (source_is readable input one.0 schemas one.1, sources_are readable inputs two.0 schemas two.1)

none_later : (q n : List ℕ) (p : ℕ) (ss : List BlockInput) → AreInputs ss → list_any (λ other. bytes_eq q other.alias) ss ≡ false → meant (Some q) n p (joined_row ss) ≡ []
unfolding meant joined_row
none_later q n p [] are h = refl
none_later q n p (s ∷ ss) are h =
    let parts = neither (bytes_eq q s.alias) (list_any (λ other. bytes_eq q other.alias) ss) h in
    let cut = split (Some q) n p s.fields (joined_row ss) in
    let front : meant (Some q) n p s.fields ≡ [] = ap (meant (Some q) n p) are.0.1 ∙ other_alias q n s.alias p are.0.0 parts.0 in
    let back : meant (Some q) n cut.0 (joined_row ss) ≡ [] = none_later q n cut.0 ss are.1 parts.1 in
    cut.1 ∙ ap (λ l. l ++ meant (Some q) n cut.0 (joined_row ss)) front ∙ back

lone_cases : (same : Bool) (front back : List FoundColumn) → (same ≡ true → back ≡ []) → (same ≡ false → front ≡ []) → Lone front → Lone back → Lone (front ++ back)
lone_cases true front back none other f b = subst Lone (sym (ap (λ l. front ++ l) (none refl) ∙ append-nil front)) f
lone_cases false front back none other f b = subst Lone (sym (ap (λ l. l ++ back) (other refl))) b

lone_row : (q n : List ℕ) (p : ℕ) (ss : List BlockInput) → AreInputs ss → are_apart ss ≡ true → Lone (meant (Some q) n p (joined_row ss))
unfolding meant joined_row are_apart
lone_row q n p [] are h = tt
lone_row q n p (s ∷ ss) are h =
    let parts = and_parts (not (list_any (λ other. bytes_eq s.alias other.alias) ss)) (are_apart ss) h in
    let later = denied (list_any (λ other. bytes_eq s.alias other.alias) ss) parts.0 in
    let cut = split (Some q) n p s.fields (joined_row ss) in
    let front : Lone (meant (Some q) n p s.fields) = subst (λ (fs : List Field). Lone (meant (Some q) n p fs)) (sym are.0.1) (lone_input q n s.alias p are.0.0 are.0.2) in
    subst Lone (sym cut.1) (lone_cases (bytes_eq q s.alias) (meant (Some q) n p s.fields) (meant (Some q) n cut.0 (joined_row ss))
    (λ same. none_later q n cut.0 ss are.1 (ap (λ (a : List ℕ). list_any (λ other. bytes_eq a other.alias) ss) (bytes_same q s.alias same) ∙ later))
    (λ other. ap (meant (Some q) n p) are.0.1 ∙ other_alias q n s.alias p are.0.0 other)
    front (lone_row q n cut.0 ss are.1 parts.1))

lone_not : (l : List FoundColumn) → Lone l → the_one l ≢ Err AmbiguousColumn
lone_not [] lone h = cc
lone_not (a ∷ []) lone h = cc
lone_not (a ∷ b ∷ more) lone h = absurd lone

pub qualified_law : IsQualifiedLaw
unfolding column_named
qualified_law readable inputs ss q n schemas so apart_ = lone_not (meant (Some q) n 0 (joined_row ss)) (lone_row q n 0 ss (sources_are readable inputs ss schemas so) apart_)
