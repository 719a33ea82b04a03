-- What breaks no rule is a table.
use Rattle.std.proofs.Common.{◌≡◌, ℕ, suc, ◌+◌, Bool, true, false, ◌&&◌, ◌||◌, not, List, [], ◌∷◌, length, codes, Option, Some, None, refl, sym, ap, ◌∙◌, option_map, option_and_then, is_some, IsSome}
use Rattle.std.specs.Bool.{if◌then◌else◌}
use Rattle.std.specs.Option.{option_or}
use Rattle.std.specs.List.{list_all, list_any}
use Rattle.std.specs.Str.{bytes_eq}
use Rattle.serde_json.specs.Data.{Data, Items, no_items, item}
use Rattle.serde_json.specs.Find.{get, as_object}
use Rattle.serde_json.specs.View.{items_view}
use Rattle.serde_json.specs.declared.value.Value.{Value}
use Rattle.cql_value.specs.Name.{is_name}
use Rattle.cql_tenants.specs.declared.tenants.Tenant.{Tenant}
use Rattle.cql_tenants.specs.Tenants.{is_within, is_tenant, are_apart, is_table}
use Rattle.cql_asked.specs.declared.rules.TenantKey.{TenantKey}
use Rattle.cql_asked.specs.declared.rules.TenantKey.TheVariants as key
use Rattle.cql_asked.specs.declared.rules.TenantRule.{TenantRule}
use Rattle.cql_asked.specs.declared.rules.TenantRule.TheVariants as rule
use Rattle.cql_asked.specs.declared.rules.BrokenRule.TheVariants as broken
use Rattle.cql_lines.specs.Tree.{text_at, whole_at, array_at, has_only, all_of}
use Rattle.cql_asked.specs.Table.{tenant_keys, tenant_of, tenants_of, as_table}
use Rattle.cql_asked.specs.Rules.{word_of, is_number, is_key, is_named, key_passes, number_rule, keys_rule, rule_of_tenant, tenant_breaks, rules_from, is_the_name, has_name, named_from, twin_of}
use Rattle.cql_asked.specs.Rules.{twin_breaks, twins_from, items_len, rule_of_items, rule_in_list, rule_of_tree}

pub items_len_view : (vs : List Value) → items_len (items_view vs) ≡ length vs
items_len_view [] = refl
items_len_view (v ∷ vs) = ap suc (items_len_view vs)

-- ---- choices that come to nothing

neither : {A : Type 0} (p q : Option A) → option_or p q ≡ None → (p ≡ None) × (q ≡ None)
neither None q e = (refl, e)
neither (Some x) q e = cc

then_none : {A : Type 0} (b : Bool) (x : A) (o : Option A) → (if b then o else Some x) ≡ None → (b ≡ true) × (o ≡ None)
then_none true x o e = (refl, e)
then_none false x o e = cc

else_none : {A : Type 0} (b : Bool) (x : A) (o : Option A) → (if b then Some x else o) ≡ None → (b ≡ false) × (o ≡ None)
else_none true x o e = cc
else_none false x o e = (refl, e)

mapped_none : {A B : Type 0} (f : A → B) (o : Option A) → option_map f o ≡ None → o ≡ None
mapped_none f None e = refl
mapped_none f (Some x) e = cc

passed : (k : TenantKey) (d : Data) (passes : Bool) → key_passes k d passes ≡ None → passes ≡ true
passed k d passes e =
    let there = then_none (is_some (get (word_of k) d)) (rule.Has k) (if passes then None else Some (rule.InRange k)) e in
    (then_none passes (rule.InRange k) None there.1).0

number_there : (low high : ℕ) (o : Option ℕ) → is_number low high o ≡ true → (n : ℕ) × ((o ≡ Some n) × (is_within low high n ≡ true))
number_there low high None e = cc
number_there low high (Some n) e = (n, (refl, e))

key_there : (o : Option (List ℕ)) → is_key o ≡ true → (text : List ℕ) × ((o ≡ Some text) × (is_within 1 64 (length text) ≡ true))
key_there None e = cc
key_there (Some text) e = (text, (refl, e))

name_there : (o : Option (List ℕ)) → is_named o ≡ true → (text : List ℕ) × ((o ≡ Some text) × (is_name text ≡ true))
name_there None e = cc
name_there (Some text) e = (text, (refl, e))

-- ---- a tenant

-- the data is that of the tenant, which is within its ranges
record IsRight (d : Data) (t : Tenant) : Type 0 where
  pub gives : tenant_of d ≡ Some t
  pub within : is_tenant t ≡ true
  pub name : text_at (codes "name") d ≡ Some t.name

abbrev made_tenant : List ℕ → List ℕ → ℕ → ℕ → ℕ → ℕ → Tenant
made_tenant name key streams queries hold result =
    record { name = name; key = key; quotas = record { streams = streams; queries = queries; hold = hold; result = result } }

-- what is read, by what stands at its keys
abbrev made : Bool → Option (List ℕ) → Option (List ℕ) → Option ℕ → Option ℕ → Option ℕ → Option ℕ → Option Tenant
made only name key streams queries hold result =
    if only then option_and_then (λ n. option_and_then (λ k. option_map (λ quotas. record { name = n; key = k; quotas = quotas })
    (option_and_then (λ s. option_and_then (λ q. option_and_then (λ h. option_map (λ r. record { streams = s; queries = q; hold = h; result = r })
    result) hold) queries) streams)) key) (option_and_then (λ text. if is_name text then Some text else None) name) else None

made_gives : (only : Bool) (name key : Option (List ℕ)) (streams queries hold result : Option ℕ) (n k : List ℕ) (s q h r : ℕ)
    → only ≡ true → name ≡ Some n → is_name n ≡ true → key ≡ Some k → streams ≡ Some s → queries ≡ Some q → hold ≡ Some h → result ≡ Some r
    → made only name key streams queries hold result ≡ Some (made_tenant n k s q h r)
made_gives only name key streams queries hold result n k s q h r a b c d e f g i = rw (a, b, c, d, e, f, g, i) refl

both : (a b : Bool) → a ≡ true → b ≡ true → (a && b) ≡ true
both true b e f = f
both false b e f = cc

right_tenant : (d : Data) → rule_of_tenant d ≡ None → (t : Tenant) × IsRight d t
right_tenant d e =
    let hold_rule : Option TenantRule = number_rule key.Hold 1 65536 d in
    let login_rule : Option TenantRule = key_passes key.Key d (is_key (text_at (codes "key") d)) in
    let name_rule : Option TenantRule = key_passes key.Name d (is_named (text_at (codes "name") d)) in
    let queries_rule : Option TenantRule = number_rule key.Queries 0 64 d in
    let result_rule : Option TenantRule = number_rule key.Result 1 65536 d in
    let streams_rule : Option TenantRule = number_rule key.Streams 0 64 d in
    let two_rules : Option TenantRule = option_or hold_rule login_rule in
    let three_rules : Option TenantRule = option_or two_rules name_rule in
    let four_rules : Option TenantRule = option_or three_rules queries_rule in
    let five_rules : Option TenantRule = option_or four_rules result_rule in
    let object = then_none (is_some (as_object d)) rule.IsObject (if has_only tenant_keys d then keys_rule d else Some rule.NoOtherKey) e in
    let only = then_none (has_only tenant_keys d) rule.NoOtherKey (keys_rule d) object.1 in
    let six = neither five_rules streams_rule only.1 in
    let five = neither four_rules result_rule six.0 in
    let four = neither three_rules queries_rule five.0 in
    let three = neither two_rules name_rule four.0 in
    let two = neither hold_rule login_rule three.0 in
    let hold = number_there 1 65536 (whole_at (codes "hold") d) (passed key.Hold d (is_number 1 65536 (whole_at (codes "hold") d)) two.0) in
    let login = key_there (text_at (codes "key") d) (passed key.Key d (is_key (text_at (codes "key") d)) two.1) in
    let name = name_there (text_at (codes "name") d) (passed key.Name d (is_named (text_at (codes "name") d)) three.1) in
    let queries = number_there 0 64 (whole_at (codes "queries") d) (passed key.Queries d (is_number 0 64 (whole_at (codes "queries") d)) four.1) in
    let result = number_there 1 65536 (whole_at (codes "result") d) (passed key.Result d (is_number 1 65536 (whole_at (codes "result") d)) five.1) in
    let streams = number_there 0 64 (whole_at (codes "streams") d) (passed key.Streams d (is_number 0 64 (whole_at (codes "streams") d)) six.1) in (
      made_tenant name.0 login.0 streams.0 queries.0 hold.0 result.0,
      record {
        gives = made_gives (has_only tenant_keys d) (text_at (codes "name") d) (text_at (codes "key") d)
            (whole_at (codes "streams") d) (whole_at (codes "queries") d) (whole_at (codes "hold") d) (whole_at (codes "result") d)
            name.0 login.0 streams.0 queries.0 hold.0 result.0
            only.0 name.1.0 name.1.1 login.1.0 streams.1.0 queries.1.0 hold.1.0 result.1.0;
        within = both _ _ (both _ _ (both _ _ (both _ _ login.1.1 streams.1.1) queries.1.1) hold.1.1) result.1.1;
        name = name.1.0;
      },
    )

-- ---- the tenants of a list

-- each is right
abbrev AreRight : Items → List Tenant → Type 0
AreRight no_items [] = Unit {0}
AreRight no_items (t ∷ ts) = ⊥
AreRight (item d ds) [] = ⊥
AreRight (item d ds) (t ∷ ts) = IsRight d t × AreRight ds ts

right_list : (n : ℕ) (ds : Items) → rules_from n ds ≡ None → (ts : List Tenant) × AreRight ds ts
right_list n no_items e = ([], tt)
right_list n (item d ds) e =
    let none = neither (option_map (tenant_breaks n) (rule_of_tenant d)) (rules_from (n + 1) ds) e in
    let first = right_tenant d (mapped_none (tenant_breaks n) (rule_of_tenant d) none.0) in
    let rest = right_list (n + 1) ds none.1 in
    (first.0 ∷ rest.0, (first.1, rest.1))

all_given : (ds : Items) (ts : List Tenant) → AreRight ds ts → all_of tenant_of ds ≡ Some ts
all_given no_items [] r = refl
all_given no_items (t ∷ ts) r = absurd r
all_given (item d ds) [] r = absurd r
all_given (item d ds) (t ∷ ts) r =
    ap (λ o. option_and_then (λ x. option_map (λ xs. x ∷ xs) (all_of tenant_of ds)) o) r.0.gives ∙ ap (λ o. option_map (λ xs. t ∷ xs) o) (all_given ds ts r.1)

all_within : (ds : Items) (ts : List Tenant) → AreRight ds ts → list_all is_tenant ts ≡ true
all_within no_items [] r = refl
all_within no_items (t ∷ ts) r = absurd r
all_within (item d ds) [] r = absurd r
all_within (item d ds) (t ∷ ts) r = both _ _ r.0.within (all_within ds ts r.1)

as_many : (ds : Items) (ts : List Tenant) → AreRight ds ts → length ts ≡ items_len ds
as_many no_items [] r = refl
as_many no_items (t ∷ ts) r = absurd r
as_many (item d ds) [] r = absurd r
as_many (item d ds) (t ∷ ts) r = ap suc (as_many ds ts r.1)

-- none has the name
no_name : (n : ℕ) (name : List ℕ) (ds : Items) (ts : List Tenant) → AreRight ds ts → named_from n name ds ≡ None → list_any (λ other. bytes_eq name other.name) ts ≡ false
no_name n name no_items [] r e = refl
no_name n name no_items (t ∷ ts) r e = absurd r
no_name n name (item d ds) [] r e = absurd r
no_name n name (item d ds) (t ∷ ts) r e =
    let seen : has_name name d ≡ bytes_eq name t.name = ap (is_the_name name) r.0.name in
    let here = else_none (has_name name d) n (named_from (n + 1) name ds) e in
    let differs : bytes_eq name t.name ≡ false = sym seen ∙ here.0 in
    ap (λ b. b || list_any (λ other. bytes_eq name other.name) ts) differs ∙ no_name (n + 1) name ds ts r.1 here.1

all_apart : (n : ℕ) (ds : Items) (ts : List Tenant) → AreRight ds ts → twins_from n ds ≡ None → are_apart ts ≡ true
all_apart n no_items [] r e = refl
all_apart n no_items (t ∷ ts) r e = absurd r
all_apart n (item d ds) [] r e = absurd r
all_apart n (item d ds) (t ∷ ts) r e =
    let two = neither (option_map (twin_breaks n) (twin_of d ds)) (twins_from (n + 1) ds) e in
    let none : named_from 0 t.name ds ≡ None = sym (ap (λ o. option_and_then (λ name. named_from 0 name ds) o) r.0.name) ∙ mapped_none (twin_breaks n) (twin_of d ds) two.0 in
    let alone : list_any (λ other. bytes_eq t.name other.name) ts ≡ false = no_name 0 t.name ds ts r.1 none in
    both _ _ (ap not alone) (all_apart (n + 1) ds ts r.1 two.1)

table_of_items : (ds : Items) → rule_of_items ds ≡ None → (ts : List Tenant) × ((all_of tenant_of ds ≡ Some ts) × (is_table ts ≡ true))
table_of_items ds e =
    let count = then_none (is_within 1 256 (items_len ds)) broken.List (option_or (rules_from 0 ds) (twins_from 0 ds)) e in
    let none = neither (rules_from 0 ds) (twins_from 0 ds) count.1 in
    let list = right_list 0 ds none.0 in
    let within : is_within 1 256 (length list.0) ≡ true = ap (λ n. is_within 1 256 n) (as_many ds list.0 list.1) ∙ count.0 in
    (list.0, (all_given ds list.0 list.1, both _ _ (both _ _ within (all_within ds list.0 list.1)) (all_apart 0 ds list.0 list.1 none.1)))

listed : (o : Option Items) → rule_in_list o ≡ None → (ds : Items) × ((o ≡ Some ds) × (rule_of_items ds ≡ None))
listed None e = cc
listed (Some ds) e = (ds, (refl, e))

table_of_tree : (d : Data) → rule_of_tree d ≡ None → (ts : List Tenant) × (option_and_then as_table (tenants_of d) ≡ Some ts)
table_of_tree d e =
    let only = then_none (has_only (codes "tenants" ∷ []) d) broken.OneKey (rule_in_list (array_at (codes "tenants") d)) e in
    let list = listed (array_at (codes "tenants") d) only.1 in
    let table = table_of_items list.0 list.1.1 in (
      table.0,
      ap (λ b. option_and_then as_table (if b then option_and_then (all_of tenant_of) (array_at (codes "tenants") d) else None)) only.0
          ∙ ap (λ o. option_and_then as_table (option_and_then (all_of tenant_of) o)) list.1.0
          ∙ ap (λ o. option_and_then as_table o) table.1.0
          ∙ ap (λ b. if b then Some table.0 else None) table.1.1,
    )

some_of : {A : Type 0} (o : Option A) → (o ≡ None → ⊥) → IsSome o
some_of None h = absurd (h refl)
some_of (Some x) h = refl

-- a tree that tells no table breaks a rule
pub refused_breaks : (d : Data) → option_and_then as_table (tenants_of d) ≡ None → IsSome (rule_of_tree d)
refused_breaks d refused = some_of (rule_of_tree d) (λ e. let table = table_of_tree d e in let clash : Some table.0 ≡ None = sym table.1 ∙ refused in cc)
