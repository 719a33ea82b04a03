-- The first rule that a tenants line breaks.
use Rattle.std.specs.Prelude.{◌≡◌, ⊤, ℕ, suc, ◌+◌, Bool, false, List, [], ◌∷◌, length, codes, if◌then◌else◌, Option, Some, None, is_some, option_map, option_and_then}
use Rattle.std.specs.Option.{option_or}
use Rattle.std.specs.Str.{bytes_eq}
use Rattle.serde_json.specs.Data.{Data, Items, no_items, item}
use Rattle.serde_json.specs.Find.{get, as_object}
use Rattle.cql_value.specs.Name.{is_name}
use Rattle.cql_tenants.specs.Tenants.{is_within}
use Rattle.cql_asked.specs.declared.rules.TenantKey.{TenantKey}
use Rattle.cql_asked.specs.declared.rules.TenantKey.TheVariants as key
use Rattle.cql_asked.specs.declared.rules.TenantRule.{TenantRule}
use Rattle.cql_asked.specs.declared.rules.TenantRule.TheVariants as rule
use Rattle.cql_asked.specs.declared.rules.BrokenRule.{BrokenRule}
use Rattle.cql_asked.specs.declared.rules.BrokenRule.TheVariants as broken
use Rattle.cql_lines.specs.Tree.{text_at, whole_at, array_at, has_only}
use Rattle.cql_asked.specs.Table.{tenant_keys}

-- the key as it is written
abbrev pub word_of : TenantKey → List ℕ
word_of key.Hold = codes "hold"
word_of key.Key = codes "key"
word_of key.Name = codes "name"
word_of key.Queries = codes "queries"
word_of key.Result = codes "result"
word_of key.Streams = codes "streams"

abbrev pub is_number : ℕ → ℕ → Option ℕ → Bool
is_number low high None = false
is_number low high (Some n) = is_within low high n

-- a text of 1 to 64 bytes
abbrev pub is_key : Option (List ℕ) → Bool
is_key None = false
is_key (Some text) = is_within 1 64 (length text)

abbrev pub is_named : Option (List ℕ) → Bool
is_named None = false
is_named (Some text) = is_name text

-- what stands at a key has to be there, and to pass
abbrev pub key_passes : TenantKey → Data → Bool → Option TenantRule
key_passes k d passes =
    if is_some (get (word_of k) d) then (if passes then None else Some (rule.InRange k)) else Some (rule.Has k)

-- a whole number in its range
abbrev pub number_rule : TenantKey → ℕ → ℕ → Data → Option TenantRule
number_rule k low high d = key_passes k d (is_number low high (whole_at (word_of k) d))

-- the six keys, in their order
abbrev pub keys_rule : Data → Option TenantRule
keys_rule d =
    option_or (option_or (option_or (option_or (option_or (number_rule key.Hold 1 65536 d) (key_passes key.Key d (is_key (text_at (codes "key") d))))
    (key_passes key.Name d (is_named (text_at (codes "name") d)))) (number_rule key.Queries 0 64 d))
    (number_rule key.Result 1 65536 d)) (number_rule key.Streams 0 64 d)

-- an object, with no other key, and with the six
abbrev pub rule_of_tenant : Data → Option TenantRule
rule_of_tenant d =
    if is_some (as_object d) then (if has_only tenant_keys d then keys_rule d else Some rule.NoOtherKey) else Some rule.IsObject

-- what the tenant of a number breaks; the number counts from 1
abbrev pub tenant_breaks : ℕ → TenantRule → BrokenRule
tenant_breaks n r = broken.Tenant (n + 1) r

-- the first tenant who breaks a rule by itself, of those from an index on
abbrev pub rules_from : ℕ → Items → Option BrokenRule
rules_from n no_items = None
rules_from n (item d ds) = option_or (option_map (tenant_breaks n) (rule_of_tenant d)) (rules_from (n + 1) ds)

abbrev pub is_the_name : List ℕ → Option (List ℕ) → Bool
is_the_name name None = false
is_the_name name (Some other) = bytes_eq name other

abbrev pub has_name : List ℕ → Data → Bool
has_name name d = is_the_name name (text_at (codes "name") d)

-- the index of the first that has the name, of those from an index on
abbrev pub named_from : ℕ → List ℕ → Items → Option ℕ
named_from n name no_items = None
named_from n name (item d ds) = if has_name name d then Some n else named_from (n + 1) name ds

-- the index among those behind it of the first that has the tenant's name
abbrev pub twin_of : Data → Items → Option ℕ
twin_of d later = option_and_then (λ name. named_from 0 name later) (text_at (codes "name") d)

-- what the second of one name breaks, so far behind the first
abbrev pub twin_breaks : ℕ → ℕ → BrokenRule
twin_breaks n twin = broken.Tenant (n + twin + 2) (rule.OwnName (n + 1))

-- the first name that is had twice, of those from an index on
abbrev pub twins_from : ℕ → Items → Option BrokenRule
twins_from n no_items = None
twins_from n (item d ds) =
    option_or (option_map (twin_breaks n) (twin_of d ds)) (twins_from (n + 1) ds)

abbrev pub items_len : Items → ℕ
items_len no_items = 0
items_len (item d ds) = suc (items_len ds)

-- 1 to 256, each by itself, and no name twice
abbrev pub rule_of_items : Items → Option BrokenRule
rule_of_items ds =
    if is_within 1 256 (items_len ds) then option_or (rules_from 0 ds) (twins_from 0 ds) else Some broken.List

abbrev pub rule_in_list : Option Items → Option BrokenRule
rule_in_list None = Some broken.List
rule_in_list (Some ds) = rule_of_items ds

-- an object with the one key `tenants`, at which a list stands
abbrev pub rule_of_tree : Data → Option BrokenRule
rule_of_tree d = if has_only (codes "tenants" ∷ []) d then rule_in_list (array_at (codes "tenants") d) else Some broken.OneKey

-- that it isn't JSON
abbrev pub IsJson : BrokenRule → Type 0
IsJson (broken.Length most) = ⊥
IsJson (broken.Json line column) = ⊤
IsJson broken.OneKey = ⊥
IsJson broken.List = ⊥
IsJson (broken.Tenant number r) = ⊥

-- the first rule that a line breaks, of which this is the tree: that it is JSON, where there is none
abbrev pub Breaks : Option Data → BrokenRule → Type 0
Breaks None r = IsJson r
Breaks (Some d) r = rule_of_tree d ≡ Some r
