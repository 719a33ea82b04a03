-- What has a tree breaks another rule than that it is JSON.
use Rattle.std.proofs.Common.{◌≡◌, ℕ, ◌+◌, Bool, true, false, [], ◌∷◌, codes, Option, Some, None, refl, option_map}
use Rattle.std.specs.Bool.{if◌then◌else◌}
use Rattle.std.specs.Option.{option_or}
use Rattle.serde_json.specs.Data.{Data, Items, no_items, item}
use Rattle.cql_tenants.specs.Tenants.{is_within}
use Rattle.cql_asked.specs.declared.rules.TenantRule.{TenantRule}
use Rattle.cql_asked.specs.declared.rules.BrokenRule.{BrokenRule}
use Rattle.cql_asked.specs.declared.rules.BrokenRule.TheVariants as broken
use Rattle.cql_lines.specs.Tree.{array_at, has_only}
use Rattle.cql_asked.specs.Rules.{rule_of_tenant, tenant_breaks, rules_from, twin_of, twin_breaks, twins_from, items_len, rule_of_items, rule_in_list, rule_of_tree, Breaks}

-- none of these is that
abbrev NotJson : Option BrokenRule → Type 0
NotJson o = (line column : ℕ) → o ≡ Some (broken.Json line column) → ⊥

none_json : NotJson None
none_json line column e = cc

either_json : (p q : Option BrokenRule) → NotJson p → NotJson q → NotJson (option_or p q)
either_json None q h k = k
either_json (Some rule) q h k = h

chosen_json : (b : Bool) (p q : Option BrokenRule) → NotJson p → NotJson q → NotJson (if b then p else q)
chosen_json true p q h k = h
chosen_json false p q h k = k

tenant_json : (n : ℕ) (o : Option TenantRule) → NotJson (option_map (tenant_breaks n) o)
tenant_json n None line column e = cc
tenant_json n (Some r) line column e = cc

twin_json : (n : ℕ) (o : Option ℕ) → NotJson (option_map (twin_breaks n) o)
twin_json n None line column e = cc
twin_json n (Some twin) line column e = cc

rules_json : (n : ℕ) (ds : Items) → NotJson (rules_from n ds)
rules_json n no_items = none_json
rules_json n (item d ds) = either_json (option_map (tenant_breaks n) (rule_of_tenant d)) (rules_from (n + 1) ds) (tenant_json n (rule_of_tenant d)) (rules_json (n + 1) ds)

twins_json : (n : ℕ) (ds : Items) → NotJson (twins_from n ds)
twins_json n no_items = none_json
twins_json n (item d ds) = either_json (option_map (twin_breaks n) (twin_of d ds)) (twins_from (n + 1) ds) (twin_json n (twin_of d ds)) (twins_json (n + 1) ds)

list_json : NotJson (Some broken.List)
list_json line column e = cc

key_json : NotJson (Some broken.OneKey)
key_json line column e = cc

items_json : (ds : Items) → NotJson (rule_of_items ds)
items_json ds = chosen_json (is_within 1 256 (items_len ds)) (option_or (rules_from 0 ds) (twins_from 0 ds)) (Some broken.List)
    (either_json (rules_from 0 ds) (twins_from 0 ds) (rules_json 0 ds) (twins_json 0 ds)) list_json

in_list_json : (o : Option Items) → NotJson (rule_in_list o)
in_list_json None = list_json
in_list_json (Some ds) = items_json ds

tree_json : (d : Data) → NotJson (rule_of_tree d)
tree_json d = chosen_json (has_only (codes "tenants" ∷ []) d) (rule_in_list (array_at (codes "tenants") d)) (Some broken.OneKey)
    (in_list_json (array_at (codes "tenants") d)) key_json

-- of a line that breaks the rule that it is JSON there is no tree
pub json_has_no_tree : (o : Option Data) (line column : ℕ) → Breaks o (broken.Json line column) → o ≡ None
json_has_no_tree None line column b = refl
json_has_no_tree (Some d) line column b = absurd (tree_json d line column b)
