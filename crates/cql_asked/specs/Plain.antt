-- What is read of a plain line, beside its members; for private clauses.
use Rattle.std.specs.Prelude.{◌≡◌, ℕ, ◌≤◌, true, List, [], ◌∷◌, codes, Option, Some, option_map, option_and_then, length, Ok}
use Rattle.json.specs.Token.{Token}
use Rattle.json.specs.Json.{value, items, members}
use Rattle.serde_json.specs.Data.{Data, number, unsigned, string, object, Items, Members, no_members, put}
use Rattle.serde_json.specs.Find.{get_member, as_array, as_str}
use Rattle.serde_json.specs.Read.{of_json, of_items, of_members, converted}
use Rattle.cql_value.specs.declared.value.Value.{Value}
use Rattle.cql_core.specs.declared.command.Command.{Command}
use Rattle.cql_asked.specs.declared.plain.PlainLine.{PlainLine}
use Rattle.cql_lines.specs.Tree.{are_among, all_of}
use Rattle.cql_asked.specs.Command.{verb_of, value_of, of_data}

-- ---- what the tokens begin with

abbrev pub Reads : ℕ → List Token → Data → List Token → Type 0
Reads depth before d after = converted of_json (value depth before) ≡ Some (d, after)

abbrev pub ReadsValue : ℕ → List Token → Value → List Token → Type 0
ReadsValue depth before v after = (d : Data) × Reads depth before d after × (value_of d ≡ Some v)

-- the values of a list
abbrev pub values_of : Data → Option (List Value)
values_of d = option_and_then (all_of value_of) (as_array d)

abbrev pub ReadsRow : ℕ → List Token → List Value → List Token → Type 0
ReadsRow depth before vs after = (d : Data) × Reads depth before d after × (values_of d ≡ Some vs)

-- the rest of a list
abbrev pub ReadsItems : ℕ → List Token → List Value → List Token → Type 0
ReadsItems depth before vs after = (ds : Items) × (converted of_items (items (value depth) (length before) before) ≡ Some (ds, after)) × (all_of value_of ds ≡ Some vs)

-- the same, with as many turns as there are tokens or more
abbrev pub ReadsRest : ℕ → List Token → List Value → List Token → Type 0
ReadsRest depth before vs after = (ds : Items) × ((n : ℕ) → length before ≤ n → converted of_items (items (value depth) n before) ≡ Some (ds, after)) × (all_of value_of ds ≡ Some vs)

-- ---- what was read

-- the keys that may be read
abbrev pub plain_keys : List (List ℕ)
plain_keys = codes "do" ∷ codes "tenant" ∷ codes "stream" ∷ codes "name" ∷ codes "at" ∷ codes "to" ∷ codes "until" ∷ codes "row" ∷ []

-- these are the members that were read, and no other key is among them
pub record Holds (line : PlainLine) (ms : Members) : Type 0 where
  pub word : option_and_then verb_of (option_and_then as_str (get_member (codes "do") ms)) ≡ line.verb
  pub tenant : get_member (codes "tenant") ms ≡ option_map (λ s. string s.now) line.tenant
  pub stream : get_member (codes "stream") ms ≡ option_map (λ s. string s.now) line.stream
  pub name : get_member (codes "name") ms ≡ option_map (λ s. string s.now) line.name
  pub at : get_member (codes "at") ms ≡ option_map (λ n. number (unsigned n)) line.at
  pub to : get_member (codes "to") ms ≡ option_map (λ n. number (unsigned n)) line.to
  pub until : get_member (codes "until") ms ≡ option_map (λ n. number (unsigned n)) line.until
  pub row : option_map values_of (get_member (codes "row") ms) ≡ option_map (λ v. Some v.items) line.row
  pub keys : are_among plain_keys ms ≡ true

-- the members with one more
abbrev pub Adds : PlainLine → PlainLine → List ℕ → Data → Type 0
Adds old new key d = (ms : Members) → Holds old ms → Holds new (put key d ms)

-- the value of a key was added
abbrev pub Takes : PlainLine → PlainLine → List ℕ → List Token → List Token → Type 0
Takes old new key before after = (d : Data) × Reads 126 before d after × ((ms : Members) → Holds old ms → Holds new (put key d ms))

-- the rest of an object
abbrev pub ReadsMembers : List Token → PlainLine → List Token → Type 0
ReadsMembers before line after = (ms : Members) × (converted (λ ms. of_members ms no_members) (members (value 126) (length before) before) ≡ Some (ms, after)) × Holds line ms

-- it is what an object of these members asks
abbrev pub IsCall : PlainLine → Option (List ℕ) × Command → Type 0
IsCall line call = (ms : Members) → Holds line ms → of_data (Some (object ms)) ≡ Ok call
