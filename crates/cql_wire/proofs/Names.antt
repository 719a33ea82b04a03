-- The names of columns as a line tells them.
use Rattle.std.proofs.Common.{◌≡◌, Bool, true, false, List, [], ◌∷◌, ◌++◌, codes, map, refl, ap}
use Rattle.std.specs.Bool.{if◌then◌else◌}
use Rattle.json.specs.Print.{quoted}
use Rattle.cql_value.specs.declared.schema.Column.{Column}
use Rattle.cql_wire.specs.Line.{items_text, list_text, names_text}

items_named : (later : Bool) (cs : List Column) → items_text (λ (c : Column). quoted c.name) later cs ≡ items_text quoted later (map (λ (c : Column). c.name) cs)
items_named later [] = refl
items_named later (c ∷ cs) = ap (λ t. (if later then codes "," else []) ++ (quoted c.name ++ t)) (items_named true cs)

pub names_named : (cs : List Column) → list_text (λ (c : Column). quoted c.name) cs ≡ names_text (map (λ (c : Column). c.name) cs)
names_named cs = ap (λ t. codes "[" ++ t) (items_named false cs)
