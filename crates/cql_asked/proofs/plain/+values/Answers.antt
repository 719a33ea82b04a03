use Rattle.std.proofs.Common.{◌≡◌, ◌∷◌, ◌-◌, ◌<◌, [], length, reverse, Some, sym, ap, ◌∙◌, arith}
use Rattle.std.proofs.lemmas.List.{reverse-append}
use Rattle.json.specs.Token.{Token}
use Rattle.json.specs.Json.{after_end_array, value, parse_map}
use Rattle.serde_json.specs.Data.{no_items, item}
use Rattle.cql_lines.proofs.Turns.{item_read, items_over}
use Rattle.cql_asked.specs.Plain.{Reads}
use Rattle.cql_asked.proofs.PlainLines.{going_on, one_value_before}
use Rattle.cql_asked.proofs.plain.+values.Goals as goal

pub last_values-returns-then-take_end_array-clause-ok : goal.last_values-returns-then-take_end_array-clause-ok
last_values-returns-then-take_end_array-clause-ok t c =
    let ts = c.args.reader.now in
    let r = c.take_end_array.new.self in
    let closed : ts ≡ Token.end_array ∷ r = grind arith in
    (no_items, (λ n enough. items_over (value 125) n ts r enough (ap after_end_array closed)), ap (λ xs. Some (reverse xs)) (sym c.in_ok-values.ensures.items))

pub values_from-returns-clause-ok : goal.values_from-returns-clause-ok
values_from-returns-clause-ok t c =
    let p = value 125 in
    let ts = c.args.reader.now in
    let done = c.in_ok-value.ensures in
    let r = c.next_value.new.reader in
    let d = done.ok.0 in
    let less : length r < length ts = done.shorter in
    let read : Reads 125 ts d r = done.ok.1 in
    let rest = c.in_ok-values.ensures.ok in
    let x = c.in_ok-value.value in
    let xs = c.in_ok-values.values.items in (
      item d rest.0,
      (λ n enough. item_read p n ts r d (omega (arith, enough, less)) (going_on 125 ts r d read) read ∙ ap (parse_map (item d)) (rest.1 (n - 1) (omega (arith, enough, less)))),
      one_value_before d rest.0 x (reverse xs) done.ok.2 rest.2 ∙ ap Some (sym (reverse-append xs (x ∷ []))) ∙ ap (λ ys. Some (reverse ys)) (sym c.in_ok-push.ensures.items),
    )
