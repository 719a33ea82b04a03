use Rattle.std.proofs.Common.{true, false, sym, ap, ◌∙◌}
use Rattle.std.specs.List.{list_any}
use Rattle.std.specs.Str.{bytes_eq}
use Rattle.cql_lines.proofs.Keys.{are_among_more}
use Rattle.cql_lines.proofs.values.are_among.Goals as goal

pub returns-then-not-is_among : goal.returns-then-not-is_among
returns-then-not-is_among c =
    are_among_more c.args.keys.now c.loop-key.key-iterator c.next.new.self (c.in-Some.key.now, c.in-Some.field-0-1.now) false _ c.in-Some.ensures.steps (sym c.if-not-is_among.true ∙ c.is_among.ensures ∙ ap (λ k. list_any (λ known. bytes_eq known.now k) c.args.keys.now) c.as_str.ensures.value) c.loop-key.invariant

pub loop-key-preserved : goal.loop-key-preserved
loop-key-preserved c =
    are_among_more c.args.keys.now c.loop-key.key-iterator c.next.new.self (c.in-Some.key.now, c.in-Some.field-0-1.now) true _ c.in-Some.ensures.steps (sym c.if-not-is_among.false ∙ c.is_among.ensures ∙ ap (λ k. list_any (λ known. bytes_eq known.now k) c.args.keys.now) c.as_str.ensures.value) c.loop-key.invariant
