use Rattle.std.proofs.lemmas.Grind.{common_steps}
use Rattle.std.proofs.Common.{◌≤◌, ◌-◌, drop, length, min, take, ap, ◌∙◌, ◌≡◌, arith}
use Rattle.std.proofs.lemmas.List.{length-take}
use Rattle.cql_lines.proofs.Pieces.{range_moved}
use Rattle.cql_lines.proofs.lines.read_buffer.ReadBuffer.consume.Goals as goal

pub returns : goal.returns
returns c =
    let i = c.self.inside in
    let n = c.args.count in
    let count : length (take (i.end - i.start) (drop i.start i.bytes.items)) ≡ min (i.end - i.start) (length (drop i.start i.bytes.items)) = length-take _ _ in
    let fits : n ≤ i.end - i.start = omega (arith, ap length c.self.view_is) in
    range_moved i.bytes.items i.start i.end n fits ∙ ap (drop n) c.self.view_is

pub overflow_add-self : goal.overflow_add-self
overflow_add-self c = grind (arith, common_steps)

pub invariant_of-self : goal.invariant_of-self
invariant_of-self c = grind (arith, common_steps)
