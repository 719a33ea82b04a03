use Rattle.std.proofs.Common.{rules, ◌≡◌, ◌+◌, map, length, [], ◌∷◌, ◌++◌, sym, ◌∙◌, ap, subst, arith, length-append}
use Rattle.std.proofs.lemmas.List.{map-append}
use Rattle.cql_chunks.specs.Seq.{row_in}
use Rattle.cql_chunks.specs.declared.seq.Numbered.{Numbered}
use Rattle.cql_store.specs.Parts.{AreNumbered}
use Rattle.cql_store.proofs.RowNumbers.{numbers_more}
use Rattle.cql_store.proofs.made.numbered.Goals as goal

pub loop-row-preserved : goal.loop-row-preserved
loop-row-preserved c =
    let seen = c.loop-row.entries.items in
    let next = c.len-number.result in
    let own : Numbered = record { number = next; row = c.in-Some.row } in
    let made : c.push.new.self.items ≡ seen ++ own ∷ [] = search rules in
    let many : next ≡ length seen = search rules in
    let more : length seen + 1 ≡ length (seen ++ own ∷ []) = omega (arith, length-append seen (own ∷ [])) in
    let rise = subst (λ n. AreNumbered n (seen ++ own ∷ [])) more (numbers_more (length seen) seen own many c.loop-row.invariant.1) in (
      ap (map row_in) made ∙ map-append row_in seen (own ∷ []) ∙ ap (λ l. l ++ c.in-Some.row ∷ []) c.loop-row.invariant.0,
      subst (λ xs. AreNumbered (length xs) xs) (sym made) rise,
    )
