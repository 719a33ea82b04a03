use Rattle.std.proofs.lemmas.Grind.{common_steps}
use Rattle.std.proofs.Common.{rules, ◌≡◌, ◌++◌, ◌∷◌, [], length, sym, ap, subst, ◌∙◌, arith}
use Rattle.std.specs.BTreeMap.{insert_entry}
use Rattle.cql_value.specs.Order.{row_cmp}
use Rattle.cql_bag.specs.Bag.{put_all}
use Rattle.cql_bag.specs.Law.{ArePositive}
use Rattle.cql_algebra.specs.Shape.{key_of}
use Rattle.cql_plain.specs.Grouping.{gather}
use Rattle.cql_plain.proofs.Choosing.{put_all-append}
use Rattle.cql_plain.proofs.Entries.{first_left}
use Rattle.cql_plain.proofs.Gathering.{one_more, positive_more}
use Rattle.cql_plain.proofs.group.take_run.Goals as goal

pub loop-row-preserved : goal.loop-row-preserved
loop-row-preserved c =
    let f = key_of c.args.columns.now in
    let key = c.args.key.now in
    let row = c.in-Some.row.now in
    let times = c.in-Some.times.now in
    let next = c.next.new.self in
    let run = c.loop-row.run.items in
    let is : f row ≡ key = search rules in
    let cut : c.loop-row.left ≡ (row, times) ∷ next = search rules in
    let more : c.push.new.self.items ≡ run ++ (row, times) ∷ [] = search rules in
    let here = first_left _ _ _ cut c.loop-row.invariant.bag in
    record {
      made = λ group groups. c.loop-row.invariant.made group groups ∙ ap (λ l. gather f l (insert_entry row_cmp groups key (put_all run group))) cut ∙ one_more f key (row, times) next (put_all run group) is groups ∙ ap (λ g. gather f next (insert_entry row_cmp groups key g)) (sym (put_all-append run ((row, times) ∷ []) group)) ∙ ap (λ l. gather f next (insert_entry row_cmp groups key (put_all l group))) (sym more);
      some = subst ArePositive (sym more) (positive_more run (row, times) c.loop-row.invariant.some here.0);
      bag = here.1;
      fewer = omega (arith, ap length cut, c.loop-row.invariant.fewer);
    }

pub loop-row-smaller : goal.loop-row-smaller
loop-row-smaller c = grind (arith, common_steps)

pub returns : goal.returns
returns c = record { made = grind (arith, common_steps); some = grind (arith, common_steps); bag = grind (arith, common_steps); fewer = grind (arith, common_steps) }

pub returns-then-not-has_key : goal.returns-then-not-has_key
returns-then-not-has_key c = record { made = grind (arith, common_steps); some = grind (arith, common_steps); bag = grind (arith, common_steps); fewer = grind (arith, common_steps) }
