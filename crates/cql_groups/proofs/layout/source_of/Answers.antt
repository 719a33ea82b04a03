use Rattle.std.proofs.Common.{refl, sym, subst}
use Rattle.cql_groups.specs.Layouts.{IsGrownBy, IsSourceOf, asks}
use Rattle.cql_groups.specs.declared.layout.ItemSource.TheVariants.{Column, Count, Greatest, Least, Sum}
use Rattle.cql_groups.proofs.layout.source_of.Goals as goal

pub returns-in-Value : goal.returns-in-Value
returns-in-Value c =
    let asked = c.args.asked.now.items in
    subst (λ i. IsSourceOf asked i (Column c.column_in.result) × IsGrownBy (asks i) asked asked) (sym c.in-Value.is) (c.column_in.ensures, refl)

pub returns-in-Count : goal.returns-in-Count
returns-in-Count c =
    let asked = c.args.asked.now.items in
    subst (λ i. IsSourceOf asked i Count × IsGrownBy (asks i) asked asked) (sym c.in-Count.is) (tt, refl)

pub returns-in_ok-index_of-in-Sum : goal.returns-in_ok-index_of-in-Sum
returns-in_ok-index_of-in-Sum c =
    let after = c.index_of.new.asked.items in
    subst (λ i. IsSourceOf after i (Sum c.in_ok-index_of-in-Sum.field-0) × IsGrownBy (asks i) c.args.asked.now.items after) (sym c.in-Sum.is) c.in_ok-index_of-in-Sum.ensures

pub returns-in_ok-index_of-in-Min : goal.returns-in_ok-index_of-in-Min
returns-in_ok-index_of-in-Min c =
    let after = c.index_of-in-Min.new.asked.items in
    subst (λ i. IsSourceOf after i (Least c.in_ok-index_of-in-Min.field-0) × IsGrownBy (asks i) c.args.asked.now.items after) (sym c.in-Min.is) c.in_ok-index_of-in-Min.ensures

pub returns-in_ok-index_of-in-Max : goal.returns-in_ok-index_of-in-Max
returns-in_ok-index_of-in-Max c =
    let after = c.index_of-in-Max.new.asked.items in
    subst (λ i. IsSourceOf after i (Greatest c.in_ok-index_of-in-Max.field-0) × IsGrownBy (asks i) c.args.asked.now.items after) (sym c.in-Max.is) c.in_ok-index_of-in-Max.ensures
