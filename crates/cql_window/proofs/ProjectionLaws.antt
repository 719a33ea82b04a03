-- The laws of projections.
use Rattle.std.proofs.Common.{refl, ap, sym}
use Rattle.cql_window.specs.declared.window.Window.TheVariants.{Range, Rows, All as all, Parts}
use Rattle.cql_window.specs.ProjectionLaw.{IsWholeProjectionLaw, IsChainLaw, IsWideLaw, IsTwiceLaw}
use Rattle.cql_window.proofs.Picks.{at_all, chained, among_all}

pub whole_projection_law : IsWholeProjectionLaw
whole_projection_law row = at_all row

pub chain_law : IsChainLaw
chain_law row projection columns h = chained row projection columns h

pub wide_law : IsWideLaw
wide_law (Range len slide) many h = refl
wide_law (Rows count slide) many h = refl
wide_law all many h = refl
wide_law (Parts columns count) many h = ap (λ cs. Parts cs count) (among_all many columns h)

pub twice_law : IsTwiceLaw
twice_law projection columns (Range len slide) h k = refl
twice_law projection columns (Rows count slide) h k = refl
twice_law projection columns all h k = refl
twice_law projection columns (Parts parts count) h k = sym (ap (λ cs. Parts cs count) (chained projection columns parts h))
