use Rattle.std.proofs.lemmas.Slice.Eq.{slice_eq-Decides}
use Rattle.cql_value.proofs.Ties.{same-Decides}
use Rattle.cql_algebra.proofs.told.are_equal.Goals as goal

pub returns : goal.returns
returns c = slice_eq-Decides same-Decides _ _ _ c.eq.ensures
