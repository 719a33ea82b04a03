use Rattle.std.proofs.Common.{refl}
use Rattle.cql_hall.proofs.book.receipt_of.Goals as goal

pub returns : goal.returns
returns c = refl
