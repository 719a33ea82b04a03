use Rattle.std.proofs.Common.{rules}
use Rattle.cql_algebra.proofs.by_kind.output.Goals as goal

pub returns-in_default-Fault-default : goal.returns-in_default-Fault-default
returns-in_default-Fault-default c = search rules

pub returns-in_ok-excess-in-Istream-Bag-Bag : goal.returns-in_ok-excess-in-Istream-Bag-Bag
returns-in_ok-excess-in-Istream-Bag-Bag c = search rules
