use Rattle.std.proofs.Common.{◌∙◌}
use Rattle.cql_plain.proofs.Saying.{left_offers, right_offers}
use Rattle.cql_plain.proofs.once.+offers.Goals as goal

pub returns-then-offers : goal.returns-then-offers
returns-then-offers t c = λ said row h. left_offers c.args.whole.now c.get.result.now c.in-Or.right row (cc) (c.offers.ensures said row h)

pub returns-else-offers : goal.returns-else-offers
returns-else-offers t c = λ said row h. right_offers c.args.whole.now c.in-Or.left c.get-else-offers.result.now row (cc) (c.offers-else-offers.ensures said row h)

pub returns-else-is_equal : goal.returns-else-is_equal
returns-else-is_equal t c = λ said row h. c.is_turned.ensures said row ∙ h
