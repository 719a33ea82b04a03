use Rattle.std.proofs.Common.{refl}
use Rattle.cql_hall.proofs.feed.Feed.swap.Goals as goal

pub returns-clause-taken : goal.returns-clause-taken
returns-clause-taken c = c.swap.ensures.y_after

pub returns-clause-given : goal.returns-clause-given
returns-clause-given c = (refl, c.swap.ensures.x_after, refl)
