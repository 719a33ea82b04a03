use Rattle.cql_plain.proofs.Telling.{tells_of_both}
use Rattle.cql_plain.proofs.difference.tell_difference.Goals as goal

pub returns-clause-ok : goal.returns-clause-ok
returns-clause-ok c = tells_of_both c.tell_difference.result c.args.out.now.items c.tell_difference.new.out.items c.args.old.now c.args.new.now c.tell_difference.ensures.ok c.tell_difference.ensures.rows
