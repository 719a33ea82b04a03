use Rattle.cql_text.proofs.Offsets.{answer_found, answer_only, answer_refused}
use Rattle.cql_text.proofs.reader.read_query.Goals as goal

pub returns-clause-found : goal.returns-clause-found
returns-clause-found c = answer_found c.args.text.now c.read_capped.result c.read_capped.ensures

pub returns-clause-only : goal.returns-clause-only
returns-clause-only c = answer_only c.args.text.now c.read_capped.result c.read_capped.ensures

pub returns-clause-refused : goal.returns-clause-refused
returns-clause-refused c = answer_refused c.args.text.now c.read_capped.result c.read_capped.ensures
