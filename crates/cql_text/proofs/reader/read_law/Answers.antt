use Rattle.cql_text.proofs.Offsets.{read_found, read_only, read_refused}
use Rattle.cql_text.proofs.reader.read_law.Goals as goal

pub returns : goal.returns
returns c = λ text. (read_found text, read_only text, read_refused text)
