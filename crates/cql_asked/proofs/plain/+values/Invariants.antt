use Rattle.std.proofs.Common.{◌*◌, ◌+◌, length}
use Rattle.cql_asked.proofs.plain.+values.Given as goal

abbrev pub decreases-last_values : goal.decreases-last_values
decreases-last_values l = length l.reader.now * 2 + 1

abbrev pub decreases-values_from : goal.decreases-values_from
decreases-values_from l = length l.reader.now * 2
