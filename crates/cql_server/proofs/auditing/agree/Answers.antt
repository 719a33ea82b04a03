use Rattle.std.proofs.lemmas.Grind.{common_steps}
use Rattle.std.proofs.Common.{arith, ◌≡◌, length, map, subst, sym, refl}
use Rattle.cql_core.specs.Machine.{opening}
use Rattle.cql_core.specs.Journal.{IsJournal}
use Rattle.cql_hall.specs.Entering.{noted}
use Rattle.cql_server.proofs.auditing.agree.Goals as goal

pub returns-in-Ok-audit-clause-agreed : goal.returns-in-Ok-audit-clause-agreed
returns-in-Ok-audit-clause-agreed c =
    let same : c.in-Ok.ended.table ≡ c.args.table.now = grind (arith, common_steps) in
    let items : c.deref.result.now ≡ c.in-Ok.ended.entries.items = grind (arith, common_steps) in
    let many : length (map noted c.deref.result.now) ≡ c.len-entries.result = grind (arith, common_steps) in
    record {
      journal = record { table = c.in-Ok.ended.table; entries = map noted c.deref.result.now };
      opens = same;
      legal = subst (λ es. IsJournal (opening c.in-Ok.ended.table) (map noted es)) (sym items) (c.in-Ok.ensures.journal refl);
      agree = c.in-Ok-audit.ensures;
      entries = many;
    }
