use Rattle.std.proofs.lemmas.Grind.{common_steps}
use Rattle.std.proofs.Common.{◌<◌, [], length, take, true, subst, rules, arith}
use Rattle.std.specs.Io.KnownBytes.{Consumes, IsAtEnd}
use Rattle.std.proofs.KnownBytes.{Keeps-refl}
use Rattle.cql_lines.specs.Watched.{inner_of}
use Rattle.cql_sessions.proofs.Seating.{still_reads, end_faces, end_reads, end_stops, chunk_read, lines_read}
use Rattle.cql_sessions.proofs.sessions.read_once.Goals as goal

pub returns-in_err-flush-clause-reads : goal.returns-in_err-flush-clause-reads
returns-in_err-flush-clause-reads g c =
    λ going. still_reads c.args.service.now.table.now c.args.state.now _ _ _ c.requires.going (Keeps-refl (g.R.Read.remaining (inner_of c.args.reader.now))) going

pub returns-then-count-eq0-clause-reads : goal.returns-then-count-eq0-clause-reads
returns-then-count-eq0-clause-reads g c =
    let before = g.R.Read.remaining (inner_of c.args.reader.now) in
    let after = g.R.Read.remaining (inner_of c.read.new.self) in
    let consumed : Consumes before after [] = subst (λ n. Consumes before after (take n c.read.new.buf)) c.if-count-eq0.true c.in_ok-count.ensures.bytes.0 in
    let full : 0 < length c.read.new.buf = search rules in
    let at_end : IsAtEnd after = c.in_ok-count.ensures.bytes.1 c.if-count-eq0.true full in
    λ going.
    end_reads c.args.service.now.table.now c.args.state.now c.answer_whole.new.self before after true consumed at_end
    (λ came reached. c.in_ok-answer_whole.ensures.seats going came (end_faces c.args.service.now.table.now came c.args.state.now c.requires.going going reached))

pub returns-clause-reads : goal.returns-clause-reads
returns-clause-reads g c = λ going.
    lines_read c.args.service.now.table.now c.args.state.now c.take_lines.new.state _ _ _ _ c.take_lines.result c.requires.going c.take_lines.ensures.same.1 c.take_lines.ensures.served c.take_lines.ensures.seats
    going c.in_ok-count.ensures.bytes.0 (chunk_read _ c.in_ok-count.count _ _ _ c.deref.ensures.value (first_of (search rules, grind arith)))

pub returns-in_err-count-clause-reads : goal.returns-in_err-count-clause-reads
returns-in_err-count-clause-reads g c = grind (arith, common_steps)

pub returns-in_err-answer_whole-clause-reads : goal.returns-in_err-answer_whole-clause-reads
returns-in_err-answer_whole-clause-reads g c =
    let before = g.R.Read.remaining (inner_of c.args.reader.now) in
    let after = g.R.Read.remaining (inner_of c.read.new.self) in
    let consumed : Consumes before after [] = subst (λ n. Consumes before after (take n c.read.new.buf)) c.if-count-eq0.true c.in_ok-count.ensures.bytes.0 in
    let full : 0 < length c.read.new.buf = search rules in
    let at_end : IsAtEnd after = c.in_ok-count.ensures.bytes.1 c.if-count-eq0.true full in
    λ going.
    end_stops c.args.service.now.table.now c.args.state.now c.answer_whole.new.self before after _ (first_of (search rules, grind (arith, common_steps))) consumed at_end
    (λ came reached. c.in_err-answer_whole.ensures.stops going came (end_faces c.args.service.now.table.now came c.args.state.now c.requires.going going reached))
