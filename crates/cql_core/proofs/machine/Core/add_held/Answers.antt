use Rattle.std.proofs.lemmas.Grind.{common_steps}
use Rattle.std.proofs.Common.{◌≡◌, All, Some, arith, subst, sym}
use Rattle.std.proofs.lemmas.List.Elements.{All-push}
use Rattle.cql_core.specs.StreamId.{stream_id_of}
use Rattle.cql_core.specs.Rows.{rows_held}
use Rattle.cql_core.specs.declared.standing.HeldStream.{HeldStream}
use Rattle.cql_core.proofs.machine.Core.add_held.Goals as goal

pub returns : goal.returns
returns c =
    let holds = λ (h : HeldStream). rows_held c.args.self.now (stream_id_of c.args.owner h.name) ≡ Some h.rows in
    let there : rows_held c.args.self.now (stream_id_of c.args.owner c.in_ok-name.name) ≡ Some c.in-Some.rows = grind (arith, common_steps) in
    subst (All holds) (sym c.in_ok-push.ensures.items) (All-push holds c.args.held.now.items (record { name = c.in_ok-name.name; rows = c.in-Some.rows; bytes = c.match-stream_index.bytes }) c.requires there)
