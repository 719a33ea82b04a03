use Rattle.std.proofs.Common.{◌≡◌, ◌-◌, Some, ◌∙◌, arith}
use Rattle.json.specs.Json.{read_key, value}
use Rattle.json.proofs.Grammar.{read_key-shorter}
use Rattle.serde_json.specs.Data.{put}
use Rattle.cql_lines.proofs.Turns.{member_read, members_over}
use Rattle.cql_asked.proofs.plain.next_members.Goals as goal

pub members-preserved : goal.members-preserved
members-preserved c =
    let p = value 126 in
    let l = c.members in
    let n = l.invariant.0 in
    let old = l.invariant.1 in
    let k = c.in-Some.key.now in
    let s = c.next_key.new.self in
    let r = c.take.new.reader in
    let named : read_key l.reader ≡ Some (Some k, s) = grind arith in
    let done = c.in_ok-take.ensures in
    let d = done.ok.0 in
    let less = read_key-shorter l.reader (Some k) s named in
    let lesser = done.shorter in (
      n - 1,
      put k d old,
      omega (arith, l.invariant.2),
      omega (arith, l.invariant.3),
      done.ok.2 old l.invariant.4,
      l.invariant.5 ∙ member_read p old n k l.reader s r d (omega (arith, l.invariant.2)) named done.ok.1,
    )

pub returns : goal.returns
returns c =
    let l = c.members in
    let n = l.invariant.0 in
    let old = l.invariant.1 in
    (old, l.invariant.5 ∙ members_over (value 126) old n l.reader c.next_key.new.self l.invariant.2 (grind arith), l.invariant.4)
