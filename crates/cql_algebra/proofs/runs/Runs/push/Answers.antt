use Rattle.std.proofs.Common.{◌≡◌, ◌≤◌, sym, subst, arith}
use Rattle.cql_algebra.specs.Blocks.{AreBlocks}
use Rattle.cql_algebra.proofs.runs.Runs.push.Goals as goal

pub returns-clause-stand : goal.returns-clause-stand
returns-clause-stand c O c' stand stretch =
    let start : c' ≤ c.args.self.now.next = stand.0 in
    let adjoins : c.args.from ≡ c.args.self.now.next = c.requires.adjoins in
    let are : AreBlocks O c' c.args.from c.args.self.now.blocks = subst (λ n. AreBlocks O c' n c.args.self.now.blocks) (sym adjoins) stand.1 in
    (omega (arith, c.requires.forward), c.in_ok-extend.ensures.ok O c' (omega arith) stretch (subst (λ v. AreBlocks O c' c.args.from v.blocks) (sym c.self.view_is) are))
