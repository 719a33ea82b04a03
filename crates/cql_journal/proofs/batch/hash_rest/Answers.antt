use Rattle.std.proofs.Common.{◌++◌, take, drop, length-drop, sym, ap, subst, ◌∙◌, append_assoc}
use Rattle.std.proofs.lemmas.List.{take-append-drop}
use Rattle.std.proofs.Math.Seq.{take-length}
use Rattle.md5.specs.Md5.{Holds}
use Rattle.cql_journal.proofs.batch.hash_rest.Goals as goal

pub returns : goal.returns
returns c = λ front held.
    let text = c.args.text.now in
    let rest = drop c.args.hashed text in
    subst (Holds c.update.new.self)
    (ap (λ n. (front ++ take c.args.hashed text) ++ take n rest) (sym (length-drop c.args.hashed text)) ∙ ap (λ t. (front ++ take c.args.hashed text) ++ t) (take-length rest)
    ∙ append_assoc front (take c.args.hashed text) rest ∙ ap (λ t. front ++ t) (take-append-drop c.args.hashed text))
    (c.update.ensures (front ++ take c.args.hashed text) held)
