use Rattle.std.proofs.lemmas.Grind.{common_steps}
use Rattle.std.proofs.Common.{[], ◌∷◌, ◌++◌, ap, ◌∙◌, arith}
use Rattle.std.specs.Prelude.{string_bytes, string_eq}
use Rattle.indexmap.proofs.CallerLemmas.{insert_entry-new}
use Rattle.cql_tenants.specs.Named.{find_named, named_of}
use Rattle.cql_tenants.proofs.Looks.{look, named_push}
use Rattle.cql_tenants.proofs.name_map.NameMap.push.Goals as goal

pub returns-in-Ok-clause-ok : goal.returns-in-Ok-clause-ok
returns-in-Ok-clause-ok g c =
    let es = c.self.inside.map.entries in
    let none = look es (string_bytes c.args.name) ∙ ap (λ ss. find_named ss (string_bytes c.args.name)) c.self.view_is ∙ c.requires in
    ap named_of (c.in-Ok.ensures.entries ∙ insert_entry-new string_eq c.self.inside.map c.args.name c.args.new none) ∙ named_push es (c.args.name, c.args.new)
    ∙ ap (λ ss. ss ++ record { name = string_bytes c.args.name; item = c.args.new } ∷ []) c.self.view_is

pub returns-clause-back : goal.returns-clause-back
returns-clause-back g c = grind (arith, common_steps)

pub returns-clause-err : goal.returns-clause-err
returns-clause-err g c = grind (arith, common_steps)
