use Rattle.std.proofs.Common.{◌+◌, ap, ◌∙◌, sym}
use Rattle.std.specs.Option.{option_copied_mut}
use Rattle.std.proofs.lemmas.Result.{on_ok_weaker, on_err_weaker}
use Rattle.cql_tenants.specs.Named.{named_of, find_named}
use Rattle.cql_tenants.specs.Taking.{beat_refused, opens}
use Rattle.cql_tenants.proofs.Looks.{set_named, look, written, change_found, set_found}
use Rattle.cql_tenants.proofs.name_map.NameMap+Stream.beat.Goals as goal

pub returns-in_default-clause-refused : goal.returns-in_default-clause-refused
returns-in_default-clause-refused c =
    let name = c.args.name.now in
    let lost = ap (λ ss. find_named ss name) (sym c.self.view_is) ∙ sym (look c.self.inside.map.entries name) ∙ sym c.get_mut.ensures.value ∙ ap option_copied_mut c.in_default.is in
    sym (ap (λ s. beat_refused s c.args.at) lost)

pub returns-clause-refused : goal.returns-clause-refused
returns-clause-refused c =
    let name = c.args.name.now in
    let found = ap (λ ss. find_named ss name) (sym c.self.view_is) ∙ sym (look c.self.inside.map.entries name) ∙ sym c.get_mut.ensures.value ∙ ap option_copied_mut c.in-Some.is in
    c.beat.ensures.refused ∙ sym (ap (λ s. beat_refused s c.args.at) found)

pub returns-clause-ok : goal.returns-clause-ok
returns-clause-ok c =
    let name = c.args.name.now in
    let old = c.in-Some.stream.now in
    let new = c.beat.new.self in
    let found = ap (λ ss. find_named ss name) (sym c.self.view_is) ∙ sym (look c.self.inside.map.entries name) ∙ sym c.get_mut.ensures.value ∙ ap option_copied_mut c.in-Some.is in
    on_ok_weaker c.beat.result (λ is. ap named_of (c.get_mut.follows.holds new).0 ∙ written c.self.inside.map.entries name new ∙ ap (λ ss. set_named ss name new) c.self.view_is
    ∙ ap (set_named c.args.self.now name) is ∙ change_found (opens (c.args.at + 1)) c.args.self.now name old found) c.beat.ensures.ok

pub returns-clause-err : goal.returns-clause-err
returns-clause-err c =
    let name = c.args.name.now in
    let old = c.in-Some.stream.now in
    let new = c.beat.new.self in
    let found = ap (λ ss. find_named ss name) (sym c.self.view_is) ∙ sym (look c.self.inside.map.entries name) ∙ sym c.get_mut.ensures.value ∙ ap option_copied_mut c.in-Some.is in
    on_err_weaker c.beat.result (λ is. ap named_of (c.get_mut.follows.holds new).0 ∙ written c.self.inside.map.entries name new ∙ ap (λ ss. set_named ss name new) c.self.view_is
    ∙ ap (set_named c.args.self.now name) is ∙ set_found c.args.self.now name old found) c.beat.ensures.err
