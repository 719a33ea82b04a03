use Rattle.std.proofs.Common.{◌≡◌, Some, None, map, ap, sym, ◌∙◌}
use Rattle.std.specs.Prelude.{option_map}
use Rattle.cql_value.specs.declared.schema.Column.{Column}
use Rattle.cql_reply.proofs.Pieces.{told_as, none_as}
use Rattle.cql_wire.proofs.Listings.{named_as}
use Rattle.cql_wire.proofs.listing_place.ReadablePlaceTextPlace.fill.Goals as goal

pub returns-in-Some-clause-told : goal.returns-in-Some-clause-told
returns-in-Some-clause-told c =
    let columns = sym (ap (option_map (λ cs. map (λ (c : Column). c.name) cs.now)) c.in-Some.is) ∙ c.columns.ensures in
    let same = named_as c.args.whole.now (Some (map (λ (c : Column). c.name) c.in-Some.columns.now)) c.opened.result c.as_bytes.result.now c.as_bytes-2.result.now columns c.opened.ensures (c.as_bytes.ensures.value ∙ c.owner.ensures) (c.as_bytes-2.ensures.value ∙ c.stream.ensures) in
    told_as c.args.room.now.bytes c.fill.new.room.bytes _ _ c.args.self.now.pieces c.fill.new.self same c.fill.ensures.told

pub returns-in-Some-clause-done : goal.returns-in-Some-clause-done
returns-in-Some-clause-done c = λ told.
    let columns = sym (ap (option_map (λ cs. map (λ (c : Column). c.name) cs.now)) c.in-Some.is) ∙ c.columns.ensures in
    let same = named_as c.args.whole.now (Some (map (λ (c : Column). c.name) c.in-Some.columns.now)) c.opened.result c.as_bytes.result.now c.as_bytes-2.result.now columns c.opened.ensures (c.as_bytes.ensures.value ∙ c.owner.ensures) (c.as_bytes-2.ensures.value ∙ c.stream.ensures) in
    none_as _ _ c.fill.new.self same (c.fill.ensures.done told)

pub returns-in-None-clause-told : goal.returns-in-None-clause-told
returns-in-None-clause-told c =
    let columns = sym (ap (option_map (λ cs. map (λ (c : Column). c.name) cs.now)) c.in-None.is) ∙ c.columns.ensures in
    let same = named_as c.args.whole.now None c.opened.result c.as_bytes.result.now c.as_bytes-2.result.now columns c.opened.ensures (c.as_bytes.ensures.value ∙ c.owner.ensures) (c.as_bytes-2.ensures.value ∙ c.stream.ensures) in
    told_as c.args.room.now.bytes c.fill-in-None.new.room.bytes _ _ c.args.self.now.pieces c.fill-in-None.new.self same c.fill-in-None.ensures.told

pub returns-in-None-clause-done : goal.returns-in-None-clause-done
returns-in-None-clause-done c = λ told.
    let columns = sym (ap (option_map (λ cs. map (λ (c : Column). c.name) cs.now)) c.in-None.is) ∙ c.columns.ensures in
    let same = named_as c.args.whole.now None c.opened.result c.as_bytes.result.now c.as_bytes-2.result.now columns c.opened.ensures (c.as_bytes.ensures.value ∙ c.owner.ensures) (c.as_bytes-2.ensures.value ∙ c.stream.ensures) in
    none_as _ _ c.fill-in-None.new.self same (c.fill-in-None.ensures.done told)

pub returns-in-Some-clause-grows : goal.returns-in-Some-clause-grows
returns-in-Some-clause-grows c = c.fill.ensures.grows

pub returns-in-Some-clause-size : goal.returns-in-Some-clause-size
returns-in-Some-clause-size c = c.fill.ensures.size

pub returns-in-Some-clause-full : goal.returns-in-Some-clause-full
returns-in-Some-clause-full c = c.fill.ensures.full

pub returns-in-None-clause-grows : goal.returns-in-None-clause-grows
returns-in-None-clause-grows c = c.fill-in-None.ensures.grows

pub returns-in-None-clause-size : goal.returns-in-None-clause-size
returns-in-None-clause-size c = c.fill-in-None.ensures.size

pub returns-in-None-clause-full : goal.returns-in-None-clause-full
returns-in-None-clause-full c = c.fill-in-None.ensures.full
