use Rattle.std.proofs.Common.{[], ◌++◌, true, false, inl, refl, sym, ap, ◌∙◌, append-nil, arith}
use Rattle.std.proofs.lemmas.Result.{err_from_is_err_and}
use Rattle.cql_ops.specs.Linear.{with_change}
use Rattle.cql_groups.proofs.group.settle_group.Goals as goal

pub returns-in_err-row : goal.returns-in_err-row
returns-in_err-row c =
    let p = err_from_is_err_and c.from_residual.result c.from_residual.ensures.1 in
    rw (p.1, p.2) (record { settled = tt; err = (([], sym (append-nil c.args.out.now.items)), c.in_err-row.ensures.err) })

pub returns-in_err-told : goal.returns-in_err-told
returns-in_err-told c =
    let p = err_from_is_err_and c.from_residual-in_err-told.result c.from_residual-in_err-told.ensures.1 in
    rw (p.1, p.2) (record { settled = tt; err = (([], sym (append-nil c.args.out.now.items)), inl refl) })

pub returns-in_err-reserve : goal.returns-in_err-reserve
returns-in_err-reserve c =
    let p = err_from_is_err_and c.from_residual-in_err-reserve.result c.from_residual-in_err-reserve.ensures.1 in
    rw (p.1, p.2) (record { settled = tt; err = (([], c.in_err-reserve.ensures.items ∙ sym (append-nil c.args.out.now.items)), inl refl) })

pub tell_any-requires : goal.tell_any-requires
tell_any-requires c = omega (arith, c.in_ok-reserve.ensures.len, c.in_ok-reserve.ensures.ok)

pub tell_any-requires-2 : goal.tell_any-requires-2
tell_any-requires-2 c = omega (arith, c.in_ok-reserve.ensures.len, c.in_ok-reserve.ensures.ok, c.tell_any.ensures.room.0, c.tell_any.ensures.room.1)

pub returns : goal.returns
returns c =
    let now = c.tell_any.new.out.items in
    let reserved = c.reserve.new.self.items in
    record {
      settled = (
        record { due = c.in_ok-row.ensures.ok; same = refl; is = c.is_some-some.ensures },
        c.tell_any-2.ensures.out ∙ ap (λ t. now ++ with_change true t []) c.in_ok-told.ensures
            ∙ ap (λ l. l ++ with_change true c.in_ok-row.row []) (c.tell_any.ensures.out ∙ ap (λ t. reserved ++ with_change false t []) c.take.ensures.value ∙ ap (λ l. l ++ with_change false c.args.group.now.told []) c.in_ok-reserve.ensures.items),
      );
      err = tt;
    }
