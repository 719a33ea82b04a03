use Rattle.std.proofs.lemmas.Grind.{common_steps}
use Rattle.std.proofs.Common.{arith, length, ap, subst, sym, ◌∙◌}
use Rattle.std.specs.Prelude.{IfSome, option_map}
use Rattle.cql_window.specs.Projection.{projected, AreWithin}
use Rattle.cql_tenants.specs.Named.{index_of}
use Rattle.cql_tenants.specs.Namespace.{namespace_at, stream_at}
use Rattle.cql_tenants.specs.Readable.{projection_seen}
use Rattle.cql_tenants.specs.Lookup.{seen_of, found}
use Rattle.cql_core.proofs.Attaching.{index_there, back, both_ok, then_err, one_more}
use Rattle.cql_core.proofs.stub_refs.attach_one.Goals as goal

pub attach-requires : goal.attach-requires
attach-requires c = index_there c.args.directory.now c.args.stores.now c.requires.beside c.in-Some.found.owner c.as_str.result.now c.in-Some.found.index c.in-Some.ensures.stream.index

pub returns-clause-ok : goal.returns-clause-ok
returns-clause-ok c =
    both_ok c.keep.result c.keep.ensures.ok c.keep.ensures.pushed
    (one_more c.args.directory.now c.args.tenant c.args.base c.args.hold c.args.input.now c.args.stores.now c.attach.new.self c.args.stub_refs.now c.in_ok-stub_ref.stub_ref (seen_of c.in-Some.found)
    ((λ k. found c.args.directory.now c.args.tenant (sym c.owner_written.ensures k) (sym c.as_str.ensures.value k)) ∙ sym c.find.ensures.seen ∙ ap (option_map seen_of) c.in-Some.is)
    c.in-Some.found.index c.in_ok-stub_ref.ensures.owner c.in_ok-stub_ref.ensures.stream
    (ap (λ n. index_of (namespace_at c.args.directory.now c.in-Some.found.owner).streams n) (sym c.as_str.ensures.value) ∙ c.in-Some.ensures.stream.index)
    c.in-Some.found.projection.now (c.in-Some.ensures.projection ∙ ap (projection_seen c.args.directory.now c.args.tenant c.in-Some.found.owner) c.as_str.ensures.value)
    (ap (λ n. option_map (λ s. projected s.schema c.in-Some.found.projection.now) (stream_at c.args.directory.now c.in-Some.found.owner n)) (sym c.as_str.ensures.value) ∙ c.in-Some.ensures.stream.schema)
    (subst (λ n. IfSome (stream_at c.args.directory.now c.in-Some.found.owner n) (λ s. AreWithin c.in-Some.found.projection.now (length s.schema))) c.as_str.ensures.value c.in-Some.ensures.stream.within)
    c.in_ok-stub_ref.ensures.was_free c.in_ok-window.window c.in_ok-window.ensures c.in_ok-stub_ref.ensures.ok c.keep.new.stores c.keep.new.stub_refs)

pub returns-clause-same : goal.returns-clause-same
returns-clause-same c = then_err c.keep.result c.keep.ensures.err (back c.args.stores.now c.attach.new.self c.keep.new.stores c.in_ok-stub_ref.stub_ref _ c.in_ok-stub_ref.ensures.was_free c.in_ok-stub_ref.ensures.ok)

pub keep-requires-clause-there : goal.keep-requires-clause-there
keep-requires-clause-there c = grind (arith, common_steps)
