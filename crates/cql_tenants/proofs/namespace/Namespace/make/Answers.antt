use Rattle.std.proofs.Common.{◌≡◌, Bool, true, false, Option, Some, None, refl, sym, subst}
use Rattle.std.specs.Prelude.{is_some, if◌then◌else◌}
use Rattle.cql_value.specs.Name.{is_name}
use Rattle.cql_tenants.specs.declared.stream_refusal.StreamRefusal.{StreamRefusal}
use Rattle.cql_tenants.specs.declared.stream_refusal.StreamRefusal.TheVariants.{StreamExists, BadName}
use Rattle.cql_tenants.specs.Named.{find_named}
use Rattle.cql_tenants.proofs.namespace.Namespace.make.Goals as goal

-- what is refused for nothing is not refused by its first test
passed : (is : Bool) (rest : Option StreamRefusal) (refusal : StreamRefusal) → (if is then rest else Some refusal) ≡ None → rest ≡ None
passed true rest refusal none = none
passed false rest refusal none = absurd cc

free : {A : Type 0} (found : Option A) (rest : Option StreamRefusal) (refusal : StreamRefusal) → (if is_some found then Some refusal else rest) ≡ None → found ≡ None
free None rest refusal none = refl
free (Some x) rest refusal none = absurd cc

pub push-requires : goal.push-requires
push-requires c =
    let streams = c.args.self.now.streams in
    subst (λ name. find_named streams name ≡ None) (sym c.in_ok-from_str.ensures.ok) (free (find_named streams c.args.name.now) _ StreamExists (passed (is_name c.args.name.now) _ BadName c.requires))
