-- What others ask of their queries changes nothing for a tenant.
use Rattle.std.proofs.Common.{◌≡◌, ℕ, Bool, true, false, ◌||◌, ◌==◌, List, [], ◌∷◌, ◌++◌, refl, ap, ◌∙◌, sym}
use Rattle.std.specs.Prelude.{if◌then◌else◌}
use Rattle.cql_tenants.specs.declared.namespace.Namespace.{Namespace}
use Rattle.cql_tenants.specs.Namespace.{nothing_made, has_tenant}
use Rattle.cql_core.specs.declared.command.Command.{Command}
use Rattle.cql_core.specs.declared.command.Command.TheVariants.{Stream, Grant, Revoke, Put, Beat, Query, Fetch, Ack, Drop, List as Lists}
use Rattle.cql_core.specs.Language.{Language, IsLanguage}
use Rattle.cql_core.specs.Directory.{directory_after}
use Rattle.cql_core.specs.View.{Own, seen_of_other, seen, view}
use Rattle.cql_core.specs.Law.{is_on_stream, without_others, IsAloneLaw}
use Rattle.cql_core.proofs.Replies.{isolation_law}

both_same : {A : Type 0} (b : Bool) (x : A) → (if b then x else x) ≡ x
both_same true x = refl
both_same false x = refl

-- a command on no stream leaves the directory
directory_same : (namespaces : List Namespace) (user : ℕ) (c : Command) → is_on_stream c ≡ false → directory_after namespaces user c ≡ namespaces
directory_same namespaces user (Stream name columns) e = absurd cc
directory_same namespaces user (Grant name to columns) e = absurd cc
directory_same namespaces user (Revoke name to) e = absurd cc
directory_same namespaces user (Put name at row) e = absurd cc
directory_same namespaces user (Beat name at) e = absurd cc
directory_same namespaces user (Query name text) e = refl
directory_same namespaces user (Fetch name until) e = refl
directory_same namespaces user (Ack name to) e = refl
directory_same namespaces user (Drop name) e = refl
directory_same namespaces user Lists e = refl

-- nor does another see it
seen_none : (tenant : ℕ) (namespaces : List Namespace) (user : ℕ) (c : Command) → is_on_stream c ≡ false → (if has_tenant namespaces user then seen_of_other tenant namespaces user c else []) ≡ []
seen_none tenant namespaces user (Stream name columns) e = absurd cc
seen_none tenant namespaces user (Grant name to columns) e = absurd cc
seen_none tenant namespaces user (Revoke name to) e = absurd cc
seen_none tenant namespaces user (Put name at row) e = absurd cc
seen_none tenant namespaces user (Beat name at) e = absurd cc
seen_none tenant namespaces user (Query name text) e = both_same (has_tenant namespaces user) []
seen_none tenant namespaces user (Fetch name until) e = both_same (has_tenant namespaces user) []
seen_none tenant namespaces user (Ack name to) e = both_same (has_tenant namespaces user) []
seen_none tenant namespaces user (Drop name) e = both_same (has_tenant namespaces user) []
seen_none tenant namespaces user Lists e = both_same (has_tenant namespaces user) []

-- by whose the command is, and whether it is on a stream
left_out_by : (tenant : ℕ) (namespaces : List Namespace) (user : ℕ) (c : Command) (calls less : List (ℕ × Command)) → ((namespaces : List Namespace) → view tenant namespaces less ≡ view tenant namespaces calls)
    → (own on : Bool) → (user == tenant) ≡ own → is_on_stream c ≡ on
    → view tenant namespaces ((if own || on then (user, c) ∷ [] else []) ++ less) ≡ seen tenant namespaces user c ++ view tenant (directory_after namespaces user c) calls
left_out_by tenant namespaces user c calls less same true on mine e = ap (λ es. seen tenant namespaces user c ++ es) (same (directory_after namespaces user c))
left_out_by tenant namespaces user c calls less same false true mine e = ap (λ es. seen tenant namespaces user c ++ es) (same (directory_after namespaces user c))
left_out_by tenant namespaces user c calls less same false false mine e =
    same namespaces
    ∙ (λ i. (if sym mine i then Own c ∷ [] else sym (seen_none tenant namespaces user c e) i) ++ view tenant (sym (directory_same namespaces user c e) i) calls)

-- the view is the same without them
left_out : (tenant : ℕ) (calls : List (ℕ × Command)) (namespaces : List Namespace) → view tenant namespaces (without_others tenant calls) ≡ view tenant namespaces calls
left_out tenant [] namespaces = refl
left_out tenant (call ∷ calls) namespaces = left_out_by tenant namespaces call.0 call.1 calls (without_others tenant calls) (left_out tenant calls) (call.0 == tenant) (is_on_stream call.1) refl refl

pub alone_law : (language : Language) → IsLanguage language → IsAloneLaw language
alone_law language is table tenant calls = isolation_law language is table tenant (without_others tenant calls) calls (left_out tenant calls (nothing_made table))
