-- Two runs that differ in hidden values alone give a tenant one view.
use Rattle.std.proofs.Common.{◌≡◌, inl, inr, ℕ, Bool, true, false, ◌&&◌, List, [], ◌∷◌, ◌++◌, refl, ap, ◌∙◌, sym}
use Rattle.std.specs.Prelude.{Option, Some, None, is_none, if◌then◌else◌}
use Rattle.cql_value.specs.declared.value.Value.{Value}
use Rattle.cql_tenants.specs.declared.namespace.Namespace.{Namespace}
use Rattle.cql_tenants.specs.declared.stream_refusal.StreamRefusal.{StreamRefusal}
use Rattle.cql_tenants.specs.declared.stream_refusal.StreamRefusal.TheVariants as refused
use Rattle.cql_tenants.specs.Namespace.{nothing_made, has_tenant, has_grant}
use Rattle.cql_tenants.specs.Directory.{Put as put, refused_at, done}
use Rattle.cql_core.specs.declared.command.Command.{Command}
use Rattle.cql_core.specs.declared.command.Command.TheVariants.{Put}
use Rattle.cql_core.specs.StreamId.{stream_id_of}
use Rattle.cql_core.specs.ReplyModel.{done_unless, is_accepted}
use Rattle.cql_core.specs.Directory.{directory_after, reply_on_streams}
use Rattle.cql_core.specs.View.{Own, Comes, seen_of_other, seen, view}
use Rattle.cql_core.specs.Solo.{solo_opening, solo}
use Rattle.cql_core.specs.Headline.{sent}
use Rattle.cql_core.specs.Hidden.{HiddenPut, IsHiddenIn, AreHiddenIn, IsHiddenLaw}
use Rattle.cql_core.proofs.Replies.{isolation_law}
use Rattle.cql_core.proofs.Histories.{history_law}

accepted_none : (o : Option StreamRefusal) → is_accepted (done_unless o) ≡ is_none o
accepted_none None = refl
accepted_none (Some r) = refl

none_by : (b : Bool) (o p : Option StreamRefusal) → is_none o ≡ is_none p → is_none (if b then o else Some refused.UnknownTenant) ≡ is_none (if b then p else Some refused.UnknownTenant)
none_by true o p e = e
none_by false o p e = refl

-- another's puts that are told the same, with the same values in the columns that the tenant sees
module _ (t : ℕ) (d : List Namespace) (u : ℕ) (stream : List ℕ) (at : ℕ) (row other : List Value) (told : reply_on_streams d u (put stream at row) ≡ reply_on_streams d u (put stream at other)) where
  put_directory : directory_after d u (Put stream at row) ≡ directory_after d u (Put stream at other)
  put_directory =
      let same : is_none (refused_at d u (put stream at row)) ≡ is_none (refused_at d u (put stream at other)) = sym (accepted_none (refused_at d u (put stream at row)))
      ∙ ap is_accepted told ∙ accepted_none (refused_at d u (put stream at other)) in
      ap (λ b. if b then done d u (put stream at row) else d) (none_by (has_tenant d u) (refused_at d u (put stream at row)) (refused_at d u (put stream at other)) same)

hidden_directory : (t : ℕ) (d : List Namespace) (u : ℕ) (c e : Command) → IsHiddenIn t d u c e → directory_after d u c ≡ directory_after d u e
hidden_directory t d u c e (inl same) = ap (directory_after d u) same
hidden_directory t d u c e (inr h) = ap (directory_after d u) h.first ∙ put_directory t d u h.stream h.at h.row h.other h.told ∙ sym (ap (directory_after d u) h.second)

put_seen : (t : ℕ) (d : List Namespace) (u : ℕ) (c e : Command) (h : HiddenPut t d u c e) → seen t d u (Put h.stream h.at h.row) ≡ seen t d u (Put h.stream h.at h.other)
put_seen t d u c e h =
    (λ i. if h.away i then Own (Put h.stream h.at h.row) ∷ [] else (if has_tenant d u then seen_of_other t d u (Put h.stream h.at h.row) else []))
    ∙ (λ i. if has_tenant d u then (if is_accepted (h.told i) && has_grant d u h.stream t then Comes (stream_id_of u h.stream) (record { at = h.at; row = h.seen i }) ∷ [] else []) else [])
    ∙ (λ i. if sym h.away i then Own (Put h.stream h.at h.other) ∷ [] else (if has_tenant d u then seen_of_other t d u (Put h.stream h.at h.other) else []))

hidden_seen : (t : ℕ) (d : List Namespace) (u : ℕ) (c e : Command) → IsHiddenIn t d u c e → seen t d u c ≡ seen t d u e
hidden_seen t d u c e (inl same) = ap (seen t d u) same
hidden_seen t d u c e (inr h) = ap (seen t d u) h.first ∙ put_seen t d u c e h ∙ sym (ap (seen t d u) h.second)

hidden_view : (t : ℕ) (d : List Namespace) (calls others : List (ℕ × Command)) → AreHiddenIn t d calls others → view t d calls ≡ view t d others
hidden_view t d [] [] h = refl
hidden_view t d [] (other ∷ others) h = absurd h
hidden_view t d (call ∷ calls) [] h = absurd h
hidden_view t d (call ∷ calls) (other ∷ others) h =
    (λ i. hidden_seen t d call.0 call.1 other.1 h.0.1 i ++ hidden_view t (directory_after d call.0 call.1) calls others h.1 i)
    ∙ (λ i. seen t d call.0 other.1 ++ view t (hidden_directory t d call.0 call.1 other.1 h.0.1 i) others)
    ∙ (λ i. seen t d (h.0.0 i) other.1 ++ view t (directory_after d (h.0.0 i) other.1) others)

pub hidden_law : IsHiddenLaw
hidden_law language is = record {
  runs = λ table t calls others h. isolation_law language is table t calls others (hidden_view t (nothing_made table) calls others h);
  histories = λ table t history other legal fits h.
      history_law language is table history legal t ∙ ap (solo language t (solo_opening table t)) (hidden_view t (nothing_made table) (sent history) (sent other) h) ∙ sym (history_law language is table other fits t);
}
