-- What each command is told, by its checks in their order.
use Rattle.std.proofs.Common.{◌≡◌, ◌≤◌, ◌<◌, ℕ, Bool, true, false, List, [], ◌∷◌, map, min, length, ◌-◌, ◌^◌, refl, ap, subst, ◌∙◌, sym, arith}
use Rattle.std.specs.Prelude.{Option, Some, None, option_map, Result, not, is_some, is_none, unwrap_or, nat_lt, ◌==◌, if◌then◌else◌}
use Rattle.std.proofs.lemmas.Bool.Decides.{nat_tests}
use Rattle.cql_value.specs.declared.schema.Column.{Column}
use Rattle.cql_value.specs.Name.{is_name}
use Rattle.cql_value.specs.Schema.{is_row_of}
use Rattle.cql_window.specs.Window.{content}
use Rattle.cql_tenants.specs.declared.clock.ClockError.TheVariants as clock
use Rattle.cql_eval.specs.Pin.{PinModel}
use Rattle.cql_tenants.specs.declared.stream.Stream.{Stream as Clocked}
use Rattle.cql_tenants.specs.declared.stream_refusal.StreamRefusal.TheVariants as refused
use Rattle.cql_tenants.specs.Named.{find_named}
use Rattle.cql_window.specs.Chosen.{is_shown}
use Rattle.cql_tenants.specs.Taking.{put_refused, beat_refused}
use Rattle.cql_tenants.specs.Refusal.{clock_refusal}
use Rattle.cql_core.specs.declared.command.Command.TheVariants.{Query}
use Rattle.cql_core.specs.declared.refusal.Refusal.{Refusal}
use Rattle.cql_core.specs.declared.refusal.Refusal.TheVariants.{StreamExists, BadName, BadColumns, TooManyStreams, UnknownStream, UnknownTenant, AlreadyGranted, SelfGrant, BadGrantColumns}
use Rattle.cql_core.specs.declared.refusal.Refusal.TheVariants.{NotGranted, WrongRow, Late, AtTooLarge, BadQuery, TooManyQueries, QueryExists, UnknownQuery, Overrun, Ahead, Behind, Revoked}
use Rattle.cql_core.specs.Columns.{schema_of}
use Rattle.cql_core.specs.Bound.{BoundInput, BoundPlan}
use Rattle.cql_core.specs.ReplyModel.{ReplyModel, Done, Based, Blocks, Refused, done_unless}
use Rattle.cql_core.specs.Language.{Language, through_projections, contents_at, content_of, AreAlike, IsLanguage}
use Rattle.cql_core.specs.Checks.{check_query, check_fetch, check_ack, check_drop, reply_unless}
use Rattle.cql_core.specs.Solo.{SoloQuery, SoloState, tenant_in, is_given, plan_in, limit_to, passes, rows_on, whole, blocks_over, meaning_of_list, meaning_of_fetch, meaning_of_ack, meaning}
use Rattle.cql_core.specs.Order.{Check, check, TellsFirst, Tells, stream_checks, is_itself, is_given_to, grant_checks, revoke_checks, no_stream, time_checks, row_checks, query_checks}
use Rattle.cql_core.specs.Order.{no_query, gone_check, overrun_check, behind_check, ShowsWhole, OrderLaw, IsOrderLaw}
use Rattle.cql_tenants.specs.Checks.{grant_refused, taken_refused}

-- what is told by checks
abbrev first : List Check → ReplyModel → ReplyModel
first [] told = told
first (c ∷ cs) told = if c.fault then Refused c.refusal else first cs told

tells_one : (fault : Bool) (refusal : Refusal) (cs : List Check) (otherwise : ReplyModel) → TellsFirst cs otherwise (first cs otherwise)
    → TellsFirst (check fault refusal ∷ cs) otherwise (if fault then Refused refusal else first cs otherwise)
tells_one true refusal cs otherwise rest = (λ h. refl, λ h. absurd cc)
tells_one false refusal cs otherwise rest = (λ h. absurd cc, λ h. rest)

tells_all : (cs : List Check) (otherwise : ReplyModel) → TellsFirst cs otherwise (first cs otherwise)
tells_all [] otherwise = refl
tells_all (c ∷ cs) otherwise = tells_one c.fault c.refusal cs otherwise (tells_all cs otherwise)

tells : (cs : List Check) (otherwise told : ReplyModel) → told ≡ first cs otherwise → TellsFirst cs otherwise told
tells cs otherwise told e = subst (TellsFirst cs otherwise) (sym e) (tells_all cs otherwise)

-- whether the tenant is in the table comes first
there_first : (is_there : Bool) (cs : List Check) (otherwise told : ReplyModel) → told ≡ first cs otherwise → (if is_there then told else Refused UnknownTenant) ≡ first (check (not is_there) UnknownTenant ∷ cs) otherwise
there_first true cs otherwise told e = e
there_first false cs otherwise told e = refl

-- STREAMS
stream_checked : (named : Bool) (schema : Option (List Column)) (exists room : Bool)
    → done_unless (if named then (if is_none schema then Some refused.BadColumns else (if exists then Some refused.StreamExists else (if room then None else Some refused.TooManyStreams))) else Some refused.BadName)
    ≡ first (check (not named) BadName ∷ check (is_none schema) BadColumns ∷ check exists StreamExists ∷ check (not room) TooManyStreams ∷ []) Done
stream_checked false schema exists room = refl
stream_checked true None exists room = refl
stream_checked true (Some columns) true room = refl
stream_checked true (Some columns) false true = refl
stream_checked true (Some columns) false false = refl

grant_checked : (own : Option Clocked) (tenant : ℕ) (k : SoloState) (name : List ℕ) (columns : Option (List (List ℕ))) (index : Option ℕ)
    → done_unless (grant_refused tenant own columns (is_given k name) index)
    ≡ first (check (is_none own) UnknownStream ∷ check (is_none index) UnknownTenant ∷ check (is_itself tenant index) SelfGrant
    ∷ check (not (is_shown (unwrap_or (option_map (λ (s : Clocked). s.schema) own) []) columns)) BadGrantColumns ∷ check (is_given_to k name index) AlreadyGranted ∷ []) Done
grant_checked None tenant k name columns index = refl
grant_checked (Some s) tenant k name columns None = refl
grant_checked (Some s) tenant k name columns (Some index) = by (index == tenant) (is_shown s.schema columns) (is_given k name index)
  where
    by : (itself fine given : Bool)
        → done_unless (if itself then Some refused.SelfGrant else if fine then (if given then Some refused.AlreadyGranted else None) else Some refused.BadGrantColumns)
        ≡ (if itself then Refused SelfGrant else (if not fine then Refused BadGrantColumns else (if given then Refused AlreadyGranted else Done)))
    by true fine given = refl
    by false true true = refl
    by false true false = refl
    by false false given = refl

revoke_checked : (own : Option Clocked) (tenant : ℕ) (k : SoloState) (name : List ℕ) (index : Option ℕ)
    → done_unless (if is_some own then taken_refused tenant (is_given k name) index else Some refused.UnknownStream)
    ≡ first (check (is_none own) UnknownStream ∷ check (is_none index) UnknownTenant ∷ check (is_itself tenant index) NotGranted ∷ check (not (is_given_to k name index)) NotGranted ∷ []) Done
revoke_checked None tenant k name index = refl
revoke_checked (Some s) tenant k name None = refl
revoke_checked (Some s) tenant k name (Some index) = by (index == tenant) (is_given k name index)
  where
    by : (itself given : Bool) → done_unless (if itself then Some refused.NotGranted else (if given then None else Some refused.NotGranted))
        ≡ (if itself then Refused NotGranted else (if not given then Refused NotGranted else Done))
    by true given = refl
    by false true = refl
    by false false = refl

time_checked : (large late : Bool) → done_unless (option_map clock_refusal (if large then Some clock.AtTooLarge else (if late then Some clock.Late else None))) ≡ first (check large AtTooLarge ∷ check late Late ∷ []) Done
time_checked true late = refl
time_checked false true = refl
time_checked false false = refl

put_checked : (fits large late : Bool)
    → done_unless (if fits then option_map clock_refusal (if large then Some clock.AtTooLarge else (if late then Some clock.Late else None)) else Some refused.WrongRow)
    ≡ first (check (not fits) WrongRow ∷ check large AtTooLarge ∷ check late Late ∷ []) Done
put_checked true large late = time_checked large late
put_checked false large late = refl

-- QUERIES
query_checked : (named : Bool) (bad : Option ℕ) (exists room : Bool) (planned : Result BoundPlan Refusal) (base_of : BoundPlan → ℕ) (otherwise : ReplyModel) → check_query true None false true planned base_of ≡ otherwise
    → check_query named bad exists room planned base_of ≡ first (check (not named) BadName ∷ check (is_some bad) (BadQuery (unwrap_or bad 0)) ∷ check exists QueryExists ∷ check (not room) TooManyQueries ∷ []) otherwise
query_checked false bad exists room planned base_of otherwise e = refl
query_checked true (Some at) exists room planned base_of otherwise e = refl
query_checked true None true room planned base_of otherwise e = refl
query_checked true None false false planned base_of otherwise e = refl
query_checked true None false true planned base_of otherwise e = e

fetch_checked : (revoked overrun behind : Bool) (told : ReplyModel) → reply_unless (check_fetch revoked overrun behind) told ≡ first (check revoked Revoked ∷ check overrun Overrun ∷ check behind Behind ∷ []) told
fetch_checked true overrun behind told = refl
fetch_checked false true behind told = refl
fetch_checked false false true told = refl
fetch_checked false false false told = refl

whole_fetch_checked : (revoked overrun : Bool) (told : ReplyModel) → reply_unless (check_fetch revoked overrun false) told ≡ first (check revoked Revoked ∷ check overrun Overrun ∷ []) told
whole_fetch_checked true overrun told = refl
whole_fetch_checked false true told = refl
whole_fetch_checked false false told = refl

ack_checked : (revoked overrun ahead behind : Bool) → check_ack revoked overrun ahead behind ≡ first (check revoked Revoked ∷ check overrun Overrun ∷ check ahead Ahead ∷ check behind Behind ∷ []) Done
ack_checked true overrun ahead behind = refl
ack_checked false true ahead behind = refl
ack_checked false false true behind = refl
ack_checked false false false true = refl
ack_checked false false false false = refl

drop_checked : (q : Option SoloQuery) → check_drop (is_some q) ≡ first (check (is_none q) UnknownQuery ∷ []) Done
drop_checked None = refl
drop_checked (Some q) = refl

-- THE BLOCKS OF A FETCH
module _ (q : SoloQuery) (result next : ℕ) where
  abbrev whole_pin : PinModel
  whole_pin = record { plan = q.plan.plan; base = q.base; from = q.cursor; next = next; limit = result; windows = map (whole q) q.plan.inputs }

  whole_contents : (c : ℕ) (is : List BoundInput) → map (content_of c) (map (whole q) is) ≡ map (λ i. content i.window c [] (rows_on i.stream_id q.came)) is
  whole_contents c [] = refl
  whole_contents c (i ∷ is) = ap (λ xs. content i.window c [] (rows_on i.stream_id q.came) ∷ xs) (whole_contents c is)

  nothing_by : (c : ℕ) → c ≤ q.base → (b : Bool) → nat_lt q.base c ≡ b → (if b then Some (through_projections q.plan.plan.inputs (map (content_of c) (map (whole q) q.plan.inputs))) else None) ≡ None
  nothing_by c le true h = absurd (grind (arith, nat_tests))
  nothing_by c le false h = refl

  all_by : (c : ℕ) → q.base < c → (b : Bool) → nat_lt q.base c ≡ b
      → (if b then Some (through_projections q.plan.plan.inputs (map (content_of c) (map (whole q) q.plan.inputs))) else None) ≡ Some
      (through_projections q.plan.plan.inputs (map (λ i. content i.window c [] (rows_on i.stream_id q.came)) q.plan.inputs))
  all_by c lt true h = ap (λ xs. Some (through_projections q.plan.plan.inputs xs)) (whole_contents c q.plan.inputs)
  all_by c lt false h = absurd (grind (arith, nat_tests))

  shows_whole : ShowsWhole q result next whole_pin
  unfolding contents_at
  shows_whole = record { plan = refl; limit = refl; from = refl; next = refl; before = λ c le. nothing_by c le (nat_lt q.base c) refl; since = λ c lt. all_by c lt (nat_lt q.base c) refl }

  module _ (p : PinModel) (shows : ShowsWhole q result next p) where
    contents_by : (c : ℕ) (b : Bool) → nat_lt q.base c ≡ b → contents_at p c ≡ (if b then Some (through_projections q.plan.plan.inputs (map (content_of c) (map (whole q) q.plan.inputs))) else None)
    contents_by c true h = shows.since c (grind (arith, nat_tests)) ∙ ap (λ xs. Some (through_projections q.plan.plan.inputs xs)) (sym (whole_contents c q.plan.inputs))
    contents_by c false h = shows.before c (grind (arith, nat_tests))

    alike_whole : AreAlike p whole_pin
    unfolding contents_at
    alike_whole = record { plan = shows.plan; limit = shows.limit; from = shows.from; next = shows.next; contents = λ c ge le. contents_by c (nat_lt q.base c) refl }

blocks_shown : (language : Language) → IsLanguage language → (q : SoloQuery) (result next : ℕ) (p : PinModel) → ShowsWhole q result next p → blocks_over language result q next ≡ Blocks (language.blocks_of p) next
blocks_shown language is q result next p shows = ap (λ bs. Blocks bs next) (sym (is.local p (whole_pin q result next) (alike_whole q result next p shows)))

module _ (language : Language) (is : IsLanguage language) (t : ℕ) (k : SoloState) where
  abbrev is_there : Bool
  is_there = nat_lt t (length k.names)

  told_by : (cs : List Check) (otherwise told : ReplyModel) → told ≡ first cs otherwise → Tells t k cs otherwise (if is_there then told else Refused UnknownTenant)
  told_by cs otherwise told e = tells (check (not is_there) UnknownTenant ∷ cs) otherwise _ (there_first is_there cs otherwise told e)

  query_same : (name text : List ℕ) (otherwise : ReplyModel) → check_query true None false true (plan_in language t k text) (limit_to t k) ≡ otherwise
      → Tells t k (query_checks language k name text) otherwise (meaning language t k (Query name text))
  query_same name text otherwise e =
      told_by (query_checks language k name text) otherwise _
      (query_checked (is_name name) (language.bad_byte text) (is_some (find_named k.queries name)) (nat_lt (length k.queries) k.quotas.queries) (plan_in language t k text) (limit_to t k) otherwise e)

  shown : (q : SoloQuery) (end : ℕ) (p : PinModel) → ShowsWhole q k.quotas.result end p → (cs : List Check) → first cs (blocks_over language k.quotas.result q end) ≡ first cs (Blocks (language.blocks_of p) end)
  shown q end p shows cs = ap (first cs) (blocks_shown language is q k.quotas.result end p shows)

  pub order : OrderLaw language t k
  order = record {
    make = λ name columns.
        told_by (stream_checks k name columns) Done _
        (stream_checked (is_name name) (schema_of columns) (is_some (find_named k.streams name)) (nat_lt (length k.streams) k.quotas.streams));
    grant = λ name to columns. told_by (grant_checks t k name columns (tenant_in t k to)) Done _ (grant_checked (find_named k.streams name) t k name columns (tenant_in t k to));
    revoke = λ name to. told_by (revoke_checks t k name (tenant_in t k to)) Done _ (revoke_checked (find_named k.streams name) t k name (tenant_in t k to));
    put_nowhere = λ name at row e. told_by no_stream Done _ (ap (λ s. done_unless (put_refused s at row)) e);
    put = λ name at row s e. told_by (row_checks s at row) Done _ (ap (λ s. done_unless (put_refused s at row)) e ∙ put_checked (is_row_of s.schema row) (nat_lt (2 ^ 62 - 1) at) (nat_lt at s.clock));
    beat_nowhere = λ name at e. told_by no_stream Done _ (ap (λ s. done_unless (beat_refused s at)) e);
    beat = λ name at s e. told_by (time_checks s at) Done _ (ap (λ s. done_unless (beat_refused s at)) e ∙ time_checked (nat_lt (2 ^ 62 - 1) at) (nat_lt at s.clock));
    query_refused = λ name text refusal e. query_same name text (Refused refusal) (ap (λ r. check_query true None false true r (limit_to t k)) e);
    query = λ name text plan e. query_same name text (Based (limit_to t k plan)) (ap (λ r. check_query true None false true r (limit_to t k)) e);
    fetch_nothing = λ name until e. told_by no_query Done _ (ap (λ q. meaning_of_fetch language t k q until) e);
    fetch = λ name q p e shows.
        told_by (gone_check q ∷ overrun_check k q ∷ []) (Blocks (language.blocks_of p) (limit_to t k q.plan)) _
        (ap (λ q. meaning_of_fetch language t k q None) e ∙ whole_fetch_checked q.gone (passes k.quotas.hold q)
        (blocks_over language k.quotas.result q (limit_to t k q.plan)) ∙ shown q (limit_to t k q.plan) p shows (gone_check q ∷ overrun_check k q ∷ []));
    fetch_until = λ name until q p e shows.
        told_by (gone_check q ∷ overrun_check k q ∷ behind_check q until ∷ []) (Blocks (language.blocks_of p) (min (limit_to t k q.plan) until)) _
        (ap (λ q. meaning_of_fetch language t k q (Some until)) e ∙ fetch_checked q.gone (passes k.quotas.hold q) (nat_lt until q.cursor) (blocks_over language k.quotas.result q (min (limit_to t k q.plan) until))
        ∙ shown q (min (limit_to t k q.plan) until) p shows (gone_check q ∷ overrun_check k q ∷ behind_check q until ∷ []));
    ack_nothing = λ name to e. told_by no_query Done _ (ap (λ q. meaning_of_ack t k q to) e);
    ack = λ name to q e.
        told_by (gone_check q ∷ overrun_check k q ∷ check (nat_lt (limit_to t k q.plan) to) Ahead ∷ behind_check q to ∷ []) Done _
        (ap (λ q. meaning_of_ack t k q to) e ∙ ack_checked q.gone (passes k.quotas.hold q) (nat_lt (limit_to t k q.plan) to) (nat_lt to q.cursor));
    drop = λ name. told_by (check (is_none (find_named k.queries name)) UnknownQuery ∷ []) Done _ (drop_checked (find_named k.queries name));
    pin = λ q result end. (whole_pin q result end, shows_whole q result end);
    list = told_by [] (meaning_of_list k) _ refl;
  }

pub order_law : IsOrderLaw
order_law language is t k = order language is t k
