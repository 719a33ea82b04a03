-- One record more, and all of them.
use Rattle.std.proofs.Common.{◌≡◌, ◌≢◌, ℕ, suc, ◌+◌, ◌<◌, true, false, inl, inr, List, [], ◌∷◌, ◌++◌, length, Some, None, Result, Ok, Err, refl, ap, subst, sym, ◌∙◌, arith, append_assoc, append-nil, length-append}
use Rattle.std.specs.Prelude.{map, ◌⊎◌, ◌^◌, MatchResult}
use Rattle.std.specs.List.{AllByRecursion}
use Rattle.cql_tenants.specs.declared.tenants.Tenant.{Tenant}
use Rattle.cql_tenants.specs.Tenants.{index_of}
use Rattle.cql_core.specs.declared.command.Command.{Command}
use Rattle.cql_core.specs.declared.reply.Step.{Step}
use Rattle.cql_core.specs.Machine.{State, step_of, reads, reply_to, state_after, Stepped, Says, Pinned}
use Rattle.cql_core.specs.ReplyModel.{no_memory, Refused as refused}
use Rattle.cql_core.specs.Law.{state_from}
use Rattle.cql_core.specs.Cql.{cql}
use Rattle.cql_core.specs.Steps.{stepped_of, Steps}
use Rattle.cql_journal.specs.Record.{Entry, Lacks, Fits, IsChain, record_line, record_lines}
use Rattle.cql_journal.specs.Recovery.{said_by, call_of, changes, is_change, is_read, AllChange, Changed, Told, Stands, Replays, Replayed, Misfits, counted, AreLines, Replaying, ReplaysLines, StopsInLines}
use Rattle.cql_journal.specs.declared.replaying.Unfit.{Unfit}
use Rattle.cql_journal.specs.declared.replaying.Unfit.TheVariants.{UnknownTenant, NoCommand, Refused, Unchanged, NoMemory}
use Rattle.cql_journal.proofs.Parsing.{lacks_behind, line_same, one_record, record_feedless}

reads_change : (s : Stepped) → is_change s ≡ true → changes (reads cql s) ≡ true
reads_change (Says told) h = h
reads_change (Pinned p) h = absurd cc

means : (table : List Tenant) (e : Entry) (tenant : ℕ) (command : Command) → index_of table e.tenant ≡ Some tenant → said_by e.line ≡ Some command → call_of table e ≡ Some (tenant, command)
unfolding call_of
means table e tenant command t u = rw (t, u) refl

changed : (old new : State) (tenant : ℕ) (command : Command) (step : Step) → Steps old tenant command step new → is_change (stepped_of step) ≡ true → Changed old tenant command new
unfolding Changed
changed old new tenant command step (inl well) h = (reads_change (step_of cql old tenant command) (subst (λ s. is_change s ≡ true) well.0 h), well.1)
changed old new tenant command step (inr none) h = absurd (let k : true ≡ false = sym h ∙ ap is_change none.0 in cc)

replays : (table : List Tenant) (old new : State) (e : Entry) (tenant : ℕ) (command : Command) → index_of table e.tenant ≡ Some tenant → said_by e.line ≡ Some command
    → Changed old tenant command new → Replays table old e new
replays table old new e tenant command t u h = record { call = (tenant, command); means = means table e tenant command t u; changed = h }

-- what tells that there was no memory is no other refusal, and nothing that is read
no_other : (told : Stepped) (e : Unfit) → told ≡ Says no_memory → Told told e → e ≡ NoMemory
no_other told (Refused refusal) is h = absurd (h.1 (let k : Says (refused refusal) ≡ Says no_memory = sym h.0 ∙ is in cc))
no_other told Unchanged is h = absurd (let k : true ≡ false = sym h ∙ ap is_read is in cc)
no_other told NoMemory is h = refl
no_other told UnknownTenant is h = absurd h
no_other told NoCommand is h = absurd h

stands : (old new : State) (tenant : ℕ) (command : Command) (step : Step) (e : Unfit) → Steps old tenant command step new → Told (stepped_of step) e → Stands old tenant command e
unfolding Stands
stands old new tenant command step e (inl well) h = subst (λ t. Told t e) well.0 h
stands old new tenant command step e (inr none) h = subst (Told (step_of cql old tenant command)) (sym (no_other (stepped_of step) e none.0 h)) tt

its_misfit : (table : List Tenant) (old : State) (e : Entry) (tenant : ℕ) (command : Command) (x : Unfit) → call_of table e ≡ Some (tenant, command) → Stands old tenant command x → Misfits table old e x
unfolding Stands
its_misfit table old e tenant command (Refused refusal) m h = ((tenant, command), m, h)
its_misfit table old e tenant command Unchanged m h = ((tenant, command), m, h)
its_misfit table old e tenant command NoMemory m h = tt
its_misfit table old e tenant command UnknownTenant m h = absurd h
its_misfit table old e tenant command NoCommand m h = absurd h

pub record_told : (table : List Tenant) (old new : State) (e : Entry) (tenant : ℕ) (command : Command) (step : Step) (r : Result (Unit {0}) Unfit) → index_of table e.tenant ≡ Some tenant → said_by e.line ≡ Some command → Steps old tenant command step new
    → MatchResult r (λ done. is_change (stepped_of step) ≡ true) (Told (stepped_of step)) → MatchResult r (λ done. Replays table old e new) (Misfits table old e)
record_told table old new e tenant command step (Ok u) t said s h = replays table old new e tenant command t said (changed old new tenant command step s h)
record_told table old new e tenant command step (Err x) t said s h = its_misfit table old e tenant command x (means table e tenant command t said) (stands old new tenant command step x s h)

pub no_call : (table : List Tenant) (old : State) (e : Entry) (x : Unfit) → (x ≡ NoMemory) ⊎ ((x ≡ NoCommand) × (said_by e.line ≡ None)) → Misfits table old e x
no_call table old e x (inl is) = subst (Misfits table old e) (sym is) tt
no_call table old e x (inr h) = subst (Misfits table old e) (sym h.0) h.1

-- ---- one more behind the others

map_more : {A B : Type 0} (f : A → B) (xs : List A) (y : A) → map f (xs ++ y ∷ []) ≡ map f xs ++ f y ∷ []
map_more f [] y = refl
map_more f (x ∷ xs) y = ap (λ t. f x ∷ t) (map_more f xs y)

calls_more : (table : List Tenant) (es : List Entry) (calls : List (ℕ × Command)) (e : Entry) (call : ℕ × Command) → map (call_of table) es ≡ map (λ c. Some c) calls → call_of table e ≡ Some call
    → map (call_of table) (es ++ e ∷ []) ≡ map (λ c. Some c) (calls ++ call ∷ [])
calls_more table es calls e call h m =
    map_more (call_of table) es e ∙ ap (λ t. t ++ call_of table e ∷ []) h ∙ ap (λ o. map (λ c. Some c) calls ++ o ∷ []) m ∙ sym (map_more (λ c. Some c) calls call)

change_more : (s : State) (calls : List (ℕ × Command)) (call : ℕ × Command) → AllChange s calls → changes (reply_to cql (state_from cql s calls) call.0 call.1) ≡ true → AllChange s (calls ++ call ∷ [])
change_more s [] call all h = (h, tt)
change_more s (c ∷ calls) call all h = (all.0, change_more (state_after cql s c.0 c.1) calls call all.1 h)

from_more : (s : State) (calls : List (ℕ × Command)) (call : ℕ × Command) → state_from cql s (calls ++ call ∷ []) ≡ state_after cql (state_from cql s calls) call.0 call.1
from_more s [] call = refl
from_more s (c ∷ calls) call = from_more (state_after cql s c.0 c.1) calls call

pub replayed_none : (table : List Tenant) (s : State) → Replayed table [] s s
replayed_none table s = record { calls = []; calls_are = refl; change = tt; state_is = refl }

pub replayed_more : (table : List Tenant) (entries : List Entry) (e : Entry) (old mid new : State) → Replayed table entries old mid → Replays table mid e new → Replayed table (entries ++ e ∷ []) old new
unfolding Changed
replayed_more table entries e old mid new r p = record {
  calls = r.calls ++ p.call ∷ [];
  calls_are = calls_more table entries r.calls e p.call r.calls_are p.means;
  change = change_more old r.calls p.call r.change (subst (λ s. changes (reply_to cql s p.call.0 p.call.1) ≡ true) r.state_is p.changed.0);
  state_is = p.changed.1 ∙ ap (λ s. state_after cql s p.call.0 p.call.1) r.state_is ∙ sym (from_more old r.calls p.call);
}

-- ---- the records of a batch

pub replaying_none : (table : List Tenant) (chain lines : List ℕ) (s : State) (count : ℕ) → count < 2 ^ 64 → AreLines chain lines → Replaying table chain lines lines s s count count
replaying_none table chain lines s count small are = record {
  done = [];
  left = are.entries;
  fit = are.fit;
  fit_left = are.fit;
  lines_are = are.lines_are;
  rest_is = are.lines_are;
  replayed = replayed_none table s;
  count_is = omega (arith, small);
}

-- the first record of those that are left is that of the first line
first_left : (chain line behind : List ℕ) (e : Entry) (left : List Entry) → IsChain chain → AllByRecursion Fits left → Fits e → Lacks 10 line → line ≡ record_line chain e → line ++ 10 ∷ behind ≡ record_lines chain left
    → (more : List Entry) × (left ≡ e ∷ more) × (behind ≡ record_lines chain more)
first_left chain line behind e [] c fits f lacks is same = absurd (let h : length line + suc (length behind) ≡ 0 = sym (length-append line (10 ∷ behind)) ∙ ap length same in omega (arith, h))
first_left chain line behind e (x ∷ more) c fits f lacks is same =
    let parts = line_same 10 line (record_line chain x) behind (record_lines chain more) lacks (record_feedless chain x c fits.0) same in
    (more, ap (λ y. y ∷ more) (one_record chain x e fits.0 f (sym parts.0 ∙ is)), parts.1)

regroup : (a : List Entry) (e : Entry) (more : List Entry) → a ++ e ∷ more ≡ (a ++ e ∷ []) ++ more
regroup a e more = sym (append_assoc a (e ∷ []) more)

pub replaying_more : (table : List Tenant) (chain lines rest line behind : List ℕ) (old mid new : State) (count counts next : ℕ) (e : Entry) → IsChain chain → Replaying table chain lines rest old mid count counts
    → next ≡ counted (counts + 1) → rest ≡ line ++ 10 ∷ behind → Lacks 10 line → line ≡ record_line chain e → Fits e → Replays table mid e new → Replaying table chain lines behind old new count next
replaying_more table chain lines rest line behind old mid new count counts next e c r n split lacks is f p =
    let found = first_left chain line behind e r.left c r.fit_left f lacks is (sym split ∙ r.rest_is) in
    let all : r.done ++ r.left ≡ (r.done ++ e ∷ []) ++ found.0 = ap (λ l. r.done ++ l) found.1 ∙ regroup r.done e found.0 in
    record {
      done = r.done ++ e ∷ [];
      left = found.0;
      fit = subst (AllByRecursion Fits) all r.fit;
      fit_left = (subst (AllByRecursion Fits) found.1 r.fit_left).1;
      lines_are = r.lines_are ∙ ap (record_lines chain) all;
      rest_is = found.2;
      replayed = replayed_more table r.done e old mid new r.replayed p;
      count_is = omega (arith, r.count_is, length-append r.done (e ∷ []));
    }

pub stops : (table : List Tenant) (chain lines rest line behind : List ℕ) (old mid : State) (count counts : ℕ) (e : Entry) (x : Unfit) → IsChain chain → Replaying table chain lines rest old mid count counts
    → rest ≡ line ++ 10 ∷ behind → Lacks 10 line → line ≡ record_line chain e → Fits e → Misfits table mid e x → StopsInLines table chain lines old count counts x
stops table chain lines rest line behind old mid count counts e x c r split lacks is f m =
    let found = first_left chain line behind e r.left c r.fit_left f lacks is (sym split ∙ r.rest_is) in
    let all : r.done ++ r.left ≡ r.done ++ e ∷ found.0 = ap (λ l. r.done ++ l) found.1 in
    record {
      before = r.done;
      entry = e;
      after = found.0;
      fit = subst (AllByRecursion Fits) all r.fit;
      lines_are = r.lines_are ∙ ap (record_lines chain) all;
      state = mid;
      replayed = r.replayed;
      misfits = m;
      at_is = r.count_is;
    }

none_left : (chain rest : List ℕ) (left : List Entry) → rest ≡ record_lines chain left → Lacks 10 rest → left ≡ []
none_left chain rest [] is lacks = refl
none_left chain rest (x ∷ left) is lacks = absurd ((lacks_behind 10 (record_line chain x) (10 ∷ record_lines chain left) (subst (Lacks 10) is lacks)).0 refl)

pub replayed_all : (table : List Tenant) (chain lines rest : List ℕ) (old new : State) (count counts : ℕ) → Replaying table chain lines rest old new count counts → Lacks 10 rest → ReplaysLines table chain lines old new count counts
replayed_all table chain lines rest old new count counts r lacks =
    let all : r.done ++ r.left ≡ r.done = ap (λ l. r.done ++ l) (none_left chain rest r.left r.rest_is lacks) ∙ append-nil r.done in
    record { entries = r.done; fit = subst (AllByRecursion Fits) all r.fit; lines_are = r.lines_are ∙ ap (record_lines chain) all; replayed = r.replayed; count_is = r.count_is }

-- each line there is is a record
pub no_other_line : (table : List Tenant) (chain lines rest line behind : List ℕ) (old new : State) (count counts : ℕ) → IsChain chain → Replaying table chain lines rest old new count counts
    → rest ≡ line ++ 10 ∷ behind → Lacks 10 line → ((e : Entry) → Fits e → line ≢ record_line chain e) → ReplaysLines table chain lines old new count counts
no_other_line table chain lines rest line behind old new count counts c r split lacks other = absurd (is_one r.left r.fit_left (sym split ∙ r.rest_is))
  where
    is_one : (left : List Entry) → AllByRecursion Fits left → line ++ 10 ∷ behind ≡ record_lines chain left → ⊥
    is_one [] fits same = let h : length line + suc (length behind) ≡ 0 = sym (length-append line (10 ∷ behind)) ∙ ap length same in absurd (omega (arith, h))
    is_one (x ∷ more) fits same = other x fits.0 (line_same 10 line (record_line chain x) behind (record_lines chain more) lacks (record_feedless chain x c fits.0) same).0
