-- Lemmas on what is read of a plain line.
use Rattle.std.proofs.Common.{◌≡◌, ℕ, Bool, true, false, ◌&&◌, ◌||◌, List, [], ◌∷◌, ◌++◌, Option, Some, None, is_some, option_map, Vec, Global, Bor, Ordering, Less, Equal, Greater, is_eq, bytes_eq, refl, sym, ap, subst, ◌∙◌}
use Rattle.std.proofs.lemmas.Map.Text.{is_eq-slice_cmp}
use Rattle.std.specs.Cmp.Lexicographic.{slice_cmp}
use Rattle.std.specs.Ordering.{nat_cmp, match_ordering}
use Rattle.std.specs.Prelude.{codes, option_and_then, Result, Ok, Err, IfOk, OnOk}
use Rattle.std.specs.List.{list_any}
use Rattle.std.proofs.lemmas.Bool.{false≢true}
use Rattle.std.proofs.lemmas.Slice.Eq.{bytes_eq-Decides}
use Rattle.json.specs.Token.{Token}
use Rattle.json.specs.Json.{value, after_end_array}
use Rattle.json.proofs.Grammar.{value_is, closed_array}
use Rattle.serde_json.specs.Data.{Num, unsigned, Data, number, string, object, Items, item, Members, no_members, member, put}
use Rattle.serde_json.specs.Find.{get_member, as_array, as_str}
use Rattle.serde_json.specs.Read.{of_json, number_of, converted}
use Rattle.serde_json.proofs.Views.{get_member-put, get_member-put_other}
use Rattle.cql_value.specs.declared.value.Value.{Value}
use Rattle.cql_core.specs.declared.command.Command.{Command}
use Rattle.cql_core.specs.declared.command.Command.TheVariants as command
use Rattle.cql_asked.specs.declared.plain.NoCommand.{NoCommand}
use Rattle.cql_asked.specs.declared.plain.PlainLine.{PlainLine}
use Rattle.cql_asked.specs.declared.command.Verb.{Verb}
use Rattle.cql_asked.specs.declared.command.Verb.TheVariants as kinds
use Rattle.cql_lines.specs.Tree.{are_among, all_of, optional, text_at, whole_of, whole_at, optional_text, optional_whole}
use Rattle.cql_asked.specs.Command.{verb_of, keys_of, value_of, row_of, of_verb, of_data}
use Rattle.cql_asked.specs.Plain.{Reads, values_of, plain_keys, Holds, IsCall}
use Rattle.cql_lines.proofs.Keys.{are_among-put}

-- ---- single tokens

pub reads_string : (depth : ℕ) (before : List Token) (s : List ℕ) (after : List Token) → before ≡ Token.string s ∷ after → Reads depth before (string s) after
reads_string depth before s after is = ap (converted of_json) (ap (value depth) is ∙ value_is depth _)

pub reads_number : (depth : ℕ) (before : List Token) (s : List ℕ) (x : Num) (after : List Token) → before ≡ Token.number s ∷ after → number_of s ≡ Some x → Reads depth before (number x) after
reads_number depth before s x after is of = ap (converted of_json) (ap (value depth) is ∙ value_is depth _) ∙ rw of

-- no value begins with the bracket that closes a list
no_value : (depth : ℕ) (ts r : List Token) (d : Data) (end : Option (List Token)) → after_end_array ts ≡ end → Reads depth ts d r → end ≡ None
no_value depth ts r d None is read = refl
no_value depth ts r d (Some s) is read =
    let none : converted of_json (value depth ts) ≡ None = ap (λ t. converted of_json (value depth t)) (closed_array ts s is) ∙ ap (converted of_json) (value_is depth (Token.end_array ∷ s)) in
    absurd (false≢true (ap is_some (sym none ∙ read)))

pub going_on : (depth : ℕ) (ts r : List Token) (d : Data) → Reads depth ts d r → after_end_array ts ≡ None
going_on depth ts r d read = no_value depth ts r d (after_end_array ts) refl read

-- ---- lists

pub one_value_before : (d : Data) (ds : Items) (x : Value) (xs : List Value) → value_of d ≡ Some x → all_of value_of ds ≡ Some xs → all_of value_of (item d ds) ≡ Some (x ∷ xs)
one_value_before d ds x xs is rest = rw (is, rest)

-- ---- members that come one after another

other_key : (q k : List ℕ) → bytes_eq q k ≡ false → q ≡ k → ⊥
other_key q k other e = let clash : true ≡ false = sym ((bytes_eq-Decides q k).1 e) ∙ other in cc

kept : (q k : List ℕ) (d : Data) (ms : Members) → bytes_eq q k ≡ false → get_member q (put k d ms) ≡ get_member q ms
kept q k d ms other = get_member-put_other q k d ms (other_key q k other)

both : (a b : Bool) → a ≡ true → b ≡ true → (a && b) ≡ true
both a b e f = rw (e, f)

among : (k : List ℕ) (d : Data) (ms : Members) → list_any (λ key. bytes_eq key k) plain_keys ≡ true → are_among plain_keys ms ≡ true → are_among plain_keys (put k d ms) ≡ true
among k d ms known all = are_among-put plain_keys k d ms ∙ both _ _ known all

-- what the word of a command says
abbrev word_of : Option Data → Option Verb
word_of o = option_and_then verb_of (option_and_then as_str o)

module _ (p : PlainLine) (ms : Members) (h : Holds p ms) where
  pub holds_word : (s : List ℕ) (q : PlainLine) → q ≡ record { verb = verb_of s; tenant = p.tenant; stream = p.stream; name = p.name; at = p.at; to = p.to; until = p.until; row = p.row } → Holds q (put (codes "do") (string s) ms)
  holds_word s q e = rw e (record {
    word = ap word_of (get_member-put (codes "do") _ ms);
    tenant = kept (codes "tenant") (codes "do") _ ms refl ∙ h.tenant;
    stream = kept (codes "stream") (codes "do") _ ms refl ∙ h.stream;
    name = kept (codes "name") (codes "do") _ ms refl ∙ h.name;
    at = kept (codes "at") (codes "do") _ ms refl ∙ h.at;
    to = kept (codes "to") (codes "do") _ ms refl ∙ h.to;
    until = kept (codes "until") (codes "do") _ ms refl ∙ h.until;
    row = ap (option_map values_of) (kept (codes "row") (codes "do") _ ms refl) ∙ h.row;
    keys = among (codes "do") _ ms refl h.keys;
  })

  pub holds_tenant : (s : Bor (List ℕ)) (q : PlainLine) → q ≡ record { verb = p.verb; tenant = Some s; stream = p.stream; name = p.name; at = p.at; to = p.to; until = p.until; row = p.row } → Holds q (put (codes "tenant") (string s.now) ms)
  holds_tenant s q e = rw e (record {
    word = ap word_of (kept (codes "do") (codes "tenant") _ ms refl) ∙ h.word;
    tenant = get_member-put (codes "tenant") _ ms;
    stream = kept (codes "stream") (codes "tenant") _ ms refl ∙ h.stream;
    name = kept (codes "name") (codes "tenant") _ ms refl ∙ h.name;
    at = kept (codes "at") (codes "tenant") _ ms refl ∙ h.at;
    to = kept (codes "to") (codes "tenant") _ ms refl ∙ h.to;
    until = kept (codes "until") (codes "tenant") _ ms refl ∙ h.until;
    row = ap (option_map values_of) (kept (codes "row") (codes "tenant") _ ms refl) ∙ h.row;
    keys = among (codes "tenant") _ ms refl h.keys;
  })

  pub holds_stream : (s : Bor (List ℕ)) (q : PlainLine) → q ≡ record { verb = p.verb; tenant = p.tenant; stream = Some s; name = p.name; at = p.at; to = p.to; until = p.until; row = p.row } → Holds q (put (codes "stream") (string s.now) ms)
  holds_stream s q e = rw e (record {
    word = ap word_of (kept (codes "do") (codes "stream") _ ms refl) ∙ h.word;
    tenant = kept (codes "tenant") (codes "stream") _ ms refl ∙ h.tenant;
    stream = get_member-put (codes "stream") _ ms;
    name = kept (codes "name") (codes "stream") _ ms refl ∙ h.name;
    at = kept (codes "at") (codes "stream") _ ms refl ∙ h.at;
    to = kept (codes "to") (codes "stream") _ ms refl ∙ h.to;
    until = kept (codes "until") (codes "stream") _ ms refl ∙ h.until;
    row = ap (option_map values_of) (kept (codes "row") (codes "stream") _ ms refl) ∙ h.row;
    keys = among (codes "stream") _ ms refl h.keys;
  })

  pub holds_name : (s : Bor (List ℕ)) (q : PlainLine) → q ≡ record { verb = p.verb; tenant = p.tenant; stream = p.stream; name = Some s; at = p.at; to = p.to; until = p.until; row = p.row } → Holds q (put (codes "name") (string s.now) ms)
  holds_name s q e = rw e (record {
    word = ap word_of (kept (codes "do") (codes "name") _ ms refl) ∙ h.word;
    tenant = kept (codes "tenant") (codes "name") _ ms refl ∙ h.tenant;
    stream = kept (codes "stream") (codes "name") _ ms refl ∙ h.stream;
    name = get_member-put (codes "name") _ ms;
    at = kept (codes "at") (codes "name") _ ms refl ∙ h.at;
    to = kept (codes "to") (codes "name") _ ms refl ∙ h.to;
    until = kept (codes "until") (codes "name") _ ms refl ∙ h.until;
    row = ap (option_map values_of) (kept (codes "row") (codes "name") _ ms refl) ∙ h.row;
    keys = among (codes "name") _ ms refl h.keys;
  })

  pub holds_at : (n : ℕ) (q : PlainLine) → q ≡ record { verb = p.verb; tenant = p.tenant; stream = p.stream; name = p.name; at = Some n; to = p.to; until = p.until; row = p.row } → Holds q (put (codes "at") (number (unsigned n)) ms)
  holds_at n q e = rw e (record {
    word = ap word_of (kept (codes "do") (codes "at") _ ms refl) ∙ h.word;
    tenant = kept (codes "tenant") (codes "at") _ ms refl ∙ h.tenant;
    stream = kept (codes "stream") (codes "at") _ ms refl ∙ h.stream;
    name = kept (codes "name") (codes "at") _ ms refl ∙ h.name;
    at = get_member-put (codes "at") _ ms;
    to = kept (codes "to") (codes "at") _ ms refl ∙ h.to;
    until = kept (codes "until") (codes "at") _ ms refl ∙ h.until;
    row = ap (option_map values_of) (kept (codes "row") (codes "at") _ ms refl) ∙ h.row;
    keys = among (codes "at") _ ms refl h.keys;
  })

  pub holds_to : (n : ℕ) (q : PlainLine) → q ≡ record { verb = p.verb; tenant = p.tenant; stream = p.stream; name = p.name; at = p.at; to = Some n; until = p.until; row = p.row } → Holds q (put (codes "to") (number (unsigned n)) ms)
  holds_to n q e = rw e (record {
    word = ap word_of (kept (codes "do") (codes "to") _ ms refl) ∙ h.word;
    tenant = kept (codes "tenant") (codes "to") _ ms refl ∙ h.tenant;
    stream = kept (codes "stream") (codes "to") _ ms refl ∙ h.stream;
    name = kept (codes "name") (codes "to") _ ms refl ∙ h.name;
    at = kept (codes "at") (codes "to") _ ms refl ∙ h.at;
    to = get_member-put (codes "to") _ ms;
    until = kept (codes "until") (codes "to") _ ms refl ∙ h.until;
    row = ap (option_map values_of) (kept (codes "row") (codes "to") _ ms refl) ∙ h.row;
    keys = among (codes "to") _ ms refl h.keys;
  })

  pub holds_until : (n : ℕ) (q : PlainLine) → q ≡ record { verb = p.verb; tenant = p.tenant; stream = p.stream; name = p.name; at = p.at; to = p.to; until = Some n; row = p.row } → Holds q (put (codes "until") (number (unsigned n)) ms)
  holds_until n q e = rw e (record {
    word = ap word_of (kept (codes "do") (codes "until") _ ms refl) ∙ h.word;
    tenant = kept (codes "tenant") (codes "until") _ ms refl ∙ h.tenant;
    stream = kept (codes "stream") (codes "until") _ ms refl ∙ h.stream;
    name = kept (codes "name") (codes "until") _ ms refl ∙ h.name;
    at = kept (codes "at") (codes "until") _ ms refl ∙ h.at;
    to = kept (codes "to") (codes "until") _ ms refl ∙ h.to;
    until = get_member-put (codes "until") _ ms;
    row = ap (option_map values_of) (kept (codes "row") (codes "until") _ ms refl) ∙ h.row;
    keys = among (codes "until") _ ms refl h.keys;
  })

  pub holds_row : (d : Data) (v : Vec Value Global) (q : PlainLine) → values_of d ≡ Some v.items → q ≡ record { verb = p.verb; tenant = p.tenant; stream = p.stream; name = p.name; at = p.at; to = p.to; until = p.until; row = Some v } → Holds q (put (codes "row") d ms)
  holds_row d v q is e = rw e (record {
    word = ap word_of (kept (codes "do") (codes "row") _ ms refl) ∙ h.word;
    tenant = kept (codes "tenant") (codes "row") _ ms refl ∙ h.tenant;
    stream = kept (codes "stream") (codes "row") _ ms refl ∙ h.stream;
    name = kept (codes "name") (codes "row") _ ms refl ∙ h.name;
    at = kept (codes "at") (codes "row") _ ms refl ∙ h.at;
    to = kept (codes "to") (codes "row") _ ms refl ∙ h.to;
    until = kept (codes "until") (codes "row") _ ms refl ∙ h.until;
    row = ap (option_map values_of) (get_member-put (codes "row") _ ms) ∙ ap Some is;
    keys = among (codes "row") _ ms refl h.keys;
  })

-- ---- a key that isn't there

absent_at : (o : Ordering) (e : Data) (rest : Option Data) → match_ordering o rest (Some e) rest ≡ None → (rest ≡ None) × (is_eq o ≡ false)
absent_at Less e rest none = (none, refl)
absent_at Equal e rest none = absurd cc
absent_at Greater e rest none = (none, refl)

any_less : (p : List ℕ → Bool) (ks : List (List ℕ)) (k : List ℕ) (ls : List (List ℕ)) → p k ≡ false → list_any p (ks ++ k ∷ ls) ≡ list_any p (ks ++ ls)
any_less p [] k ls not = ap (λ b. b || list_any p ls) not
any_less p (x ∷ ks) k ls not = ap (λ b. p x || b) (any_less p ks k ls not)

-- needn't be told
among_less : (ks : List (List ℕ)) (k : List ℕ) (ls : List (List ℕ)) (ms : Members) → get_member k ms ≡ None → are_among (ks ++ k ∷ ls) ms ≡ are_among (ks ++ ls) ms
among_less ks k ls no_members none = refl
among_less ks k ls (member l e ms) none =
    let here = absent_at (slice_cmp nat_cmp k l) e (get_member k ms) none in
    ap (λ b. b && are_among (ks ++ k ∷ ls) ms) (any_less (λ key. bytes_eq key l) ks k ls (sym (is_eq-slice_cmp k l) ∙ here.1))
    ∙ ap (λ b. list_any (λ key. bytes_eq key l) (ks ++ ls) && b) (among_less ks k ls ms here.0)

no_row : (o : Option Data) → option_map values_of o ≡ None → o ≡ None
no_row None none = refl
no_row (Some d) none = absurd cc

row_read : (o : Option Data) (vs : List Value) → option_map values_of o ≡ Some (Some vs) → option_and_then (all_of value_of) (option_and_then as_array o) ≡ Some vs
row_read None vs is = absurd cc
row_read (Some d) vs is = cc

-- ---- what the members ask

tenant_read : (o : Option Data) (tenant : Option (Bor (List ℕ))) → o ≡ option_map (λ s. string s.now) tenant → optional as_str o ≡ Some (option_map (λ s. s.now) tenant)
tenant_read o None is = ap (optional as_str) is
tenant_read o (Some s) is = ap (optional as_str) is

until_read : (o : Option Data) (until : Option ℕ) → o ≡ option_map (λ n. number (unsigned n)) until → optional whole_of o ≡ Some until
until_read o None is = ap (optional whole_of) is
until_read o (Some n) is = ap (optional whole_of) is

asked : (verb : Verb) (line : PlainLine) (ms : Members) (command : Command) → Holds line ms → line.verb ≡ Some verb → are_among (keys_of verb) ms ≡ true → of_verb verb (object ms) ≡ Some command
    → of_data (Some (object ms)) ≡ Ok (option_map (λ s. s.now) line.tenant, command)
asked verb line ms command h is all of =
    let word : option_and_then verb_of (text_at (codes "do") (object ms)) ≡ Some verb = h.word ∙ is in
    let tenant : optional_text (codes "tenant") (object ms) ≡ Some (option_map (λ s. s.now) line.tenant) = tenant_read (get_member (codes "tenant") ms) line.tenant h.tenant in
    rw (word, all, tenant, of)

module _ (tenant : Option (Bor (List ℕ))) (ms : Members) where
  pub asked_put : (stream : Bor (List ℕ)) (at : ℕ) (row : Vec Value Global) (line : PlainLine) → line ≡ record { verb = Some kinds.Put; tenant = tenant; stream = Some stream; name = None; at = Some at; to = None; until = None; row = Some row } → Holds line ms → of_data (Some (object ms)) ≡ Ok (option_map (λ s. s.now) tenant, (command.Put stream.now at row.items))
  asked_put stream at row line is h =
      let h : Holds (record { verb = Some kinds.Put; tenant = tenant; stream = Some stream; name = None; at = Some at; to = None; until = None; row = Some row }) ms = subst (λ line. Holds line ms) is h in
      let all : are_among (keys_of kinds.Put) ms ≡ true = sym (among_less (codes "do" ∷ codes "tenant" ∷ codes "stream" ∷ codes "at" ∷ []) (codes "until") (codes "row" ∷ []) ms (h.until)) ∙ sym (among_less (codes "do" ∷ codes "tenant" ∷ codes "stream" ∷ codes "at" ∷ []) (codes "to") (codes "until" ∷ codes "row" ∷ []) ms (h.to)) ∙ sym (among_less (codes "do" ∷ codes "tenant" ∷ codes "stream" ∷ []) (codes "name") (codes "at" ∷ codes "to" ∷ codes "until" ∷ codes "row" ∷ []) ms (h.name)) ∙ h.keys in
      let read_stream : text_at (codes "stream") (object ms) ≡ Some stream.now = ap (option_and_then as_str) h.stream in
      let read_at : whole_at (codes "at") (object ms) ≡ Some at = ap (option_and_then whole_of) h.at in
      let read_row : row_of (object ms) ≡ Some row.items = row_read (get_member (codes "row") ms) row.items h.row in
      let said : of_verb kinds.Put (object ms) ≡ Some (command.Put stream.now at row.items) = rw (read_stream, read_at, read_row) in
      asked kinds.Put (record { verb = Some kinds.Put; tenant = tenant; stream = Some stream; name = None; at = Some at; to = None; until = None; row = Some row }) ms (command.Put stream.now at row.items) h refl all said

  pub asked_beat : (stream : Bor (List ℕ)) (at : ℕ) (line : PlainLine) → line ≡ record { verb = Some kinds.Beat; tenant = tenant; stream = Some stream; name = None; at = Some at; to = None; until = None; row = None } → Holds line ms → of_data (Some (object ms)) ≡ Ok (option_map (λ s. s.now) tenant, (command.Beat stream.now at))
  asked_beat stream at line is h =
      let h : Holds (record { verb = Some kinds.Beat; tenant = tenant; stream = Some stream; name = None; at = Some at; to = None; until = None; row = None }) ms = subst (λ line. Holds line ms) is h in
      let all : are_among (keys_of kinds.Beat) ms ≡ true = sym (among_less (codes "do" ∷ codes "tenant" ∷ codes "stream" ∷ codes "at" ∷ []) (codes "row") ([]) ms (no_row (get_member (codes "row") ms) h.row)) ∙ sym (among_less (codes "do" ∷ codes "tenant" ∷ codes "stream" ∷ codes "at" ∷ []) (codes "until") (codes "row" ∷ []) ms (h.until)) ∙ sym (among_less (codes "do" ∷ codes "tenant" ∷ codes "stream" ∷ codes "at" ∷ []) (codes "to") (codes "until" ∷ codes "row" ∷ []) ms (h.to)) ∙ sym (among_less (codes "do" ∷ codes "tenant" ∷ codes "stream" ∷ []) (codes "name") (codes "at" ∷ codes "to" ∷ codes "until" ∷ codes "row" ∷ []) ms (h.name)) ∙ h.keys in
      let read_stream : text_at (codes "stream") (object ms) ≡ Some stream.now = ap (option_and_then as_str) h.stream in
      let read_at : whole_at (codes "at") (object ms) ≡ Some at = ap (option_and_then whole_of) h.at in
      let said : of_verb kinds.Beat (object ms) ≡ Some (command.Beat stream.now at) = rw (read_stream, read_at) in
      asked kinds.Beat (record { verb = Some kinds.Beat; tenant = tenant; stream = Some stream; name = None; at = Some at; to = None; until = None; row = None }) ms (command.Beat stream.now at) h refl all said

  pub asked_fetch : (name : Bor (List ℕ)) (until : Option ℕ) (line : PlainLine) → line ≡ record { verb = Some kinds.Fetch; tenant = tenant; stream = None; name = Some name; at = None; to = None; until = until; row = None } → Holds line ms → of_data (Some (object ms)) ≡ Ok (option_map (λ s. s.now) tenant, (command.Fetch name.now until))
  asked_fetch name until line is h =
      let h : Holds (record { verb = Some kinds.Fetch; tenant = tenant; stream = None; name = Some name; at = None; to = None; until = until; row = None }) ms = subst (λ line. Holds line ms) is h in
      let all : are_among (keys_of kinds.Fetch) ms ≡ true = sym (among_less (codes "do" ∷ codes "tenant" ∷ codes "name" ∷ codes "until" ∷ []) (codes "row") ([]) ms (no_row (get_member (codes "row") ms) h.row)) ∙ sym (among_less (codes "do" ∷ codes "tenant" ∷ codes "name" ∷ []) (codes "to") (codes "until" ∷ codes "row" ∷ []) ms (h.to)) ∙ sym (among_less (codes "do" ∷ codes "tenant" ∷ codes "name" ∷ []) (codes "at") (codes "to" ∷ codes "until" ∷ codes "row" ∷ []) ms (h.at)) ∙ sym (among_less (codes "do" ∷ codes "tenant" ∷ []) (codes "stream") (codes "name" ∷ codes "at" ∷ codes "to" ∷ codes "until" ∷ codes "row" ∷ []) ms (h.stream)) ∙ h.keys in
      let read_name : text_at (codes "name") (object ms) ≡ Some name.now = ap (option_and_then as_str) h.name in
      let read_until : optional_whole (codes "until") (object ms) ≡ Some until = until_read (get_member (codes "until") ms) until h.until in
      let said : of_verb kinds.Fetch (object ms) ≡ Some (command.Fetch name.now until) = rw (read_name, read_until) in
      asked kinds.Fetch (record { verb = Some kinds.Fetch; tenant = tenant; stream = None; name = Some name; at = None; to = None; until = until; row = None }) ms (command.Fetch name.now until) h refl all said

  pub asked_ack : (name : Bor (List ℕ)) (to : ℕ) (line : PlainLine) → line ≡ record { verb = Some kinds.Ack; tenant = tenant; stream = None; name = Some name; at = None; to = Some to; until = None; row = None } → Holds line ms → of_data (Some (object ms)) ≡ Ok (option_map (λ s. s.now) tenant, (command.Ack name.now to))
  asked_ack name to line is h =
      let h : Holds (record { verb = Some kinds.Ack; tenant = tenant; stream = None; name = Some name; at = None; to = Some to; until = None; row = None }) ms = subst (λ line. Holds line ms) is h in
      let all : are_among (keys_of kinds.Ack) ms ≡ true = sym (among_less (codes "do" ∷ codes "tenant" ∷ codes "name" ∷ codes "to" ∷ []) (codes "row") ([]) ms (no_row (get_member (codes "row") ms) h.row)) ∙ sym (among_less (codes "do" ∷ codes "tenant" ∷ codes "name" ∷ codes "to" ∷ []) (codes "until") (codes "row" ∷ []) ms (h.until)) ∙ sym (among_less (codes "do" ∷ codes "tenant" ∷ codes "name" ∷ []) (codes "at") (codes "to" ∷ codes "until" ∷ codes "row" ∷ []) ms (h.at)) ∙ sym (among_less (codes "do" ∷ codes "tenant" ∷ []) (codes "stream") (codes "name" ∷ codes "at" ∷ codes "to" ∷ codes "until" ∷ codes "row" ∷ []) ms (h.stream)) ∙ h.keys in
      let read_name : text_at (codes "name") (object ms) ≡ Some name.now = ap (option_and_then as_str) h.name in
      let read_to : whole_at (codes "to") (object ms) ≡ Some to = ap (option_and_then whole_of) h.to in
      let said : of_verb kinds.Ack (object ms) ≡ Some (command.Ack name.now to) = rw (read_name, read_to) in
      asked kinds.Ack (record { verb = Some kinds.Ack; tenant = tenant; stream = None; name = Some name; at = None; to = Some to; until = None; row = None }) ms (command.Ack name.now to) h refl all said

  pub asked_drop : (name : Bor (List ℕ)) (line : PlainLine) → line ≡ record { verb = Some kinds.Drop; tenant = tenant; stream = None; name = Some name; at = None; to = None; until = None; row = None } → Holds line ms → of_data (Some (object ms)) ≡ Ok (option_map (λ s. s.now) tenant, (command.Drop name.now))
  asked_drop name line is h =
      let h : Holds (record { verb = Some kinds.Drop; tenant = tenant; stream = None; name = Some name; at = None; to = None; until = None; row = None }) ms = subst (λ line. Holds line ms) is h in
      let all : are_among (keys_of kinds.Drop) ms ≡ true = sym (among_less (codes "do" ∷ codes "tenant" ∷ codes "name" ∷ []) (codes "row") ([]) ms (no_row (get_member (codes "row") ms) h.row)) ∙ sym (among_less (codes "do" ∷ codes "tenant" ∷ codes "name" ∷ []) (codes "until") (codes "row" ∷ []) ms (h.until)) ∙ sym (among_less (codes "do" ∷ codes "tenant" ∷ codes "name" ∷ []) (codes "to") (codes "until" ∷ codes "row" ∷ []) ms (h.to)) ∙ sym (among_less (codes "do" ∷ codes "tenant" ∷ codes "name" ∷ []) (codes "at") (codes "to" ∷ codes "until" ∷ codes "row" ∷ []) ms (h.at)) ∙ sym (among_less (codes "do" ∷ codes "tenant" ∷ []) (codes "stream") (codes "name" ∷ codes "at" ∷ codes "to" ∷ codes "until" ∷ codes "row" ∷ []) ms (h.stream)) ∙ h.keys in
      let read_name : text_at (codes "name") (object ms) ≡ Some name.now = ap (option_and_then as_str) h.name in
      let said : of_verb kinds.Drop (object ms) ≡ Some (command.Drop name.now) = rw (read_name) in
      asked kinds.Drop (record { verb = Some kinds.Drop; tenant = tenant; stream = None; name = Some name; at = None; to = None; until = None; row = None }) ms (command.Drop name.now) h refl all said

  pub asked_list : (line : PlainLine) → line ≡ record { verb = Some kinds.List; tenant = tenant; stream = None; name = None; at = None; to = None; until = None; row = None } → Holds line ms → of_data (Some (object ms)) ≡ Ok (option_map (λ s. s.now) tenant, command.List)
  asked_list line is h =
      let h : Holds (record { verb = Some kinds.List; tenant = tenant; stream = None; name = None; at = None; to = None; until = None; row = None }) ms = subst (λ line. Holds line ms) is h in
      let all : are_among (keys_of kinds.List) ms ≡ true = sym (among_less (codes "do" ∷ codes "tenant" ∷ []) (codes "row") ([]) ms (no_row (get_member (codes "row") ms) h.row)) ∙ sym (among_less (codes "do" ∷ codes "tenant" ∷ []) (codes "until") (codes "row" ∷ []) ms (h.until)) ∙ sym (among_less (codes "do" ∷ codes "tenant" ∷ []) (codes "to") (codes "until" ∷ codes "row" ∷ []) ms (h.to)) ∙ sym (among_less (codes "do" ∷ codes "tenant" ∷ []) (codes "at") (codes "to" ∷ codes "until" ∷ codes "row" ∷ []) ms (h.at)) ∙ sym (among_less (codes "do" ∷ codes "tenant" ∷ []) (codes "name") (codes "at" ∷ codes "to" ∷ codes "until" ∷ codes "row" ∷ []) ms (h.name)) ∙ sym (among_less (codes "do" ∷ codes "tenant" ∷ []) (codes "stream") (codes "name" ∷ codes "at" ∷ codes "to" ∷ codes "until" ∷ codes "row" ∷ []) ms (h.stream)) ∙ h.keys in
      let said : of_verb kinds.List (object ms) ≡ Some command.List = refl in
      asked kinds.List (record { verb = Some kinds.List; tenant = tenant; stream = None; name = None; at = None; to = None; until = None; row = None }) ms command.List h refl all said

-- what the members of the whole text ask
pub called : (o : Option Data) (line : PlainLine) (ms : Members) (r : Result (Option (List ℕ) × Command) NoCommand) → o ≡ Some (object ms) → Holds line ms → IfOk r (IsCall line) → IfOk r (λ call. of_data o ≡ Ok call)
called o line ms (Ok call) is holds asked = ap of_data is ∙ asked ms holds
called o line ms (Err e) is holds asked = tt

-- ---- results

pub if_ok : {A E : Type 0} (r : Result A E) {P Q : A → Type 0} → ((x : A) → P x → Q x) → IfOk r P → IfOk r Q
if_ok (Ok x) step p = step x p
if_ok (Err e) step p = p

pub if_on : {A E : Type 0} (r : Result A E) {P Q : Type 0} → (P → Q) → OnOk r P → OnOk r Q
if_on (Ok x) step p = step p
if_on (Err e) step p = p
