-- Lemmas on the keys of an object.
use Rattle.std.proofs.Common.{◌≡◌, ℕ, Bool, true, false, ◌&&◌, ◌||◌, List, [], ◌∷◌, map, Bor, Ordering, Less, Equal, Greater, is_eq, string_bytes, bytes_eq, refl, sym, ap, ◌∙◌}
use Rattle.std.proofs.lemmas.Slice.Eq.{bytes_eq-Decides}
use Rattle.std.proofs.lemmas.Map.Text.{is_eq-slice_cmp}
use Rattle.std.specs.Cmp.Lexicographic.{slice_cmp}
use Rattle.std.specs.List.{list_any}
use Rattle.std.specs.Ordering.{nat_cmp, match_ordering}
use Rattle.serde_json.specs.Data.{Data, Members, no_members, member, put}
use Rattle.serde_json.specs.View.{members_view as map_view}
use Rattle.serde_json.proofs.Views.{Entry as MapEntry}
use Rattle.cql_lines.specs.Tree.{are_among}
use Rattle.cql_lines.specs.View.{view, with_members, members_view}
use Rattle.cql_lines.proofs.Growing.{Entry}

list_any-map : (p : List ℕ → Bool) (keys : List (Bor (List ℕ))) → list_any p (map (λ k. k.now) keys) ≡ list_any (λ k. p k.now) keys
list_any-map p [] = refl
list_any-map p (k ∷ keys) = ap (λ b. p k.now || b) (list_any-map p keys)

-- one member of a map less
pub are_among_more : (keys : List (Bor (List ℕ))) (members rest : List MapEntry) (e : MapEntry) (found all : Bool) → members ≡ e ∷ rest
    → found ≡ list_any (λ known. bytes_eq known.now (string_bytes e.0)) keys → are_among (map (λ k. k.now) keys) (map_view members) ≡ all
    → (found && are_among (map (λ k. k.now) keys) (map_view rest)) ≡ all
are_among_more keys members rest e found all is f h =
    ap (λ b. b && are_among (map (λ k. k.now) keys) (map_view rest)) (f ∙ sym (list_any-map (λ key. bytes_eq key (string_bytes e.0)) keys))
    ∙ sym (ap (λ ms. are_among (map (λ k. k.now) keys) (map_view ms)) is) ∙ h

-- each of the entries has one of these keys
abbrev pub all_known : List (Bor (List ℕ)) → List Entry → Bool
all_known keys [] = true
all_known keys (e ∷ es) = list_any (λ known. bytes_eq known.now e.0.now) keys && all_known keys es

twice : (b c : Bool) → (b && c) ≡ (b && (b && c))
twice true c = refl
twice false c = refl

swapped : (a b c : Bool) → (a && (b && c)) ≡ (b && (a && c))
swapped true b c = refl
swapped false true c = refl
swapped false false c = refl

are_among-put_at : (keys : List (List ℕ)) (o : Ordering) (k l : List ℕ) (d e : Data) (ms : Members) → slice_cmp nat_cmp k l ≡ o
    → are_among keys (put k d ms) ≡ (list_any (λ key. bytes_eq key k) keys && are_among keys ms)
    → are_among keys (match_ordering o (member k d (member l e ms)) (member l d ms) (member l e (put k d ms))) ≡ (list_any (λ key. bytes_eq key k) keys && are_among keys (member l e ms))
are_among-put_at keys Less k l d e ms is later = refl
are_among-put_at keys Equal k l d e ms is later =
    let same : k ≡ l = (bytes_eq-Decides k l).0 (sym (is_eq-slice_cmp k l) ∙ ap is_eq is) in
    twice (list_any (λ key. bytes_eq key l) keys) (are_among keys ms) ∙ ap (λ n. list_any (λ key. bytes_eq key n) keys && are_among keys (member l e ms)) (sym same)
are_among-put_at keys Greater k l d e ms is later =
    ap (λ b. list_any (λ key. bytes_eq key l) keys && b) later ∙ swapped (list_any (λ key. bytes_eq key l) keys) (list_any (λ key. bytes_eq key k) keys) (are_among keys ms)

pub are_among-put : (keys : List (List ℕ)) (k : List ℕ) (d : Data) (ms : Members) → are_among keys (put k d ms) ≡ (list_any (λ key. bytes_eq key k) keys && are_among keys ms)
are_among-put keys k d no_members = refl
are_among-put keys k d (member l e ms) = are_among-put_at keys (slice_cmp nat_cmp k l) k l d e ms refl (are_among-put keys k d ms)

joined : (a b c : Bool) → (a && (b && c)) ≡ ((b && a) && c)
joined true true c = refl
joined true false c = refl
joined false true c = refl
joined false false c = refl

are_among-with : (keys : List (Bor (List ℕ))) (es : List Entry) (found : Members)
    → are_among (map (λ k. k.now) keys) (with_members (map (λ e. (e.0, view e.1)) es) found) ≡ (all_known keys es && are_among (map (λ k. k.now) keys) found)
are_among-with keys [] found = refl
are_among-with keys (e ∷ es) found =
    are_among-with keys es (put e.0.now (view e.1) found)
    ∙ ap (λ b. all_known keys es && b) (are_among-put (map (λ k. k.now) keys) e.0.now (view e.1) found ∙ ap (λ b. b && are_among (map (λ k. k.now) keys) found) (list_any-map (λ key. bytes_eq key e.0.now) keys))
    ∙ joined (all_known keys es) (list_any (λ known. bytes_eq known.now e.0.now) keys) (are_among (map (λ k. k.now) keys) found)

and_true : (b : Bool) → (b && true) ≡ b
and_true true = refl
and_true false = refl

-- it is left to the entries, in any order
pub are_among_all_known : (keys : List (Bor (List ℕ))) (es : List Entry) → are_among (map (λ k. k.now) keys) (members_view es) ≡ all_known keys es
are_among_all_known keys es = are_among-with keys es no_members ∙ and_true (all_known keys es)
