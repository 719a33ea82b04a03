-- What stands at an index of a part of a list.
use Rattle.std.proofs.Common.{◌≡◌, ℕ, ◌+◌, ◌-◌, ◌<◌, ◌≤◌, List, length, map, take, drop, get_or, ap, subst, ◌∙◌, sym, arith}
use Rattle.std.specs.Prelude.{Some, option_map, slice_get}
use Rattle.std.proofs.lemmas.List.{get_or-take, get_or-drop, length-drop, length-take-le}
use Rattle.std.proofs.lemmas.Option.{slice_get-map, slice_get-get_or}

pub standing : {A B : Type 0} (f : A → B) (xs : List A) (from end index : ℕ) (d : A) → from ≤ index → index < end → end ≤ length xs
    → slice_get (map f (take (end - from) (drop from xs))) (index - from) ≡ Some (f (get_or xs index d))
standing {A} f xs from end index d low high within =
    let rest = drop from xs in
    let i = index - from in
    let left : length rest ≡ length xs - from = length-drop from xs in
    let long : length (take (end - from) rest) ≡ end - from = length-take-le (end - from) rest (subst (λ n. end - from ≤ n) (sym left) (omega (arith, low, high, within))) in
    let there : i < length (take (end - from) rest) = subst (λ n. i < n) (sym long) (omega (arith, low, high)) in
    let back : from + i ≡ index = omega (arith, low) in
    let read : get_or (take (end - from) rest) i d ≡ get_or xs index d = get_or-take (end - from) rest i d (omega (arith, low, high)) ∙ get_or-drop from xs i d ∙ ap (λ n. get_or xs n d) back in
    slice_get-map f (take (end - from) rest) i ∙ ap (option_map f) (slice_get-get_or (take (end - from) rest) i d there) ∙ ap (λ (x : A). Some (f x)) read
