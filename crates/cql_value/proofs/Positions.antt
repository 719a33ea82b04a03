-- The index of the first that passes a test.
use Rattle.std.proofs.Common.{◌≡◌, suc, Bool, true, false, List, ◌∷◌, length, ltb, refl, arith}
use Rattle.std.specs.Prelude.{Some, option_map, if◌then◌else◌}
use Rattle.std.specs.List.{position, position_or_len}
use Rattle.std.proofs.lemmas.Bool.Decides.{nat_tests}

pub first : {X : Type 0} (p : X → Bool) (x : X) (xs : List X) → (b : Bool) → p x ≡ b → position p (x ∷ xs) ≡ (if b then Some 0 else option_map suc (position p xs))
first p x xs true is = grind (arith, nat_tests, is)
first p x xs false is = later (ltb (position_or_len p xs) (length xs)) refl
  where
    later : (c : Bool) → ltb (position_or_len p xs) (length xs) ≡ c → position p (x ∷ xs) ≡ option_map suc (position p xs)
    later true in_it = grind (arith, nat_tests, is, in_it)
    later false out = grind (arith, nat_tests, is, out)
