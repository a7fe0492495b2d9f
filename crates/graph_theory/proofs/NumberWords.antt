-- The numbers that words write.

use Rattle.std.specs.Prelude.{◌≡◌, ℕ, ◌+◌, ◌*◌, ◌^◌, ◌≤◌, ◌&&◌, nat_lt, Bool, if◌then◌else◌, List, [], ◌∷◌, None}
use Rattle.std.proofs.Common.{arith, tests}
use Rattle.std.specs.Char.{digit_value}
use Rattle.std.specs.Str.Parse.{digits_value, digits_value_after}
use Rattle.graph_theory.specs.Text.{number_of}

-- Digits make no number less.
pub digits_value_after-ge : (n : ℕ) (ds : List ℕ) → n ≤ digits_value_after 10 n ds
digits_value_after-ge n [] = omega arith
digits_value_after-ge n (d ∷ ds) = let h = digits_value_after-ge (n * 10 + digit_value d) ds in omega (arith, h)

-- The tests of a number, where the last fails.
wide_if : {A : Type 0} (a b : Bool) (v : ℕ) (x y : A) → 2 ^ 32 ≤ v → (if a && (b && nat_lt v (2 ^ 32)) then x else y) ≡ y
wide_if a b v x y h = grind (arith, tests)

-- Digits of a value that is too large are no number.
pub number_of-wide : (w : List ℕ) → 2 ^ 32 ≤ digits_value 10 w → number_of w ≡ None
number_of-wide w h = wide_if _ _ (digits_value 10 w) _ None h
