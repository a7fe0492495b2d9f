-- Numbers of owners, all below the next one.
use Rattle.std.proofs.Common.{ℕ, ◌+◌, ◌<◌, List, [], ◌∷◌, arith, inl, inr}
use Rattle.nogood_book.specs.Views.{HasNumber}
use Rattle.parallel_solve.specs.Teaming.{AreBelow}

-- what is below a number is below the next
pub below_next : (xs : List ℕ) (n : ℕ) → AreBelow xs n → AreBelow xs (n + 1)
below_next [] n h = tt
below_next (x ∷ xs) n h = (let l : x < n = h.0 in omega (arith, l), below_next xs n h.1)

-- and it is not there
pub not_below : (xs : List ℕ) (n : ℕ) → AreBelow xs n → HasNumber n xs → ⊥
not_below [] n h has = has
not_below (x ∷ xs) n h (inl same) = let l : x < n = h.0 in omega (arith, l, same)
not_below (x ∷ xs) n h (inr later) = not_below xs n h.1 later
