-- A list that was written in place of a vector's.

use Rattle.std.proofs.Common.{◌≡◌, ℕ, ◌++◌, List, length, take, ap, subst, ◌∙◌}
use Rattle.std.proofs.Math.Seq.{take-append_seam}

-- as long as the vector, it is all that the vector holds
pub written : {A : Type 0} (n : ℕ) (xs ys : List A) → length xs ≡ n → take n (xs ++ ys) ≡ xs
written n xs ys long = subst (λ (k : ℕ). take k (xs ++ ys) ≡ xs) long (take-append_seam xs ys)

-- elements that were written in place of a vector's are as many as they were
pub kept_long : {A : Type 0} (n m : ℕ) (xs ys : List A) → length xs ≡ n → n ≡ m → length (take n (xs ++ ys)) ≡ m
kept_long n m xs ys long is = ap length (written n xs ys long) ∙ (long ∙ is)
