-- What a binary search in a rising list tells.

use Rattle.std.proofs.Common.{◌≡◌, ℕ, ◌≤◌, ◌<◌, List, length, get_or, slice_get, Option, Some, Result, Ok, Err, MatchResult, IfNone, arith, inl, inr, ◌⊎◌}
use Rattle.std.specs.Result.{result_ok}
use Rattle.std.proofs.lemmas.Bool.{cases_lt}
use Rattle.std.proofs.lemmas.Option.{slice_get_within, get_or_from_slice_get}

-- where nothing was found, the number stands nowhere
pub none_found : (xs : List ℕ) (x : ℕ) (r : Result ℕ ℕ) (o : Option ℕ) → o ≡ result_ok r
    → MatchResult r (λ i. (i < length xs) × (get_or xs i 0 ≡ x)) (λ i. (i ≤ length xs) × ((k : ℕ) → k < i → get_or xs k 0 < x) × ((k : ℕ) → i ≤ k → k < length xs → x < get_or xs k 0))
    → IfNone o ((k : ℕ) → slice_get xs k ≡ Some x → ⊥)
none_found xs x (Ok i) o e m = rw e tt
none_found xs x (Err i) o e m = rw e (λ k h.
    let inside : k < length xs = slice_get_within xs k x h in
    let at : get_or xs k 0 ≡ x = get_or_from_slice_get xs k x 0 h in
    by-cases k inside at (cases_lt k i))
  where
    by-cases : (k : ℕ) → k < length xs → get_or xs k 0 ≡ x → (k < i) ⊎ (i ≤ k) → ⊥
    by-cases k inside at (inl low) = let l = m.1 k low in omega arith
    by-cases k inside at (inr high) = let l = m.2 k high inside in omega arith
