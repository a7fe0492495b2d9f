-- How many fails a run can take, the cutoffs of the runs (after Luby, Sinclair, Zuckerman 1993), and which budget is enough.

use Rattle.std.specs.Prelude.{ℕ, ◌+◌, ◌-◌, ◌*◌, ◌^◌, ◌<◌, nat_lt, if◌then◌else◌, List, [], ◌∷◌, ◌++◌, slice_index}
use Rattle.std.proofs.Common.{zero, suc}

-- The number of paths of one to p vertices into t values: the sum of t ^ k for k from 1 to p.
abbrev pub most : ℕ → ℕ → ℕ
most zero t = 0
most (suc p) t = most p t + t ^ suc p

-- The first 2 ^ k - 1 terms of the Luby sequence: the shorter list twice, then the next power of two. (1, 1, 2, 1, 1, 2, 4, ..)
abbrev pub luby_list : ℕ → List ℕ
luby_list zero = []
luby_list (suc k) = (luby_list k ++ luby_list k) ++ 2 ^ k ∷ []

-- Term i of the Luby sequence, from 1.
abbrev pub luby : ℕ → ℕ
luby i = slice_index (luby_list i) (i - 1)

-- How many fails run i may take, from 1.
abbrev pub cutoff : ℕ → ℕ
cutoff i = 128 * luby i

-- The cutoffs of the runs from 1 to n - 1, together.
abbrev pub earlier : ℕ → ℕ
earlier zero = 0
earlier (suc n) = earlier n + cutoff n

-- The fails of the first 2 ^ (k + 1) - 1 runs, the last of which may take 128 * 2 ^ k.
abbrev pub fails_to : ℕ → ℕ
fails_to k = 128 * ((k + 1) * 2 ^ k)

-- Looks from k on, in so many steps, for the first run whose cutoff is above m.
abbrev pub enough_from : ℕ → ℕ → ℕ → ℕ
enough_from zero k m = fails_to k
enough_from (suc steps) k m = if nat_lt m (128 * 2 ^ k) then fails_to k else enough_from steps
    (k + 1) m

-- A budget that is never spent: the fails of the runs up to the first power of two whose run no search fills.
abbrev pub enough : ℕ → ℕ → ℕ
enough p t = enough_from (most p t) 0 (most p t)

-- The budget is below that of each power of two whose run no search fills, and so below the one that is enough.
abbrev pub BelowEnough : ℕ → ℕ → ℕ → Type 0
BelowEnough budget p t = (k : ℕ) → most p t < 128 * 2 ^ k → budget < fails_to k
