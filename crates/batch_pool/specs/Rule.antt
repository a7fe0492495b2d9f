-- How the numbers of jobs are dealt: what a pass of their queue knows, and the rule that ties it to what the queue holds.

use Rattle.std.specs.Prelude.{◌≡◌, ℕ, ◌+◌, ◌^◌, ◌<◌, ◌≤◌, ◌==◌, List, [], ◌∷◌, ◌++◌, cond, nat_lt}
use Rattle.std.specs.List.{sum_by, count_by}
use mathlib.Core.Option.{some}
use lib.ListN.{get_elem?}
use Rattle.batch_pool.specs.declared.numbers.Hand.{Hand}

-- What a pass knows: its parts, how many numbers were pushed, and those that it took.
abbrev pub hand : ℕ → ℕ → List ℕ → Hand
hand parts pushed taken = record { parts = parts; pushed = pushed; taken = taken }

-- The parts of all passes together: one for each worker that may be asked for, and one for the caller.
abbrev pub all_parts : ℕ
all_parts = 2 ^ 32

-- How often x stands in the list.
abbrev pub times : ℕ → List ℕ → ℕ
times x xs = count_by (λ y. y == x) xs

-- Once where x is below n, and else not at all.
abbrev pub once_below : ℕ → ℕ → ℕ
once_below n x = cond (nat_lt x n) 1 0

-- A pass without parts has taken nothing. One with a part knows how many numbers were pushed.
pub record Knows (pushed : ℕ) (h : Hand) : Type 0 where
  pub idle : h.parts ≡ 0 → h.taken ≡ []
  pub counted : 0 < h.parts → h.pushed ≡ pushed

-- Each number below the count that was pushed stands once, in the queue or with one pass, and no other number does.
-- The passes have all parts together.
pub record IsDealt (items : List ℕ) (hands : List Hand) : Type 0 where
  pub pushed : ℕ
  pub once : (x : ℕ) → sum_by (λ h. times x h.taken) hands + times x items ≡ once_below pushed x
  pub whole : sum_by (λ h. h.parts) hands ≡ all_parts
  pub each : (i : ℕ) (h : Hand) → get_elem? hands i ≡ some h → Knows pushed h

-- One number more was pushed.
abbrev pub filled : Hand → Hand
filled v = hand v.parts (v.pushed + 1) v.taken

-- The pass took x, which is the number of a job and which it had not taken before.
pub record TookNext (v : Hand) (x : ℕ) (w : Hand) : Type 0 where
  pub below : x < v.pushed
  pub fresh : times x v.taken ≡ 0
  pub after : w ≡ hand v.parts v.pushed (v.taken ++ x ∷ [])

-- Two passes made one.
abbrev pub joined : Hand → Hand → Hand
joined v w = hand (v.parts + w.parts) v.pushed (v.taken ++ w.taken)

-- These are the numbers below n, each once.
abbrev pub AreBelow : ℕ → List ℕ → Type 0
AreBelow n xs = (x : ℕ) → times x xs ≡ once_below n x

-- No number stands twice.
abbrev pub AreOnce : List ℕ → Type 0
AreOnce xs = (x : ℕ) → times x xs ≤ 1

-- Where the pass has all parts, what it took and what the queue holds are the numbers that were pushed.
abbrev pub HoldsRest : Hand → List ℕ → Type 0
HoldsRest v items = v.parts ≡ all_parts → AreBelow v.pushed (v.taken ++ items)
