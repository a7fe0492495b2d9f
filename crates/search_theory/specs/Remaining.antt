-- What is left of a run, and how far an account is from its end.

use Rattle.std.specs.Prelude.{◌≡◌, ℕ, ◌+◌, ◌-◌, ◌*◌, ◌<◌, ◌≤◌, ◌==◌, if◌then◌else◌, List, [], ◌∷◌, length}
use Rattle.std.proofs.Common.{zero, suc}
use Rattle.search_theory.specs.Bounds.{most, cutoff, earlier}
use Rattle.search_theory.specs.Account.{Step, Account}

-- At most so many fails are left below these levels and the values us of the level after them, k vertices counting from the first of these levels on.
abbrev pub left : ℕ → ℕ → List Step → List ℕ → ℕ
left t zero ss us = 0
left t (suc k) [] us = (t - length us) * (1 + most k t)
left t (suc k) (s ∷ ss) us = (t - length s.refuted - 1) * (1 + most k t) + 1 + left t k ss us

-- How many fails are left of the account's run.
abbrev pub left_of : Account → ℕ
left_of a = left a.target a.pattern a.steps a.refuted

-- What the counts of an account never pass: the paths there are, the run's cutoff, the budget.
pub record Bounded (a : Account) : Type 0 where
  pub within : a.count + left_of a ≤ most a.pattern a.target
  pub cut : a.count ≤ cutoff a.run
  pub total : a.all ≡ earlier a.run + a.count
  pub begun : 1 ≤ a.run
  pub runs : (i : ℕ) → i < a.run → cutoff i ≤ most a.pattern a.target
  pub spending : a.all ≤ a.budget

-- One where a restart is due.
abbrev pub waits : Account → ℕ
waits a = if a.count == cutoff a.run then 1 else 0

-- By the fails that are left of the budget, then by whether a restart is due, then by what is left of the run, then by the levels that are left.
abbrev pub remaining : Account → ℕ
remaining a = ((2 * (a.budget - a.all) + waits a) * (most a.pattern a.target + 1) + left_of a) *
    (a.pattern + 1) + (a.pattern - length a.steps)
