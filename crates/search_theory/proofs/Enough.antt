-- The budget that is enough: the least power of two whose run no search fills, and why a spent budget is below it.

use Rattle.std.proofs.Common.{◌≡◌, ℕ, zero, suc, ◌+◌, ◌-◌, ◌*◌, ◌^◌, ◌<◌, ◌≤◌, nat_lt, if◌then◌else◌, refl, sym, ap, ◌∙◌, subst, ◌⊎◌, inl, inr, arith}
use Rattle.std.proofs.lemmas.Bool.{cases_lt}
use Rattle.std.proofs.lemmas.Nat.{pow_pos}
use Rattle.std.proofs.lemmas.Bool.Decides.{nat_tests}
use Rattle.search_theory.specs.Bounds.{most, cutoff, earlier, fails_to, enough_from, enough, BelowEnough}
use Rattle.search_theory.specs.Account.{Account}
use Rattle.search_theory.specs.Remaining.{Bounded}
use Rattle.search_theory.specs.Laws.{IsEnough, BoundLaws}
use Rattle.search_theory.proofs.Luby.{below_power, luby_power, luby_repeat, earlier_mono, sums}

-- no power up to the next one is above m, where none up to this one is
filled_more : (m k : ℕ) → ((j : ℕ) → j < k → 128 * 2 ^ j ≤ m) → 128 * 2 ^ k ≤ m → (j : ℕ) → j < k + 1 → 128 * 2 ^ j ≤ m
filled_more m k filled h j j_in = at (cases_lt j k)
  where
    at : (j < k) ⊎ (k ≤ j) → 128 * 2 ^ j ≤ m
    at (inl g) = filled j g
    at (inr g) = let e : k ≡ j = omega arith in subst (λ (i : ℕ). 128 * 2 ^ i ≤ m) e h

-- the search from k on finds the least one, where the steps suffice
found_from : (p t steps k : ℕ) → ((j : ℕ) → j < k → 128 * 2 ^ j ≤ most p t) → most p t < 128 * 2 ^ (k + steps) → IsEnough (enough_from steps k (most p t)) p t
found_from p t zero k filled unfilled =
    let e : k + 0 ≡ k = omega arith in
    record { k = k; unfilled = subst (λ (j : ℕ). most p t < 128 * 2 ^ j) e unfilled; least = filled; is = refl }
found_from p t (suc steps) k filled unfilled = by_case (cases_lt (most p t) (128 * 2 ^ k)) (λ f u. found_from p t steps (k + 1) f u)
  where
    by_case : (most p t < 128 * 2 ^ k) ⊎ (128 * 2 ^ k ≤ most p t)
        → (((j : ℕ) → j < k + 1 → 128 * 2 ^ j ≤ most p t) → most p t < 128 * 2 ^ (k + 1 + steps) → IsEnough (enough_from steps (k + 1) (most p t)) p t)
        → IsEnough (if nat_lt (most p t) (128 * 2 ^ k) then fails_to k else enough_from steps (k + 1) (most p t)) p t
    by_case (inl h) _ = record { k = k; unfilled = h; least = filled; is = if_below h }
      where
        if_below : most p t < 128 * 2 ^ k → (if nat_lt (most p t) (128 * 2 ^ k) then fails_to k else enough_from steps (k + 1) (most p t)) ≡ fails_to k
        if_below h = grind (arith, nat_tests)
    by_case (inr h) further =
        let e : k + suc steps ≡ k + 1 + steps = omega arith in
        let r : IsEnough (enough_from steps (k + 1) (most p t)) p t =
        further (filled_more (most p t) k filled h) (subst (λ (j : ℕ). most p t < 128 * 2 ^ j) e unfilled) in
        subst (λ (b : ℕ). IsEnough b p t) (sym (if_above h)) r
      where
        if_above : 128 * 2 ^ k ≤ most p t → (if nat_lt (most p t) (128 * 2 ^ k) then fails_to k else enough_from steps (k + 1) (most p t)) ≡ enough_from steps (k + 1) (most p t)
        if_above h = grind (arith, nat_tests)

-- the budget that is enough is that of the runs up to the least such power
pub enough_is : (p t : ℕ) → IsEnough (enough p t) p t
enough_is p t =
    let e : 0 + most p t ≡ most p t = omega arith in
    found_from p t (most p t) 0 (λ j j_in. absurd (omega arith)) (subst (λ (j : ℕ). most p t < 128 * 2 ^ j) (sym e) (omega (arith, below_power (most p t))))

-- what is below the budget of each such power is below it
pub below_enough : (budget p t : ℕ) → BelowEnough budget p t → budget < enough p t
below_enough budget p t below =
    let e = enough_is p t in
    subst (λ (b : ℕ). budget < b) (sym e.is) (below e.k e.unfilled)

pub bound_laws_hold : BoundLaws
bound_laws_hold = record { luby_power = luby_power; luby_repeat = luby_repeat; sums = sums; enough_is = enough_is; below = below_enough }

-- a budget that is spent within the bounds is below the one that is enough
pub spent_below : (a : Account) → Bounded a → a.all ≡ a.budget → BelowEnough a.budget a.pattern a.target
spent_below a bounded spent = λ k unfilled. at k unfilled (last_cutoff k) (cases_lt a.run (2 ^ suc k - 1)) (cases_lt (2 ^ suc k - 1) a.run)
  where
    last_cutoff : (k : ℕ) → cutoff (2 ^ suc k - 1) ≡ 128 * 2 ^ k
    last_cutoff k = ap (λ (x : ℕ). 128 * x) (luby_power k)

    to_last : (k : ℕ) → earlier (2 ^ suc k - 1) + cutoff (2 ^ suc k - 1) ≡ fails_to k
    to_last k = let e : 2 ^ suc k ≡ suc (2 ^ suc k - 1) = omega (arith, pow_pos (suc k)) in ap earlier (sym e) ∙ sums k

    at : (k : ℕ) → most a.pattern a.target < 128 * 2 ^ k → cutoff (2 ^ suc k - 1) ≡ 128 * 2 ^ k
        → (a.run < 2 ^ suc k - 1) ⊎ (2 ^ suc k - 1 ≤ a.run) → (2 ^ suc k - 1 < a.run) ⊎ (a.run ≤ 2 ^ suc k - 1) → a.budget < fails_to k
    at k unfilled last (inl h) _ =
        let mono : earlier (suc a.run) ≤ earlier (2 ^ suc k - 1) = earlier_mono (suc a.run) (2 ^ suc k - 1) (omega arith) in
        omega (arith, to_last k, mono, last, pow_pos k, bounded.cut, bounded.total)
    at k unfilled last (inr h) (inl g) = absurd (omega (arith, bounded.runs (2 ^ suc k - 1) g, last))
    at k unfilled last (inr h) (inr g) =
        let e : a.run ≡ 2 ^ suc k - 1 = omega arith in
        let same : earlier a.run ≡ earlier (2 ^ suc k - 1) = ap earlier e in
        omega (arith, to_last k, same, last, bounded.within, bounded.total)
