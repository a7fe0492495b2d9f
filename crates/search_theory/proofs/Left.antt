-- What is left of a run: how a guess, a fail and a restart change it, and that the counts stay within their bounds.

use Rattle.std.proofs.Common.{◌≡◌, ℕ, zero, suc, ◌+◌, ◌-◌, ◌*◌, ◌^◌, ◌<◌, ◌≤◌, ◌==◌, Bool, true, false, nat_lt, ◌&&◌, if◌then◌else◌, List, [], ◌∷◌, ◌++◌, length, refl, sym, ap, ◌∙◌, subst, ◌⊎◌, inl, inr, arith, length-append}
use Rattle.std.proofs.lemmas.Bool.Decides.{nat_tests}
use Rattle.std.proofs.lemmas.Bool.{cases_lt}
use Rattle.std.proofs.Math.Nat.{pow-suc, pow-zero}
use Rattle.search_theory.specs.Bounds.{most, luby, cutoff, earlier}
use Rattle.search_theory.specs.Account.{Step, Account, inserted, fresh, deepened, counts, failed, restarted}
use Rattle.search_theory.specs.Remaining.{left, left_of, Bounded, waits, remaining}
use Rattle.search_theory.proofs.Luby.{luby_pos, earlier_least}

horner_step : (t m w : ℕ) → t * (1 + m) + w * t ≡ t * (1 + (m + w))
horner_step t m w = grind arith

-- the paths by their first value
pub most-suc : (k t : ℕ) → most (suc k) t ≡ t * (1 + most k t)
most-suc zero t = let e : t ^ 0 ≡ 1 = pow-zero t in omega (arith, rw e at (pow-suc t 0))
most-suc (suc k) t = omega (arith, most-suc k t, pow-suc t (suc k), horner_step t (most k t) (t ^ suc k))

-- one value more
pub length-inserted : (t : ℕ) (us : List ℕ) → length (inserted t us) ≡ length us + 1
length-inserted t [] = refl
length-inserted t (u ∷ us) = by_test (nat_lt t u) (length-inserted t us)
  where
    by_test : (b : Bool) → length (inserted t us) ≡ length us + 1 → length (if b then t ∷ u ∷ us else u ∷ inserted t us) ≡ length (u ∷ us) + 1
    by_test true _ = omega arith
    by_test false e = omega arith

-- an empty level has all paths left
pub left_open : (t k : ℕ) → left t k [] [] ≡ most k t
left_open t zero = refl
left_open t (suc k) = let e : t - 0 ≡ t = omega arith in ap (λ (x : ℕ). x * (1 + most k t)) e ∙ sym (most-suc k t)

one_taken : (t r m : ℕ) → r < t → (t - r - 1) * (1 + m) + 1 + m ≡ (t - r) * (1 + m)
one_taken t r m h = let e : t - r ≡ t - r - 1 + 1 = omega arith in of_suc (t - r - 1) (t - r) e
  where
    of_suc : (a b : ℕ) → b ≡ a + 1 → a * (1 + m) + 1 + m ≡ b * (1 + m)
    of_suc a b e = rw e (grind arith)

-- a guess leaves as much as there was
pub left_push : (t k : ℕ) (ss : List Step) (s : Step) → length ss < k → length s.refuted < t → left t k (ss ++ s ∷ []) [] ≡ left t k ss s.refuted
left_push t zero ss s few untried = absurd (omega arith)
left_push t (suc k) [] s few untried = omega (arith, left_open t k, one_taken t (length s.refuted) (most k t) untried)
left_push t (suc k) (r ∷ rs) s few untried = ap (λ (x : ℕ). (t - length r.refuted - 1) * (1 + most k t) + 1 + x) (left_push t k rs s (omega arith) untried)

-- a fail leaves less
pub left_pop : (t k : ℕ) (ss : List Step) (s : Step) (us : List ℕ) → length ss < k → left t k ss (inserted s.value s.refuted) + 1 ≤ left t k (ss ++ s ∷ []) us
left_pop t zero ss s us few = absurd (omega arith)
left_pop t (suc k) [] s us few =
    let e : t - length (inserted s.value s.refuted) ≡ t - length s.refuted - 1 = omega (arith, length-inserted s.value s.refuted) in
    let same : (t - length (inserted s.value s.refuted)) * (1 + most k t) ≡ (t - length s.refuted - 1) * (1 + most k t) = ap (λ (x : ℕ). x * (1 + most k t)) e in
    omega arith
left_pop t (suc k) (r ∷ rs) s us few = omega (arith, left_pop t k rs s us (omega arith))

-- ---- the bounds

pub bounded_fresh : (p t b : ℕ) → Bounded (fresh p t b)
bounded_fresh p t b = record {
  within = omega (arith, left_open t p);
  cut = omega arith;
  total = refl;
  begun = omega arith;
  runs = λ i i_in. at_zero i (omega arith);
  spending = omega arith;
}
  where
    at_zero : (i : ℕ) → i ≡ 0 → cutoff i ≤ most p t
    at_zero i e = subst (λ (x : ℕ). cutoff x ≤ most p t) (sym e) (omega arith)

pub bounded_deepened : (a : Account) (p t : ℕ) → Bounded a → length a.steps < a.pattern → length a.refuted < a.target → Bounded (deepened a p t)
bounded_deepened a p t bounded few untried = record {
  within = omega (arith, bounded.within, left_push a.target a.pattern a.steps (record { vertex = p; value = t; refuted = a.refuted }) few untried);
  cut = bounded.cut;
  total = bounded.total;
  begun = bounded.begun;
  runs = bounded.runs;
  spending = bounded.spending;
}

-- what the counts become where neither stands at its bound, and where one does
pub data CountedAs (count all cut budget : ℕ) (b : Bool) : Type 0 where
  Up : b ≡ true → count < cut → all < budget → CountedAs count all cut budget b
  Same : b ≡ false → CountedAs count all cut budget b

pub counted_as : (count all cut budget : ℕ) → CountedAs count all cut budget (nat_lt count cut && nat_lt all budget)
counted_as count all cut budget = by_cases (cases_lt count cut) (cases_lt all budget)
  where
    by_cases : (count < cut) ⊎ (cut ≤ count) → (all < budget) ⊎ (budget ≤ all) → CountedAs count all cut budget (nat_lt count cut && nat_lt all budget)
    by_cases (inl h) (inl g) = Up (grind (arith, nat_tests)) h g
    by_cases (inl h) (inr g) = Same (grind (arith, nat_tests))
    by_cases (inr h) _ = Same (grind (arith, nat_tests))

-- the numbers of a fail: at most one more fail, within its bounds, and less of the run left
pub record Fails (old new : Account) : Type 0 where
  pub less : left_of new + 1 ≤ left_of old
  pub counted : ((new.count ≡ old.count + 1) × (new.all ≡ old.all + 1) × (old.count < cutoff old.run) × (old.all < old.budget))
      ⊎ ((new.count ≡ old.count) × (new.all ≡ old.all))

pub fails_of : (old : Account) (above : List Step) (last : Step) → old.steps ≡ above ++ last ∷ [] → length old.steps ≤ old.pattern → Fails old (failed old above last)
fails_of old above last is few = record {
  less =
      let shorter : length above < old.pattern = omega (arith, ap length is, length-append above (last ∷ [])) in
      let pop : left old.target old.pattern above (inserted last.value last.refuted) + 1 ≤ left old.target old.pattern (above ++ last ∷ []) old.refuted =
      left_pop old.target old.pattern above last old.refuted shorter in
      subst (λ (ss : List Step). left old.target old.pattern above (inserted last.value last.refuted) + 1 ≤ left old.target old.pattern ss old.refuted) (sym is) pop;
  counted = by_case (counts old) (counted_as old.count old.all (cutoff old.run) old.budget);
}
  where
    by_case : (b : Bool) → CountedAs old.count old.all (cutoff old.run) old.budget b
        → (((if b then old.count + 1 else old.count) ≡ old.count + 1) × ((if b then old.all + 1 else old.all) ≡ old.all + 1) × (old.count < cutoff old.run) × (old.all < old.budget))
        ⊎ (((if b then old.count + 1 else old.count) ≡ old.count) × ((if b then old.all + 1 else old.all) ≡ old.all))
    by_case true (Up e h g) = inl (refl, refl, h, g)
    by_case true (Same e) = absurd (cc)
    by_case false (Up e h g) = absurd (cc)
    by_case false (Same e) = inr (refl, refl)

pub bounded_failed : (old : Account) (above : List Step) (last : Step) → Bounded old → Fails old (failed old above last) → Bounded (failed old above last)
bounded_failed old above last bounded fails = by_case fails.counted
  where
    new : Account
    new = failed old above last

    by_case : ((new.count ≡ old.count + 1) × (new.all ≡ old.all + 1) × (old.count < cutoff old.run) × (old.all < old.budget)) ⊎ ((new.count ≡ old.count) × (new.all ≡ old.all)) → Bounded new
    by_case (inl h) = record {
      within = omega (arith, bounded.within, fails.less, h.0);
      cut = omega (arith, h.0, h.2);
      total = omega (arith, bounded.total, h.0, h.1);
      begun = bounded.begun;
      runs = bounded.runs;
      spending = omega (arith, h.1, h.3);
    }
    by_case (inr h) = record {
      within = omega (arith, bounded.within, fails.less, h.0);
      cut = omega (arith, bounded.cut, h.0);
      total = omega (arith, bounded.total, h.0, h.1);
      begun = bounded.begun;
      runs = bounded.runs;
      spending = omega (arith, bounded.spending, h.1);
    }

pub bounded_restarted : (a : Account) → Bounded a → a.count ≡ cutoff a.run → Bounded (restarted a)
bounded_restarted a bounded due = record {
  within = omega (arith, left_open a.target a.pattern);
  cut = omega arith;
  total = let e : earlier (a.run + 1) ≡ earlier a.run + cutoff a.run = next a.run (a.run + 1) (omega arith) in omega (arith, bounded.total);
  begun = omega arith;
  runs = λ i i_in. at i (cases_lt i a.run) i_in;
  spending = bounded.spending;
}
  where
    next : (n m : ℕ) → m ≡ suc n → earlier m ≡ earlier n + cutoff n
    next n m e = ap earlier e

    at : (i : ℕ) → (i < a.run) ⊎ (a.run ≤ i) → i < a.run + 1 → cutoff i ≤ most a.pattern a.target
    at i (inl h) _ = bounded.runs i h
    at i (inr h) g = let e : a.run ≡ i = omega arith in subst (λ (x : ℕ). cutoff x ≤ most a.pattern a.target) e (omega (arith, bounded.within))

-- a run that is due to end leaves the number of the next one small
pub run_small : (a : Account) → Bounded a → a.count ≡ cutoff a.run → 128 * a.run ≤ a.all
run_small a bounded due = omega (arith, bounded.total, due, earlier_least a.run)

-- ---- the way to the end

-- a lesser first digit, with the lower ones within their bases
first_less : (m p a b l k d e : ℕ) → a < b → l ≤ m → d ≤ p → (a * (m + 1) + l) * (p + 1) + d < (b * (m + 1) + k) * (p + 1) + e
first_less m p a b l k d e ab lm dp =
    let one : a * (m + 1) + l < b * (m + 1) + k = omega (arith, step (m + 1) a b ab) in
    omega (arith, step (p + 1) (a * (m + 1) + l) (b * (m + 1) + k) one)
  where
    step : (w x y : ℕ) → x < y → x * w + w ≤ y * w
    step w x y h = let z : y ≡ suc x + (y - suc x) = omega arith in rw z (grind arith)

-- an equal first digit and a lesser second one
second_less : (p x l k d e : ℕ) → l < k → d ≤ p → (x + l) * (p + 1) + d < (x + k) * (p + 1) + e
second_less p x l k d e lk dp = omega (arith, step (p + 1) (x + l) (x + k) (omega arith))
  where
    step : (w y z : ℕ) → y < z → y * w + w ≤ z * w
    step w y z h = let u : z ≡ suc y + (z - suc y) = omega arith in rw u (grind arith)

-- equal digits, and a lesser last one
last_less : (p x l k d e : ℕ) → l ≡ k → d < e → (x + l) * (p + 1) + d < (x + k) * (p + 1) + e
last_less p x l k d e same h = rw same (omega arith)

-- one or none
waits_few : (n m : ℕ) → (if n == m then 1 else 0) ≤ 1
waits_few n m = by_test (n == m)
  where
    by_test : (b : Bool) → (if b then 1 else 0) ≤ 1
    by_test true = omega arith
    by_test false = omega arith

waits_where : (n m : ℕ) → n ≡ m → 1 ≤ (if n == m then 1 else 0)
waits_where n m h = grind (arith, nat_tests)

no_wait : (m : ℕ) → 1 ≤ m → (if 0 == m then 1 else 0) ≤ 0
no_wait m h = grind (arith, nat_tests)

-- a guess leads nearer to the end
pub remaining_deepened : (a : Account) (p t : ℕ) → length a.steps < a.pattern → length a.refuted < a.target → remaining (deepened a p t) < remaining a
remaining_deepened a p t few untried =
    let s : Step = record { vertex = p; value = t; refuted = a.refuted } in
    last_less a.pattern ((2 * (a.budget - a.all) + waits a) * (most a.pattern a.target + 1))
    (left a.target a.pattern (a.steps ++ s ∷ []) []) (left_of a) (a.pattern - length (a.steps ++ s ∷ [])) (a.pattern - length a.steps)
    (left_push a.target a.pattern a.steps s few untried) (omega (arith, length-append a.steps (s ∷ [])))

-- so does a fail
pub remaining_failed : (old : Account) (above : List Step) (last : Step) → Bounded (failed old above last) → Fails old (failed old above last)
    → remaining (failed old above last) < remaining old
remaining_failed old above last bounded fails = by_case fails.counted
  where
    new : Account
    new = failed old above last

    by_case : ((new.count ≡ old.count + 1) × (new.all ≡ old.all + 1) × (old.count < cutoff old.run) × (old.all < old.budget)) ⊎ ((new.count ≡ old.count) × (new.all ≡ old.all))
        → remaining new < remaining old
    by_case (inl h) =
        first_less (most old.pattern old.target) old.pattern (2 * (old.budget - new.all) + waits new) (2 * (old.budget - old.all) + waits old)
        (left_of new) (left_of old) (old.pattern - length above) (old.pattern - length old.steps)
        (omega (arith, h.1, h.3, waits_few new.count (cutoff old.run))) (omega (arith, bounded.within)) (omega arith)
    by_case (inr h) =
        let waits_same : waits new ≡ waits old = ap (λ (n : ℕ). if n == cutoff old.run then 1 else 0) h.0 in
        let first : (2 * (old.budget - new.all) + waits new) * (most old.pattern old.target + 1) ≡ (2 * (old.budget - old.all) + waits old) * (most old.pattern old.target + 1) =
        ap (λ (x : ℕ). x * (most old.pattern old.target + 1)) (omega (arith, h.1, waits_same)) in
        let less : ((2 * (old.budget - old.all) + waits old) * (most old.pattern old.target + 1) + left_of new) * (old.pattern + 1) + (old.pattern - length above) < remaining old =
        second_less old.pattern ((2 * (old.budget - old.all) + waits old) * (most old.pattern old.target + 1))
        (left_of new) (left_of old) (old.pattern - length above) (old.pattern - length old.steps) (omega (arith, fails.less)) (omega arith) in
        subst (λ (x : ℕ). (x + left_of new) * (old.pattern + 1) + (old.pattern - length above) < remaining old) (sym first) less

-- and a restart
pub remaining_restarted : (a : Account) → a.count ≡ cutoff a.run → remaining (restarted a) < remaining a
remaining_restarted a due =
    let pos : 1 ≤ luby (a.run + 1) = luby_pos (a.run + 1) (omega arith) in
    first_less (most a.pattern a.target) a.pattern (2 * (a.budget - a.all) + waits (restarted a)) (2 * (a.budget - a.all) + waits a)
    (left_of (restarted a)) (left_of a) (a.pattern - 0) (a.pattern - length a.steps)
    (omega (arith, waits_where a.count (cutoff a.run) due, no_wait (cutoff (a.run + 1)) (omega arith)))
    (omega (arith, left_open a.target a.pattern)) (omega arith)
