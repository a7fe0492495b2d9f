-- How many watches wait for their visit.
use Rattle.std.proofs.Common.{◌≡◌, ℕ, ◌+◌, ◌-◌, ◌*◌, ◌<◌, ◌≤◌, zero, suc, Bool, true, false, cond, eqb, not, ◌&&◌, List, length, get_or, refl, ap, ◌∙◌, arith}
use Rattle.std.proofs.lemmas.Bool.{lt-ltb}
use Rattle.graph_theory.specs.Neighbours.{count}
use Rattle.bit_rows.proofs.Passing.{count_same, count_split, count_le}
use Rattle.domain_bits.proofs.Sizes.{count_some}
use Rattle.nogood_watch.specs.Lists.{times, followed, Chained}
use Rattle.nogood_watch.specs.Nogoods.{partner}
use Rattle.nogood_watch.specs.Walking.{to_visit}
use Rattle.nogood_watch.proofs.Chains.{followed_is, chain_length, once_each}

-- one fewer passes
pub count_less : (f g : ℕ → Bool) (n x : ℕ) → x < n → f x ≡ true → g x ≡ false → ((i : ℕ) → g i ≡ true → f i ≡ true) → count g n + 1 ≤ count f n
count_less f g n x x-in fx gx implies =
    omega (
      arith,
      count_split f g n,
      count_some (λ i. f i && not (g i)) n x x-in (rw (fx, gx) refl),
      count_le g (λ i. f i && g i) n n (omega arith) (λ i h. rw (implies i h, h) refl),
    )

-- where no two partners pass, at most half do
pub half_count : (f : ℕ → Bool) (m : ℕ) → ((x : ℕ) → x < 2 * m → f x ≡ true → f (partner x) ≡ true → ⊥) → count f (2 * m) ≤ m
half_count f zero apart = omega arith
half_count f (suc m) apart =
    let e : 2 * suc m ≡ suc (suc (2 * m)) = omega arith in
    let p : partner (2 * m) ≡ suc (2 * m) = omega arith in
    rw e (omega (arith, one (f (suc (2 * m))) (f (2 * m)) (λ a b. apart (2 * m) (omega arith) b (ap f p ∙ a)), half_count f m (λ x h. apart x (omega arith))))
  where
    one : (a b : Bool) → (a ≡ true → b ≡ true → ⊥) → cond a 1 0 + cond b 1 0 ≤ 1
    one true true h = absurd (h refl refl)
    one true false h = omega arith
    one false true h = omega arith
    one false false h = omega arith

one-if : (b : Bool) → eqb (cond b 1 0) 1 ≡ b
one-if true = refl
one-if false = refl

-- the watches that are still to be visited are those in hand
pub visit_count : (home : ℕ → ℕ) (heads next : List ℕ) (hand : ℕ) → Chained home heads next → length heads ≡ hand + 1 → to_visit heads next ≡ count (λ x. eqb (home x) hand) (length next)
visit_count home heads next hand c long =
    count_same (λ y. eqb (times (followed (length next) next (get_or heads (length heads - 1) 0)) y) 1) (λ x. eqb (home x) hand) (length next) same
  where
    at : length heads - 1 ≡ hand
    at = omega arith

    h : hand < length heads
    h = omega arith

    list : followed (length next) next (get_or heads hand 0) ≡ c.lists hand
    list = followed_is (length next) next (get_or heads hand 0) (c.lists hand) c.few (c.chains hand h) (chain_length next (get_or heads hand 0) (c.lists hand) (c.chains hand h) (once_each home heads next hand c h))

    same : (y : ℕ) → y < length next → eqb (times (followed (length next) next (get_or heads (length heads - 1) 0)) y) 1 ≡ eqb (home y) hand
    same y l =
        let times-is : times (c.lists hand) y ≡ cond (eqb (home y) hand) 1 0 = c.once hand y h ∙ rw (lt-ltb y (length next) l) refl in
        ap (λ k. eqb (times (followed (length next) next (get_or heads k 0)) y) 1) at ∙ ap (λ k. eqb (times k y) 1) list ∙ ap (λ k. eqb k 1) times-is ∙ one-if (eqb (home y) hand)
