-- Exchanges keep a list of distinct vertices.

use Rattle.std.proofs.Common.{◌≡◌, ℕ, zero, suc, ◌+◌, ◌-◌, ◌%◌, ◌<◌, ◌≤◌, List, [], ◌∷◌, ◌++◌, length, get_or, take, Vec, Global, Result, Ok, Err, IfOk, refl, sym, ap, subst, ◌∙◌, ◌⊎◌, inl, inr, add-one, arith}
use Rattle.std.specs.List.{range_with_len, swap}
use Rattle.std.proofs.lemmas.Bool.{cases_eq}
use Rattle.std.proofs.lemmas.List.{get_or-take, length-take-le}
use Rattle.std.proofs.lemmas.List.Edits.{swapped_from_swap, Swapped, length-swap}
use Rattle.std.proofs.lemmas.List.FromFn.{get_or-range_with_len, length-range_with_len}
use Rattle.demo_instances.specs.Stream.{word}
use Rattle.demo_instances.specs.SeedProblems.{exchanged, chosen}
use Rattle.demo_instances.specs.Shapes.{AreDistinct}

-- 150 distinct vertices below 150.
pub record IsOrder (m : List ℕ) : Type 0 where
  pub many : length m ≡ 150
  pub values : (p : ℕ) → p < 150 → get_or m p 0 < 150
  pub distinct : AreDistinct 150 m

-- where the number at a place stood before
from : (a b k : ℕ) → (k ≡ a) ⊎ (k ≡ a → ⊥) → (k ≡ b) ⊎ (k ≡ b → ⊥) → ℕ
from a b k (inl e) other = b
from a b k (inr n) (inl e) = a
from a b k (inr n) (inr m) = k

came : ℕ → ℕ → ℕ → ℕ
came a b k = from a b k (cases_eq k a) (cases_eq k b)

came_from : (m s : List ℕ) (a b : ℕ) → Swapped (λ i. get_or m i 0) (λ i. get_or s i 0) a b → (k : ℕ) → get_or s k 0 ≡ get_or m (came a b k) 0
unfolding came from
came_from m s a b swapped k = by (cases_eq k a) (cases_eq k b)
  where
    by : (x : (k ≡ a) ⊎ (k ≡ a → ⊥)) (y : (k ≡ b) ⊎ (k ≡ b → ⊥)) → get_or s k 0 ≡ get_or m (from a b k x y) 0
    by (inl e) y = ap (λ (i : ℕ). get_or s i 0) e ∙ swapped.0
    by (inr n) (inl e) = ap (λ (i : ℕ). get_or s i 0) e ∙ swapped.1
    by (inr n) (inr o) = swapped.2 k n o

came_in : (a b k : ℕ) → a < 150 → b < 150 → k < 150 → came a b k < 150
unfolding came from
came_in a b k a_in b_in k_in = by (cases_eq k a) (cases_eq k b)
  where
    by : (x : (k ≡ a) ⊎ (k ≡ a → ⊥)) (y : (k ≡ b) ⊎ (k ≡ b → ⊥)) → from a b k x y < 150
    by (inl e) y = b_in
    by (inr n) (inl e) = a_in
    by (inr n) (inr o) = k_in

came_one : (a b k l : ℕ) → came a b k ≡ came a b l → k ≡ l
unfolding came from
came_one a b k l = by (cases_eq k a) (cases_eq k b) (cases_eq l a) (cases_eq l b)
  where
    by : (x : (k ≡ a) ⊎ (k ≡ a → ⊥)) (y : (k ≡ b) ⊎ (k ≡ b → ⊥)) (z : (l ≡ a) ⊎ (l ≡ a → ⊥)) (w : (l ≡ b) ⊎ (l ≡ b → ⊥)) → from a b k x y ≡ from a b l z w → k ≡ l
    by (inl e) y (inl f) w h = e ∙ sym f
    by (inl e) y (inr n) (inl f) h = e ∙ sym h ∙ sym f
    by (inl e) y (inr n) (inr o) h = absurd (o (sym h))
    by (inr n) (inl e) (inl f) w h = e ∙ sym h ∙ sym f
    by (inr n) (inl e) (inr o) (inl f) h = e ∙ sym f
    by (inr n) (inl e) (inr o) (inr p) h = absurd (o (sym h))
    by (inr n) (inr o) (inl f) w h = absurd (o h)
    by (inr n) (inr o) (inr p) (inl f) h = absurd (n h)
    by (inr n) (inr o) (inr p) (inr r) h = h

-- an exchange of two
order-swap : (m : List ℕ) (a b : ℕ) → a < 150 → b < 150 → IsOrder m → IsOrder (swap m a b)
order-swap m a b a_in b_in h =
    let s : Swapped (λ i. get_or m i 0) (λ i. get_or (swap m a b) i 0) a b = swapped_from_swap m (swap m a b) a b 0 (subst (λ (n : ℕ). a < n) (sym h.many) a_in) (subst (λ (n : ℕ). b < n) (sym h.many) b_in) refl in
    record {
      many = length-swap m a b ∙ h.many;
      values = λ p p_in. subst (λ (v : ℕ). v < 150) (sym (came_from m (swap m a b) a b s p)) (h.values (came a b p) (came_in a b p a_in b_in p_in));
      distinct = λ p r p_in r_in e. came_one a b p r
          (h.distinct (came a b p) (came a b r) (came_in a b p a_in b_in p_in) (came_in a b r a_in b_in r_in)
          (sym (came_from m (swap m a b) a b s p) ∙ e ∙ came_from m (swap m a b) a b s r));
    }

-- the vertices in order
order-range : IsOrder (range_with_len 0 150)
order-range = record {
  many = length-range_with_len 0 150;
  values = λ p p_in. let e = get_or-range_with_len 0 150 p 0 p_in in omega (arith, e);
  distinct = λ p r p_in r_in e. let f = get_or-range_with_len 0 150 p 0 p_in in let g = get_or-range_with_len 0 150 r 0 r_in in omega (arith, e, f, g);
}

-- after so many exchanges
pub order-exchanged : (seed i : ℕ) → i ≤ 10 → IsOrder (exchanged seed i)
unfolding exchanged
order-exchanged seed zero h = order-range
order-exchanged seed (suc i) h =
    let place : i + word seed (11175 + i) % (150 - i) < 150 = omega arith in
    order-swap (exchanged seed i) i (i + word seed (11175 + i) % (150 - i)) (omega arith) place (order-exchanged seed i (omega arith))

-- The chosen vertices are ten, of the target, and distinct.
pub chosen-many : (seed : ℕ) → length (chosen seed) ≡ 10
unfolding chosen
chosen-many seed = let h = order-exchanged seed 10 (omega arith) in length-take-le 10 (exchanged seed 10) (omega (arith, h.many))

pub chosen-values : (seed p : ℕ) → p < 10 → get_or (chosen seed) p 0 < 150
unfolding chosen
chosen-values seed p p_in =
    let h = order-exchanged seed 10 (omega arith) in
    subst (λ (v : ℕ). v < 150) (sym (get_or-take 10 (exchanged seed 10) p 0 p_in)) (h.values p (omega arith))

pub chosen-distinct : (seed : ℕ) → AreDistinct 10 (chosen seed)
unfolding chosen
chosen-distinct seed p r p_in r_in e =
    let h = order-exchanged seed 10 (omega arith) in
    h.distinct p r (omega arith) (omega arith) (sym (get_or-take 10 (exchanged seed 10) p 0 p_in) ∙ e ∙ get_or-take 10 (exchanged seed 10) r 0 r_in)

-- One exchange more, and the first ten.
pub exchanged-none : (seed : ℕ) → exchanged seed 0 ≡ range_with_len 0 150
unfolding exchanged
exchanged-none seed = refl

pub exchanged-more : (seed i : ℕ) → exchanged seed (i + 1) ≡ swap (exchanged seed i) i (i + word seed (11175 + i) % (150 - i))
unfolding exchanged
exchanged-more seed i = ap (exchanged seed) (add-one i)

pub chosen-is : (seed : ℕ) (m : List ℕ) → m ≡ exchanged seed 10 → take 10 m ≡ chosen seed
unfolding chosen
chosen-is seed m is = ap (take 10) is

pub chosen-ok : {E : Type 0} (r : Result (Vec ℕ Global) E) (seed : ℕ) (m : List ℕ) → m ≡ exchanged seed 10 → IfOk r (λ (v : Vec ℕ Global). v.items ≡ take 10 m)
    → IfOk r (λ (v : Vec ℕ Global). v.items ≡ chosen seed)
chosen-ok (Ok v) seed m is items = items ∙ chosen-is seed m is
chosen-ok (Err e) seed m is items = tt

range-suc : (a n : ℕ) → range_with_len a (suc n) ≡ range_with_len a n ++ (a + n) ∷ []
range-suc a zero = ap (λ (k : ℕ). k ∷ []) (let e : a ≡ a + 0 = omega arith in e)
range-suc a (suc n) = ap (λ (t : List ℕ). a ∷ t) (range-suc (a + 1) n ∙ ap (λ (k : ℕ). range_with_len (a + 1) n ++ k ∷ []) (let e : a + 1 + n ≡ a + suc n = omega arith in e))

-- One vertex more in order.
pub range-more : (n : ℕ) (xs ys : List ℕ) → xs ≡ range_with_len 0 n → ys ≡ xs ++ n ∷ [] → ys ≡ range_with_len 0 (n + 1)
range-more n xs ys is grows =
    grows ∙ ap (λ (t : List ℕ). t ++ n ∷ []) is ∙ ap (λ (k : ℕ). range_with_len 0 n ++ k ∷ []) (let e : n ≡ 0 + n = omega arith in e)
    ∙ sym (range-suc 0 n) ∙ ap (range_with_len 0) (sym (add-one n))
