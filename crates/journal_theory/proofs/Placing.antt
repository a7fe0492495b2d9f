-- Lists by place, as they grow at their end.
use Rattle.std.proofs.Common.{◌⊎◌, inl, inr, ◌≡◌, ℕ, zero, suc, ◌+◌, ◌<◌, ◌≤◌, List, [], ◌∷◌, ◌++◌, length, take, drop, Option, Some, refl, sym, ap, ◌∙◌, arith}
use Rattle.std.specs.Prelude.{slice_get}
use Rattle.log_theory.specs.Tables.{from_one, standing, undeleted}
use Rattle.proof_theory.specs.Forms.{Form}

module _ {A : Type 0} where
  -- what stands at a place stands there in a longer list
  pub get_more : (xs ys : List A) (k : ℕ) (x : A) → slice_get xs k ≡ Some x → slice_get (xs ++ ys) k ≡ Some x
  get_more [] ys k x e = cc
  get_more (y ∷ xs) ys zero x e = e
  get_more (y ∷ xs) ys (suc k) x e = get_more xs ys k x e

  -- below the seam a longer list is the shorter one
  pub get_front : (xs ys : List A) (k : ℕ) → k < length xs → slice_get (xs ++ ys) k ≡ slice_get xs k
  get_front [] ys k h = absurd (omega arith)
  get_front (y ∷ xs) ys zero h = refl
  get_front (y ∷ xs) ys (suc k) h = get_front xs ys k (omega arith)

  -- what stands in one more is there before, or is the last
  pub get_snoc : (xs : List A) (y x : A) (k : ℕ) → slice_get (xs ++ y ∷ []) k ≡ Some x → ((k < length xs) × (slice_get xs k ≡ Some x)) ⊎ ((k ≡ length xs) × (x ≡ y))
  get_snoc [] y x zero e = inr (refl, cc)
  get_snoc [] y x (suc k) e = cc
  get_snoc (z ∷ xs) y x zero e = inl (omega arith, e)
  get_snoc (z ∷ xs) y x (suc k) e = elim (get_snoc xs y x k e) [ inl h ↦ inl (omega (arith, h.0), h.1) | inr h ↦ inr (omega (arith, h.0), h.1) ]

  -- the first items of a longer list
  pub take_front : (xs ys : List A) (k : ℕ) → k ≤ length xs → take k (xs ++ ys) ≡ take k xs
  take_front xs ys zero h = refl
  take_front [] ys (suc k) h = absurd (omega arith)
  take_front (x ∷ xs) ys (suc k) h = ap (λ zs. x ∷ zs) (take_front xs ys k (omega arith))

  pub take_all : (xs : List A) (k : ℕ) → length xs ≤ k → take k xs ≡ xs
  take_all [] zero h = refl
  take_all [] (suc k) h = refl
  take_all (x ∷ xs) zero h = absurd (omega arith)
  take_all (x ∷ xs) (suc k) h = ap (λ zs. x ∷ zs) (take_all xs k (omega arith))

  pub some_same : (x y : A) → Some x ≡ Some y → x ≡ y
  some_same x y e = cc

-- a number that is used stays used as forms follow
pub from_one_more : (fs gs : List Form) (n : ℕ) (f : Form) → from_one fs n ≡ Some f → from_one (fs ++ gs) n ≡ Some f
from_one_more fs gs zero f e = absurd cc
from_one_more fs gs (suc k) f e = get_more fs gs k f e

pub from_one_within : (fs : List Form) (n : ℕ) (f : Form) → from_one fs n ≡ Some f → n ≤ length fs
from_one_within fs zero f e = omega arith
from_one_within (g ∷ fs) (suc zero) f e = omega arith
from_one_within (g ∷ fs) (suc (suc k)) f e = let l = from_one_within fs (suc k) f e in omega (arith, l)
from_one_within [] (suc k) f e = absurd cc

-- where nothing is deleted each place has its form
pub undeleted_at : (fs : List Form) (n : ℕ) → standing (from_one (undeleted fs) n) ≡ from_one fs n
undeleted_at fs zero = refl
undeleted_at [] (suc k) = refl
undeleted_at (f ∷ fs) (suc zero) = refl
undeleted_at (f ∷ fs) (suc (suc k)) = undeleted_at fs (suc k)

pub undeleted_snoc : (fs : List Form) (f : Form) → undeleted fs ++ Some f ∷ [] ≡ undeleted (fs ++ f ∷ [])
undeleted_snoc [] f = refl
undeleted_snoc (g ∷ fs) f = ap (λ (os : List (Option Form)). Some g ∷ os) (undeleted_snoc fs f)

pub length-undeleted : (fs : List Form) → length (undeleted fs) ≡ length fs
length-undeleted [] = refl
length-undeleted (f ∷ fs) = ap suc (length-undeleted fs)

-- parts of a list
module _ {A : Type 0} where
  pub get_drop : (a : ℕ) (xs : List A) (i : ℕ) → slice_get (drop a xs) i ≡ slice_get xs (a + i)
  get_drop zero xs i = let e : 0 + i ≡ i = omega arith in ap (slice_get xs) (sym e)
  get_drop (suc a) [] i = refl
  get_drop (suc a) (x ∷ xs) i = let e : suc a + i ≡ suc (a + i) = omega arith in get_drop a xs i ∙ ap (slice_get (x ∷ xs)) (sym e)

  pub get_take : (b : ℕ) (xs : List A) (i : ℕ) (x : A) → slice_get (take b xs) i ≡ Some x → (i < b) × (slice_get xs i ≡ Some x)
  get_take zero xs i x e = absurd cc
  get_take (suc b) [] i x e = absurd cc
  get_take (suc b) (y ∷ xs) zero x e = (omega arith, e)
  get_take (suc b) (y ∷ xs) (suc i) x e = let h = get_take b xs i x e in (let l : i < b = h.0 in omega (arith, l), h.1)

  -- the first items and the next one
  pub take_next : (xs : List A) (k : ℕ) (x : A) → slice_get xs k ≡ Some x → take (k + 1) xs ≡ take k xs ++ x ∷ []
  take_next xs k x e = let s : k + 1 ≡ suc k = omega arith in ap (λ n. take n xs) s ∙ by xs k x e
    where
      by : (xs : List A) (k : ℕ) (x : A) → slice_get xs k ≡ Some x → take (suc k) xs ≡ take k xs ++ x ∷ []
      by [] k x e = absurd cc
      by (y ∷ xs) zero x e = ap (λ z. z ∷ []) (some_same y x e)
      by (y ∷ xs) (suc k) x e = ap (λ zs. y ∷ zs) (by xs k x e)

  pub take_get : (b : ℕ) (xs : List A) (i : ℕ) (x : A) → i < b → slice_get xs i ≡ Some x → slice_get (take b xs) i ≡ Some x
  take_get zero xs i x l e = absurd (omega arith)
  take_get (suc b) [] i x l e = absurd cc
  take_get (suc b) (y ∷ xs) zero x l e = e
  take_get (suc b) (y ∷ xs) (suc i) x l e = take_get b xs i x (omega arith) e

  pub get_some : (xs : List A) (k : ℕ) → k < length xs → (x : A) × (slice_get xs k ≡ Some x)
  get_some [] k h = absurd (omega arith)
  get_some (y ∷ xs) zero h = (y, refl)
  get_some (y ∷ xs) (suc k) h = get_some xs k (omega arith)
