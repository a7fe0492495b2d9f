-- Nogoods that are not watched, since a live one whose literals lie in theirs says all that they say.
use Rattle.std.specs.Prelude.{◌≡◌, ℕ, zero, suc, ◌+◌, ◌*◌, ◌<◌, ◌==◌, ◌&&◌, Bool, true, false, cond, List, [], ◌∷◌, ◌++◌, length, slice_index_or}
use Rattle.nogood_watch.specs.Nogoods.{Nogood, literal, nogood}

-- whether the literal is one of these
abbrev pub has_literal : List (ℕ × ℕ) → ℕ × ℕ → Bool
has_literal [] l = false
has_literal (x ∷ xs) l = cond ((x.0 == l.0) && (x.1 == l.1)) true (has_literal xs l)

-- whether each literal of the first list is one of the second
abbrev pub lies_in : List (ℕ × ℕ) → List (ℕ × ℕ) → Bool
lies_in [] ys = true
lies_in (x ∷ xs) ys = has_literal ys x && lies_in xs ys

-- whether nogood i is live
abbrev pub live_at : List Bool → ℕ → Bool
live_at live i = slice_index_or live i false

-- whether nogood j is live, and its literals lie in those of nogood i
abbrev pub covers : List Nogood → List Bool → ℕ → ℕ → Bool
covers nogoods live i j = live_at live j
    && lies_in (nogood nogoods j).literals (nogood nogoods i).literals

-- each nogood is live or has one that covers it
abbrev pub AreCovered : List Nogood → List Bool → Type 0
AreCovered nogoods live = (i : ℕ) → i < length nogoods → live_at live i ≡ false
    → (j : ℕ) × (j < length nogoods) × (covers nogoods live i j ≡ true)

-- another nogood covers nogood i
pub record IsOvertaken (nogoods : List Nogood) (live : List Bool) (i : ℕ) : Type 0 where
  pub by : ℕ
  pub within : by < length nogoods
  pub other : by ≡ i → ⊥
  pub covers_it : covers nogoods live i by ≡ true

-- the first number that passes, or n where none below n does
abbrev pub first_of : (ℕ → Bool) → ℕ → ℕ
first_of f zero = zero
first_of f (suc n) = cond (f zero) zero (suc (first_of (λ k. f (suc k)) n))

-- the nogood that is watched for nogood i: itself, or the first one that covers it
abbrev pub watched_for : List Nogood → List Bool → ℕ → ℕ
watched_for nogoods live i = cond (live_at live i) i (first_of (covers nogoods live i)
    (length nogoods))

-- the watches of the first n nogoods, each those of the nogood that is watched for it
abbrev pub seen : (ℕ → ℕ) → List (ℕ × ℕ) → ℕ → List (ℕ × ℕ)
seen at watches zero = []
seen at watches (suc n) = seen at watches n
    ++ literal watches (2 * at n) ∷ literal watches (2 * at n + 1) ∷ []
