-- Which variables a claim of a solution has marked.
use Rattle.std.specs.Prelude.{◌≡◌, ℕ, ◌≤◌, Bool, true, false, cond, ◌==◌, List, [], ◌∷◌}

-- The numbers are at most n.
abbrev pub AreUpTo : ℕ → List ℕ → Type 0
AreUpTo n [] = Unit {0}
AreUpTo n (v ∷ vs) = (v ≤ n) × AreUpTo n vs

-- The variable was zero, and now it is one; or it was one.
abbrev pub Marks : Bool → (ℕ → Bool) → ℕ → (ℕ → Bool) → Type 0
Marks true a w b = (a w ≡ false) × ((v : ℕ) → b v ≡ cond (w == v) true (a v))
Marks false a w b = a w ≡ true
