-- Sums over terms and one of their places.
use Rattle.std.proofs.Common.{ℕ, zero, suc, ◌≤◌, ◌<◌, List, [], ◌∷◌, length, get_or, ℤ, arith, unsigned_abs}
use Rattle.proof_theory.specs.Forms.{total, size}
use Rattle.pb_terms.proofs.Combining.{none}

-- No place counts for more than all.
pub total_at : (f : ℕ × ℤ → ℕ) (ts : List (ℕ × ℤ)) (i : ℕ) → i < length ts → f (get_or ts i none) ≤ total f ts
total_at f [] i h = absurd (omega arith)
total_at f (t ∷ ts) zero h = omega arith
total_at f (t ∷ ts) (suc i) h = let k = total_at f ts i (omega arith) in omega arith

-- No coefficient is greater than the size.
pub size_at : (ts : List (ℕ × ℤ)) (i : ℕ) → i < length ts → unsigned_abs (get_or ts i none).1 ≤ size ts
size_at ts i h = total_at (λ t. unsigned_abs t.1) ts i h
