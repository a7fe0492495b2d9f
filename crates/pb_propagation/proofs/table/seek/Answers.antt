use Rattle.std.proofs.Common.{inl, inr, ◌≡◌, ◌<◌, ◌≤◌, ℕ, length, get_or, List, Result, Ok, Err, arith, MatchResult, ap}
use Rattle.std.proofs.lemmas.List.Sorted.{searched}
use Rattle.std.proofs.lemmas.Bool.{cases_eq}
use Rattle.pb_propagation.specs.Rows.{StandsAt, WouldStand}
use Rattle.pb_propagation.proofs.table.seek.Goals as goal

-- Rows that rise do not fall.
not_falling : (rows : List ℕ) → ((i j : ℕ) → i < j → j < length rows → get_or rows i 0 < get_or rows j 0) → (i j : ℕ) → i ≤ j → j < length rows → get_or rows i 0 ≤ get_or rows j 0
not_falling rows f i j h k = elim (cases_eq i j) [
  | inl e ↦ let g = ap (λ (n : ℕ). get_or rows n 0) e in omega arith
  | inr n ↦ let g = f i j (omega arith) k in omega arith
]

named : (rows : List ℕ) (row : ℕ) (r : Result ℕ ℕ) → MatchResult r (λ i. (i < length rows) × (get_or rows i 0 ≡ row)) (λ i. (i ≤ length rows) × ((k : ℕ) → k < i → get_or rows k 0 < row) × ((k : ℕ) → i ≤ k → k < length rows → row < get_or rows k 0))
    → MatchResult r (λ i. StandsAt rows row i) (λ i. WouldStand rows row i)
named rows row (Ok i) h = record { inside = h.0; here = h.1 }
named rows row (Err i) h = record { inside = h.0; lower = h.1; higher = h.2 }

pub returns : goal.returns
returns c = named c.args.rows.now c.args.row c.binary_search.result (searched c.args.rows.now c.args.row c.binary_search.result c.binary_search.ensures.position (not_falling c.args.rows.now c.requires))
