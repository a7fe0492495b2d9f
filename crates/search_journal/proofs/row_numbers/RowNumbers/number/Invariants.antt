use Rattle.std.proofs.Common.{◌-◌, ◌≡◌, ℕ, ◌<◌, ◌≤◌, length, Some}
use Rattle.std.specs.Prelude.{slice_get}
use Rattle.search_journal.proofs.row_numbers.RowNumbers.number.Given as goal

abbrev pub invariant-loop-low : goal.invariant-loop-low
invariant-loop-low l =
    (l.low ≤ l.high) × (l.high ≤ length l.self-inside.notes.items) × ((k : ℕ) (x : ℕ × ℕ) → slice_get l.self-inside.notes.items k ≡ Some x → x.0 ≡ l.row → (l.low ≤ k) × (k < l.high))

abbrev pub decreases-loop-low : goal.decreases-loop-low
decreases-loop-low l = l.high - l.low
