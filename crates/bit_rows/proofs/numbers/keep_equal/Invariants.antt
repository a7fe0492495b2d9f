use Rattle.std.proofs.Common.{◌≡◌, ℕ, ◌/◌, ◌<◌, ◌≤◌, ◌&&◌, ◌==◌, get_or}
use Rattle.bit_rows.specs.BitRows.{has}
use Rattle.bit_rows.proofs.numbers.keep_equal.Given as goal

abbrev pub invariant-loop-place : goal.invariant-loop-place
invariant-loop-place l = record {
  done : (v : ℕ) → v / 64 < l.place → has l.row v ≡ (has l.fn.row v && get_or l.numbers v 0 == l.number);
  todo : (v : ℕ) → l.place ≤ v / 64 → has l.row v ≡ has l.fn.row v;
}
