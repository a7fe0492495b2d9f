use Rattle.std.proofs.Common.{◌≡◌, ℕ, ◌/◌, ◌<◌, ◌≤◌, ◌&&◌}
use Rattle.bit_rows.specs.BitRows.{has}
use Rattle.bit_rows.proofs.Counting.{enough}
use Rattle.bit_rows.proofs.counts.keep_counted.Given as goal

abbrev pub invariant-loop-place : goal.invariant-loop-place
invariant-loop-place l = record {
  done : (v : ℕ) → v / 64 < l.place → has l.row v ≡ (has l.initial.row v && enough l.counts l.least v);
  todo : (v : ℕ) → l.place ≤ v / 64 → has l.row v ≡ has l.initial.row v;
}
