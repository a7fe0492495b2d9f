use Rattle.std.proofs.Common.{◌≡◌, ℕ, ◌<◌, ◌≤◌, false}
use Rattle.bit_rows.specs.BitRows.{is_set}
use Rattle.bit_rows.proofs.Counting.{enough}
use Rattle.bit_rows.proofs.counts.bits_counted.Given as goal

abbrev pub invariant-loop-b : goal.invariant-loop-b
invariant-loop-b l = record {
  done : (v : ℕ) → v < l.b → is_set l.word v ≡ enough l.counts l.least v;
  todo : (v : ℕ) → l.b ≤ v → is_set l.word v ≡ false;
}
