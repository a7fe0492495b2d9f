use Rattle.std.proofs.Common.{◌≡◌, ℕ, ◌<◌, ◌≤◌, ◌==◌, false, get_or}
use Rattle.bit_rows.specs.BitRows.{is_set}
use Rattle.bit_rows.proofs.numbers.bits_equal.Given as goal

abbrev pub invariant-loop-b : goal.invariant-loop-b
invariant-loop-b l = record {
  done : (v : ℕ) → v < l.b → is_set l.word v ≡ (get_or l.numbers v 0 == l.number);
  todo : (v : ℕ) → l.b ≤ v → is_set l.word v ≡ false;
}
