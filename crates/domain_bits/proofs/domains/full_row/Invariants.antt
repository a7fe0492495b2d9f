use Rattle.std.proofs.Common.{◌≡◌, ℕ, ◌*◌, ◌<◌, ltb, length}
use Rattle.bit_rows.specs.BitRows.{has}
use Rattle.domain_bits.proofs.domains.full_row.Given as goal

abbrev pub invariant-loop-place : goal.invariant-loop-place
invariant-loop-place l = record {
  long : length l.row.items ≡ l.place;
  bits : (t : ℕ) → t < 64 * l.place → has l.row.items t ≡ ltb t l.values;
}
