use Rattle.std.proofs.Common.{◌≡◌, ℕ, ◌*◌, ◌<◌, ltb, length, drop}
use Rattle.bit_rows.specs.BitRows.{has}
use Rattle.domain_bits.proofs.domains.full_rows.Given as goal

abbrev pub invariant-loop-p : goal.invariant-loop-p
invariant-loop-p l = record {
  long : length l.rows.items ≡ l._p * l.words;
  bits : (p t : ℕ) → p < l._p → t < 64 * l.words → has (drop (p * l.words) l.rows.items) t ≡ ltb t l.values;
}
