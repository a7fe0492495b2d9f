-- Rows behind one another.
use Rattle.std.proofs.Common.{◌≡◌, ℕ, ◌+◌, ◌*◌, ◌<◌, ◌≤◌, List, length, drop, arith}
use borrow.Rule.Slice.PartMut.{put_mid}
use Rattle.bit_rows.specs.BitRows.{has, words_for}
use Rattle.bit_rows.proofs.Rows.{has-put_outside}

-- The row of another vertex is as it was.
pub other_row : (values width r s u from k : ℕ) (xs ys : List ℕ) → width ≡ words_for values → from ≡ r → k ≡ width → (s ≡ r → ⊥) → r * words_for values + words_for values ≤ length xs → length ys ≡ words_for values → u < values
    → has (drop (s * words_for values) (put_mid (from * width) k xs ys)) u ≡ has (drop (s * words_for values) xs) u
other_row values width r s u from k xs ys width_is is k_is other room long u_in =
    rw (is, k_is, width_is) (has-put_outside r s (words_for values) xs ys u other (omega (arith, room)) long (omega (arith, u_in)))
