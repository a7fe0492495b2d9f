use Rattle.std.proofs.Common.{◌≡◌, ℕ, ◌/◌, ◌<◌, nat_lt}
use Rattle.bit_rows.specs.BitRows.{has}
use Rattle.bit_rows.proofs.fill_below.Given as goal

abbrev pub invariant-loop-place : goal.invariant-loop-place
invariant-loop-place l = (v : ℕ) → v / 64 < l.place → has l.row v ≡ nat_lt v l.below
